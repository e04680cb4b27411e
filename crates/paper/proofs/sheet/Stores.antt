-- The law of an operation: stores that all fit the sheet after make what that sheet writes, if it has nothing new elsewhere.
use mathlib.Core.List.{List, [], ◌∷◌}
use mathlib.Core.Logic.{◌≢◌, ◌⊎◌, inl, inr}
use mathlib.Core.Option.{Option, none, some}
use mathlib.Core.Path.{◌∙◌, ◌≡◌, ap, refl, subst, sym}
use Prim.Native.Nat.{◌%◌, ◌*◌, ◌+◌, ◌/◌, ◌<◌, ◌≤◌, ℕ}
use native.Mathlib.Omega.{arith}
use lib.ListN.{get_or, length}
use Rattle.paper.proofs.sheet.Octets.{get_or-put-in}
use Rattle.paper.proofs.sheet.Written.{get_or-write, is-write}
use Rattle.paper.specs.Sheet.{Holds, Sheet, byte, octet, pick, write}
use Rattle.words.proofs.Laws.{get_or-put, put-length}
use Rattle.words.specs.Choice.{eq?, lt?}
use Rattle.words.specs.Words.{put_at}

-- ---- a run of stores
abbrev pub puts : List (ℕ × ℕ) → List ℕ → List ℕ
puts [] bs = bs
puts (p ∷ ps) bs = puts ps (put_at 4 bs p.0 p.1)

-- each store is at a word of the buffer, and gives it the sheet's value
abbrev pub Good : Sheet → ℕ → List (ℕ × ℕ) → Type 0
Good g n [] = Unit {0}
Good g n (p ∷ ps) = ((p.0 % 4 ≡ 0) × (p.0 + 4 ≤ n) × (g p.0 ≡ some p.1)) × Good g n ps

-- no store is at a
abbrev pub Elsewhere : ℕ → List (ℕ × ℕ) → Type 0
Elsewhere a [] = Unit {0}
Elsewhere a (p ∷ ps) = (a ≢ p.0) × Elsewhere a ps

pub length-puts : (ps : List (ℕ × ℕ)) (bs : List ℕ) → length (puts ps bs) ≡ length bs
length-puts [] bs = refl
length-puts (p ∷ ps) bs = length-puts ps (put_at 4 bs p.0 p.1) ∙ put-length 4 bs p.0 p.1

put_byte : (bs : List ℕ) (a v i : ℕ) → a % 4 ≡ 0 → a + 4 ≤ length bs → a ≡ i / 4 * 4 → get_or (put_at 4 bs a v) i 0 ≡ octet v (i % 4)
put_byte bs a v i al l e = get_or-put-in 4 bs a v i (i % 4) (omega arith) (omega arith) l

put_other : (bs : List ℕ) (a v i : ℕ) → a % 4 ≡ 0 → i / 4 * 4 ≢ a → get_or (put_at 4 bs a v) i 0 ≡ get_or bs i 0
put_other bs a v i al e = get_or-put 4 bs a v i (side (lt? i a))
  where
    side : (i < a) ⊎ (a ≤ i) → (i < a) ⊎ (a + 4 ≤ i)
    side (inl h) = inl h
    side (inr h) = inr (omega arith)

-- a byte after the stores: the sheet's where there was a store, the old one elsewhere
puts-at : (g : Sheet) (ps : List (ℕ × ℕ)) (bs : List ℕ) (i : ℕ) → Good g (length bs) ps
    → (get_or (puts ps bs) i 0 ≡ byte g i (get_or bs i 0)) ⊎ (Elsewhere (i / 4 * 4) ps × (get_or (puts ps bs) i 0 ≡ get_or bs i 0))
unfolding byte
puts-at g [] bs i h = inr (tt, refl)
puts-at g (p ∷ ps) bs i h =
    followed (eq? (i / 4 * 4) p.0)
    (puts-at g ps (put_at 4 bs p.0 p.1) i (subst (λ (n : ℕ). Good g n ps) (sym (put-length 4 bs p.0 p.1)) h.1))
  where
    c : ℕ
    c = i / 4 * 4

    bs₁ : List ℕ
    bs₁ = put_at 4 bs p.0 p.1

    here : c ≡ p.0 → byte g i (get_or bs i 0) ≡ octet p.1 (i % 4)
    here e = ap (λ (o : Option ℕ). pick o (i % 4) (get_or bs i 0)) (ap g e ∙ h.0.2)

    here₁ : c ≡ p.0 → byte g i (get_or bs₁ i 0) ≡ octet p.1 (i % 4)
    here₁ e = ap (λ (o : Option ℕ). pick o (i % 4) (get_or bs₁ i 0)) (ap g e ∙ h.0.2)

    followed : (c ≡ p.0) ⊎ (c ≢ p.0) → (get_or (puts ps bs₁) i 0 ≡ byte g i (get_or bs₁ i 0)) ⊎ (Elsewhere c ps × (get_or (puts ps bs₁) i 0 ≡ get_or bs₁ i 0))
        → (get_or (puts ps bs₁) i 0 ≡ byte g i (get_or bs i 0)) ⊎ (Elsewhere c (p ∷ ps) × (get_or (puts ps bs₁) i 0 ≡ get_or bs i 0))
    followed (inl e) (inl q) = inl (q ∙ here₁ e ∙ sym (here e))
    followed (inl e) (inr q) = inl (q.1 ∙ put_byte bs p.0 p.1 i h.0.0 h.0.1 (sym e) ∙ sym (here e))
    followed (inr e) (inl q) = inl (q ∙ ap (byte g i) (put_other bs p.0 p.1 i h.0.0 e))
    followed (inr e) (inr q) = inr ((e, q.0), q.1 ∙ put_other bs p.0 p.1 i h.0.0 e)

-- the law: from a buffer that holds g, stores that all fit g' make what g' writes, if g' has nothing new elsewhere
pub finish : (g g' : Sheet) (bs : List ℕ) (ps : List (ℕ × ℕ)) → Holds g bs → Good g' (length bs) ps
    → ((a : ℕ) → a % 4 ≡ 0 → a < length bs → Elsewhere a ps → (g' a ≡ none) ⊎ (g' a ≡ g a)) → puts ps bs ≡ write g' bs
unfolding Holds byte
finish g g' bs ps h good frame = is-write g' bs (puts ps bs) (length-puts ps bs) (λ i b. at i b (puts-at g' ps bs i good))
  where
    still : (i : ℕ) → i < length bs → byte g i (get_or bs i 0) ≡ get_or bs i 0
    still i b = sym (get_or-write g bs i b) ∙ ap (λ (t : List ℕ). get_or t i 0) h

    keep : (i : ℕ) → i < length bs → (g' (i / 4 * 4) ≡ none) ⊎ (g' (i / 4 * 4) ≡ g (i / 4 * 4)) → get_or bs i 0 ≡ byte g' i (get_or bs i 0)
    keep i b (inl e) = sym (ap (λ (o : Option ℕ). pick o (i % 4) (get_or bs i 0)) e)
    keep i b (inr e) = sym (ap (λ (o : Option ℕ). pick o (i % 4) (get_or bs i 0)) e ∙ still i b)

    at : (i : ℕ) → i < length bs → (get_or (puts ps bs) i 0 ≡ byte g' i (get_or bs i 0)) ⊎ (Elsewhere (i / 4 * 4) ps × (get_or (puts ps bs) i 0 ≡ get_or bs i 0))
        → get_or (puts ps bs) i 0 ≡ byte g' i (get_or bs i 0)
    at i b (inl e) = e
    at i b (inr q) = q.1 ∙ keep i b (frame (i / 4 * 4) (omega arith) (omega arith) q.0)
