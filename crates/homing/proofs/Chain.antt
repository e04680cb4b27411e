-- A list of starts and the words that lead along it: each member's own leads to the next one, and another leads to the first.
use mathlib.Core.List.{List, [], ◌∷◌}
use mathlib.Core.Logic.{◌≢◌}
use mathlib.Core.Option.{Option, none, some}
use mathlib.Core.Path.{◌∙◌, ◌≡◌, refl, subst}
use Prim.Native.Nat.{◌%◌, ◌+◌, ◌≤◌, ℕ}
use native.Mathlib.Omega.{arith}
use Rattle.paper.proofs.bins.Bins.{count-cons, count-here, count-nil, next-absent}
use Rattle.paper.proofs.sheet.Stores.{Elsewhere, Good}
use Rattle.paper.specs.Bins.{count, first, next_in}
use Rattle.paper.specs.Layout.{small_next_at}
use Rattle.paper.specs.Sheet.{Sheet}
use Rattle.words.specs.Choice.{by=, if=-no, if=-yes}

-- ---- the starts of blocks, none of them twice
pub record Starts (xs : List ℕ) : Type 0 where
  pub once : (q : ℕ) → count q xs ≤ 1
  pub each : (q : ℕ) → 1 ≤ count q xs → (8 ≤ q) × (q ≤ 65536) × (q % 8 ≡ 0)

module _ (x : ℕ) (xs : List ℕ) (S : Starts (x ∷ xs)) where
  pub starts-tail : Starts xs
  starts-tail =
      record {
        once = λ q. omega (arith, S.once q, count-cons q x xs);
        each = λ q o. S.each q (omega (arith, count-cons q x xs));
      }

  pub starts-head : (8 ≤ x) × (x ≤ 65536) × (x % 8 ≡ 0)
  starts-head = S.each x (omega (arith, count-here x xs))

  -- the first does not stand there again
  pub starts-new : (q : ℕ) → 1 ≤ count q xs → x ≢ q
  starts-new q o e = omega (arith, S.once q, count-cons q x xs, if=-yes {A = ℕ} x q 1 0 e)

some-not-none : (o : Option ℕ) (v : ℕ) → o ≡ some v → o ≡ none → ⊥
some-not-none o v e k = let z : ◌≡◌ {A = ℕ} 0 1 = cc in omega arith

-- only a member has a next one
pub next-listed : (xs : List ℕ) (q v : ℕ) → next_in xs q ≡ some v → 1 ≤ count q xs
next-listed xs q v e = by= (count q xs) 0 (λ o. absurd (some-not-none (next_in xs q) v e (next-absent xs q o))) (λ o. omega arith)

-- ---- F says of each member where it leads
module _ (F : ℕ → ℕ → Type 0) where
  abbrev pub Chain : List ℕ → Type 0
  Chain [] = Unit {0}
  Chain (x ∷ xs) = F x (first xs) × Chain xs

  -- where each leads to the next one in the list
  pub chain-of : (xs : List ℕ) → ((q : ℕ) → count q xs ≤ 1) → ((q v : ℕ) → next_in xs q ≡ some v → F q v) → Chain xs
  unfolding next_in
  chain-of [] once f = tt
  chain-of (x ∷ xs) once f = (
    f x (first xs) (if=-yes x x _ _ refl),
    chain-of xs (λ q. omega (arith, once q, count-cons q x xs)) (λ q v e. f q v (if=-no x q _ _ (new q v e) ∙ e)),
  )
    where
      new : (q v : ℕ) → next_in xs q ≡ some v → x ≢ q
      new q v e k = omega (arith, next-listed xs q v e, once q, count-cons q x xs, if=-yes {A = ℕ} x q 1 0 k)

-- ---- the stores that lead along a list, from the word at a on
abbrev pub links : ℕ → List ℕ → List (ℕ × ℕ)
links a [] = (a, 0) ∷ []
links a (x ∷ xs) = (a, x) ∷ links (x + small_next_at) xs

-- they are at a and at the words of the members
pub links-elsewhere : (b a : ℕ) (xs : List ℕ) → b ≢ a → ((x : ℕ) → 1 ≤ count x xs → b ≢ x + small_next_at) → Elsewhere b (links a xs)
links-elsewhere b a [] n h = (n, tt)
links-elsewhere b a (x ∷ xs) n h = (
  n,
  links-elsewhere b (x + small_next_at) xs (h x (omega (arith, count-here x xs))) (λ y o. h y (omega (arith, count-cons y x xs))),
)

pub not-at-first : (b a : ℕ) (xs : List ℕ) → Elsewhere b (links a xs) → b ≢ a
not-at-first b a [] o = o.0
not-at-first b a (x ∷ xs) o = o.0

pub not-at-member : (b a : ℕ) (xs : List ℕ) → Elsewhere b (links a xs) → (x : ℕ) → 1 ≤ count x xs → b ≢ x + small_next_at
not-at-member b a [] o y k = absurd (omega (arith, count-nil y))
not-at-member b a (x ∷ xs) o y k =
    by= x y
    (λ e. subst (λ (v : ℕ). b ≢ v + small_next_at) e (not-at-first b (x + small_next_at) xs o.1))
    (λ n. not-at-member b (x + small_next_at) xs o.1 y (omega (arith, count-cons y x xs, if=-no {A = ℕ} x y 1 0 n)))

-- each fits a sheet that has the list's words
module _ (g : Sheet) (n : ℕ) where
  abbrev pub Fits : ℕ → ℕ → Type 0
  Fits a v = (a % 4 ≡ 0) × (a + 4 ≤ n) × (g a ≡ some v)

  pub links-good : (a : ℕ) (xs : List ℕ) → Fits a (first xs) → Chain (λ q v. Fits (q + small_next_at) v) xs → Good g n (links a xs)
  unfolding first
  links-good a [] f c = (f, tt)
  links-good a (x ∷ xs) f c = (f, links-good (x + small_next_at) xs c.0 c.1)
