-- Where the blocks of a list start, and what the walk finds there.
use mathlib.Core.List.{List, [], ◌++◌, ◌∷◌}
use mathlib.Core.Logic.{◌⊎◌, inl, inr}
use mathlib.Core.Option.{Option, none}
use mathlib.Core.Path.{◌∙◌, ◌≡◌, ap, refl, subst, sym}
use Prim.Native.Nat.{◌%◌, ◌+◌, ◌-◌, ◌<◌, ◌≤◌, ℕ}
use native.Mathlib.Omega.{arith}
use Rattle.paper.specs.Blocks.{Block, block, free, free_sum, held, remainder, size, total}
use Rattle.paper.specs.Governed.{flag_above, walk}
use Rattle.paper.specs.Layout.{large}
use Rattle.paper.specs.Sound.{Sized}
use Rattle.words.specs.Choice.{by<, ifs}

-- ---- block b starts at q, with flag P'
abbrev pub In : List Block → ℕ → ℕ → ℕ → Block → ℕ → Type 0
In [] p P q b P' = ⊥
In (c ∷ xs) p P q b P' = ((q ≡ p) × (b ≡ c) × (P' ≡ P)) ⊎ In xs (p + size c) (flag_above c) q b P'

pub in-low : (xs : List Block) (p P q : ℕ) (b : Block) (P' : ℕ) → In xs p P q b P' → p ≤ q
in-low [] p P q b P' h = absurd h
in-low (c ∷ xs) p P q b P' (inl h) = omega arith
in-low (c ∷ xs) p P q b P' (inr h) = omega (arith, in-low xs (p + size c) (flag_above c) q b P' h)

pub in-high : (xs : List Block) (p P q : ℕ) (b : Block) (P' : ℕ) → In xs p P q b P' → q + size b ≤ p + total xs
in-high [] p P q b P' h = absurd h
in-high (c ∷ xs) p P q b P' (inl h) = omega (arith, ap size h.1)
in-high (c ∷ xs) p P q b P' (inr h) = omega (arith, in-high xs (p + size c) (flag_above c) q b P' h)

pub in-sized : (xs : List Block) (p P q : ℕ) (b : Block) (P' : ℕ) → Sized xs → In xs p P q b P' → (8 ≤ size b) × (size b % 8 ≡ 0)
in-sized [] p P q b P' s h = absurd h
in-sized (c ∷ xs) p P q b P' s (inl h) = rw h.1 s.0
in-sized (c ∷ xs) p P q b P' s (inr h) = in-sized xs (p + size c) (flag_above c) q b P' s.1 h

pub in-aligned : (xs : List Block) (p P q : ℕ) (b : Block) (P' : ℕ) → Sized xs → p % 8 ≡ 0 → In xs p P q b P' → q % 8 ≡ 0
in-aligned [] p P q b P' s e h = absurd h
in-aligned (c ∷ xs) p P q b P' s e (inl h) = omega arith
in-aligned (c ∷ xs) p P q b P' s e (inr h) = in-aligned xs (p + size c) (flag_above c) q b P' s.1 (omega arith) h

pub walk-in : (f : ℕ → Block → ℕ → ℕ → Option ℕ) (xs : List Block) (p P q : ℕ) (b : Block) (P' a : ℕ) → In xs p P q b P' → q ≤ a → a < q + size b
    → walk f xs p P a ≡ f q b P' (a - q)
unfolding walk
walk-in f [] p P q b P' a h l m = absurd h
walk-in f (c ∷ xs) p P q b P' a (inl h) l m =
    let i : a < p + size c = omega (arith, ap size h.1) in
    simp ifs (rw (h.0, h.1, h.2))
walk-in f (c ∷ xs) p P q b P' a (inr h) l m =
    let i : p + size c ≤ a = omega (arith, in-low xs (p + size c) (flag_above c) q b P' h) in
    simp ifs (walk-in f xs (p + size c) (flag_above c) q b P' a h l m)

-- two walks over one list, related where they stop
pub walk-rel : (R : Option ℕ → Option ℕ → Type 0) → R none none → (f g : ℕ → Block → ℕ → ℕ → Option ℕ) (xs : List Block) (p P a : ℕ) → p ≤ a
    → ((q : ℕ) (b : Block) (P' : ℕ) → In xs p P q b P' → q ≤ a → a < q + size b → R (f q b P' (a - q)) (g q b P' (a - q)))
    → R (walk f xs p P a) (walk g xs p P a)
unfolding walk
walk-rel R r f g [] p P a l h = r
walk-rel R r f g (c ∷ xs) p P a l h =
    by< a (p + size c) (λ m. simp ifs (h p c P (inl (refl, refl, refl)) l m))
    (λ m. simp ifs (walk-rel R r f g xs (p + size c) (flag_above c) a m (λ q b P' i. h q b P' (inr i))))

-- at most one block starts at q
pub in-unique : (xs : List Block) (p P q : ℕ) (b b' : Block) (P' P'' : ℕ) → Sized xs → In xs p P q b P' → In xs p P q b' P'' → (b ≡ b') × (P' ≡ P'')
in-unique [] p P q b b' P' P'' s h k = absurd h
in-unique (c ∷ xs) p P q b b' P' P'' s (inl h) (inl k) = (h.1 ∙ sym k.1, h.2 ∙ sym k.2)
in-unique (c ∷ xs) p P q b b' P' P'' s (inl h) (inr k) = absurd (omega (arith, in-low xs (p + size c) (flag_above c) q b' P'' k))
in-unique (c ∷ xs) p P q b b' P' P'' s (inr h) (inl k) = absurd (omega (arith, in-low xs (p + size c) (flag_above c) q b P' h))
in-unique (c ∷ xs) p P q b b' P' P'' s (inr h) (inr k) = in-unique xs (p + size c) (flag_above c) q b b' P' P'' s.1 h k

-- the flag past xs
abbrev pub flag_past : ℕ → List Block → ℕ
flag_past P [] = P
flag_past P (b ∷ xs) = flag_past (flag_above b) xs

pub total-append : (xs ys : List Block) → total (xs ++ ys) ≡ total xs + total ys
total-append [] ys = omega arith
total-append (b ∷ xs) ys = omega (arith, total-append xs ys)

pub free_sum-append : (xs ys : List Block) → free_sum (xs ++ ys) ≡ free_sum xs + free_sum ys
free_sum-append [] ys = omega arith
free_sum-append (block z held ∷ xs) ys = free_sum-append xs ys
free_sum-append (block z free ∷ xs) ys = omega (arith, free_sum-append xs ys)
free_sum-append (block z remainder ∷ xs) ys = omega (arith, free_sum-append xs ys)

pub in-mid : (xs ys : List Block) (p P q : ℕ) (b : Block) (P' : ℕ) → In ys (p + total xs) (flag_past P xs) q b P' → In (xs ++ ys) p P q b P'
in-mid [] ys p P q b P' h = subst (λ (k : ℕ). In ys k P q b P') (omega arith) h
in-mid (c ∷ xs) ys p P q b P' h = inr
    (in-mid xs ys (p + size c) (flag_above c) q b P' (subst (λ (k : ℕ). In ys k (flag_past (flag_above c) xs) q b P') (omega arith) h))

pub flag_above-le : (b : Block) → flag_above b ≤ 1
flag_above-le (block z held) = omega arith
flag_above-le (block z remainder) = omega arith
flag_above-le (block z free) = by< z large (λ l. simp ifs (omega arith)) (λ l. simp ifs (omega arith))

pub in-flag : (xs : List Block) (p P q : ℕ) (b : Block) (P' : ℕ) → P ≤ 1 → In xs p P q b P' → P' ≤ 1
in-flag [] p P q b P' l h = absurd h
in-flag (c ∷ xs) p P q b P' l (inl h) = omega (arith, h.2)
in-flag (c ∷ xs) p P q b P' l (inr h) = in-flag xs (p + size c) (flag_above c) q b P' (flag_above-le c) h

pub in_left : (xs ys : List Block) (p P q : ℕ) (b : Block) (P' : ℕ) → In xs p P q b P' → In (xs ++ ys) p P q b P'
in_left [] ys p P q b P' h = absurd h
in_left (c ∷ xs) ys p P q b P' (inl h) = inl h
in_left (c ∷ xs) ys p P q b P' (inr h) = inr (in_left xs ys (p + size c) (flag_above c) q b P' h)

pub sized-parts : (xs ys : List Block) → Sized (xs ++ ys) → Sized xs × Sized ys
sized-parts [] ys h = (tt, h)
sized-parts (b ∷ xs) ys h = let r = sized-parts xs ys h.1 in ((h.0, r.0), r.1)

pub sized-append : (xs ys : List Block) → Sized xs → Sized ys → Sized (xs ++ ys)
sized-append [] ys h k = k
sized-append (b ∷ xs) ys h k = (h.0, sized-append xs ys h.1 k)

pub in_split : (xs ys : List Block) (p P q : ℕ) (b : Block) (P' : ℕ) → In (xs ++ ys) p P q b P'
    → In xs p P q b P' ⊎ In ys (p + total xs) (flag_past P xs) q b P'
in_split [] ys p P q b P' h = inr (subst (λ (k : ℕ). In ys k P q b P') (omega arith) h)
in_split (c ∷ xs) ys p P q b P' (inl h) = inl (inl h)
in_split (c ∷ xs) ys p P q b P' (inr h) = go (in_split xs ys (p + size c) (flag_above c) q b P' h)
  where
    go : In xs (p + size c) (flag_above c) q b P' ⊎ In ys (p + size c + total xs) (flag_past (flag_above c) xs) q b P'
        → In (c ∷ xs) p P q b P' ⊎ In ys (p + (size c + total xs)) (flag_past (flag_above c) xs) q b P'
    go (inl i) = inl (inr i)
    go (inr i) = inr (subst (λ (k : ℕ). In ys k (flag_past (flag_above c) xs) q b P') (omega arith) i)

pub sized-eight : (xs : List Block) → Sized xs → total xs % 8 ≡ 0
sized-eight [] h = refl
sized-eight (b ∷ xs) h = omega (arith, h.0, sized-eight xs h.1)

pub free_sum-le : (xs : List Block) → free_sum xs ≤ total xs
free_sum-le [] = omega arith
free_sum-le (block z held ∷ xs) = omega (arith, free_sum-le xs)
free_sum-le (block z free ∷ xs) = omega (arith, free_sum-le xs)
free_sum-le (block z remainder ∷ xs) = omega (arith, free_sum-le xs)
