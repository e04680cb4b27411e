-- Runs of held blocks only: no bin lists one of them, and a run that has another block has a free one.
use mathlib.Core.List.{List, [], ◌++◌, ◌∷◌}
use mathlib.Core.Logic.{◌⊎◌, inl, inr}
use mathlib.Core.Path.{◌≡◌, ap, refl}
use Prim.Native.Nat.{◌+◌, ◌≤◌, ℕ}
use Rattle.paper.proofs.reads.Unique.{NoRemainder}
use Rattle.paper.specs.Blocks.{Block, block, free, held, remainder}
use Rattle.paper.specs.Layout.{large}
use Rattle.paper.specs.Sound.{HeldFirst, Low, free_at}

abbrev pub AllHeld : List Block → Type 0
AllHeld [] = Unit {0}
AllHeld (block z held ∷ xs) = AllHeld xs
AllHeld (block z free ∷ xs) = ⊥
AllHeld (block z remainder ∷ xs) = ⊥

pub held-or-free : (xs : List Block) → NoRemainder xs
    → AllHeld xs ⊎ ((us : List Block) × (z : ℕ) × (vs : List Block) × (xs ≡ us ++ block z free ∷ vs))
held-or-free [] n = inl tt
held-or-free (block z remainder ∷ xs) n = absurd n
held-or-free (block z free ∷ xs) n = inr ([], z, xs, refl)
held-or-free (block z held ∷ xs) n = go (held-or-free xs n)
  where
    go : AllHeld xs ⊎ ((us : List Block) × (y : ℕ) × (vs : List Block) × (xs ≡ us ++ block y free ∷ vs))
        → AllHeld (block z held ∷ xs) ⊎ ((us : List Block) × (y : ℕ) × (vs : List Block) × (block z held ∷ xs ≡ us ++ block y free ∷ vs))
    go (inl h) = inl h
    go (inr r) = inr (block z held ∷ r.0, r.1, r.2, ap (λ (l : List Block). block z held ∷ l) r.3)

pub held-not-listed : (xs : List Block) → AllHeld xs → (p y q : ℕ) → free_at xs p y q ≡ 0
unfolding free_at
held-not-listed [] h p y q = refl
held-not-listed (block z held ∷ xs) h p y q = held-not-listed xs h (p + z) y q
held-not-listed (block z free ∷ xs) h p y q = absurd h
held-not-listed (block z remainder ∷ xs) h p y q = absurd h

-- the last of large blocks, and those below it
abbrev pub LastOf : List Block → Type 0
LastOf xs = (us : List Block) × (z : ℕ) × (xs ≡ us ++ block z held ∷ []) × Low us × (large ≤ z)

pub held-last : (xs : List Block) → AllHeld xs → Low xs → (xs ≡ []) ⊎ LastOf xs
held-last [] h l = inl refl
held-last (block z held ∷ xs) h l = inr (go (held-last xs h l.1))
  where
    go : (xs ≡ []) ⊎ LastOf xs → LastOf (block z held ∷ xs)
    go (inl e) = ([], z, ap (λ (k : List Block). block z held ∷ k) e, tt, l.0)
    go (inr r) = (block z held ∷ r.0, r.1, ap (λ (k : List Block). block z held ∷ k) r.2, (l.0, r.3), r.4)
held-last (block z free ∷ xs) h l = absurd h
held-last (block z remainder ∷ xs) h l = absurd h

-- the first of any
pub held_first : (xs : List Block) → AllHeld xs → (xs ≡ []) ⊎ ((z : ℕ) × (vs : List Block) × (xs ≡ block z held ∷ vs))
held_first [] h = inl refl
held_first (block z held ∷ xs) h = inr (z, xs, refl)
held_first (block z free ∷ xs) h = absurd h
held_first (block z remainder ∷ xs) h = absurd h

-- and the edge of such a run is held
pub held-edge : (xs : List Block) → AllHeld xs → HeldFirst xs
held-edge [] h = tt
held-edge (block z held ∷ xs) h = tt
held-edge (block z free ∷ xs) h = absurd h
held-edge (block z remainder ∷ xs) h = absurd h
