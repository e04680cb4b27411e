-- Where blocks are in a well_formed state: a listed one in the run that its size says, and no two blocks of a run on one byte.
use mathlib.Core.List.{List, [], ◌∷◌}
use mathlib.Core.Logic.{◌≢◌, ◌⊎◌, inl, inr}
use mathlib.Core.Path.{◌∙◌, ◌≡◌, ap, refl, sym}
use Prim.Native.Nat.{◌+◌, ◌<◌, ◌≤◌, ℕ}
use native.Mathlib.Omega.{arith}
use Rattle.paper.proofs.bins.BinLaws.{used-counts-where-first}
use Rattle.paper.proofs.bins.Bins.{first_count}
use Rattle.paper.proofs.bins.Listed.{loose}
use Rattle.paper.proofs.runs.Walk.{In, flag_past, in-low, in_split}
use Rattle.paper.specs.Bins.{count, first, used}
use Rattle.paper.specs.Blocks.{Block, Kind, State, block, blocks, free, held, remainder, size}
use Rattle.paper.specs.Governed.{flag_above}
use Rattle.paper.specs.Granting.{E, R}
use Rattle.paper.specs.Layout.{blocks_at, large}
use Rattle.paper.specs.Sound.{High, Low, WellFormed}

-- ---- the low run has large blocks only, the high run small ones only
pub low-large : (xs : List Block) (p P q z : ℕ) (k : Kind) (P' : ℕ) → Low xs → In xs p P q (block z k) P' → large ≤ z
low-large [] p P q z k P' l h = absurd h
low-large (block y held ∷ xs) p P q z k P' l (inl h) = omega (arith, ap size h.1, l.0)
low-large (block y held ∷ xs) p P q z k P' l (inr h) = low-large xs (p + y) 1 q z k P' l.1 h
low-large (block y remainder ∷ xs) p P q z k P' l h = absurd l
low-large (block y free ∷ []) p P q z k P' l h = absurd l
low-large (block y free ∷ block x held ∷ xs) p P q z k P' l (inl h) = omega (arith, ap size h.1, l.0)
low-large (block y free ∷ block x held ∷ xs) p P q z k P' l (inr (inl h)) = omega (arith, ap size h.1, l.1)
low-large (block y free ∷ block x held ∷ xs) p P q z k P' l (inr (inr h)) = low-large xs (p + y + x) 1 q z k P' l.2 h
low-large (block y free ∷ block x free ∷ xs) p P q z k P' l h = absurd l
low-large (block y free ∷ block x remainder ∷ xs) p P q z k P' l h = absurd l

pub high_small : (xs : List Block) (p P q z : ℕ) (k : Kind) (P' : ℕ) → High xs → In xs p P q (block z k) P' → z ≤ 64
high_small [] p P q z k P' l h = absurd h
high_small (block y held ∷ xs) p P q z k P' l (inl h) = omega (arith, ap size h.1, l.0)
high_small (block y held ∷ xs) p P q z k P' l (inr h) = high_small xs (p + y) 1 q z k P' l.1 h
high_small (block y free ∷ xs) p P q z k P' l (inl h) = omega (arith, ap size h.1, l.0)
high_small (block y free ∷ xs) p P q z k P' l (inr h) = high_small xs (p + y) (flag_above (block y free)) q z k P' l.1 h
high_small (block y remainder ∷ xs) p P q z k P' l h = absurd l

free-is-no-remainder : (z y : ℕ) → block z free ≡ block y remainder → ⊥
free-is-no-remainder z y e = let n : ◌≡◌ {A = ℕ} 0 1 = cc in omega arith

module _ (s : State) (W : WellFormed s) where
  -- a free block is in the low run if it is large, in the high run if it is small
  pub free-in-low : (z q P : ℕ) → large ≤ z → In (blocks s) blocks_at 1 q (block z free) P → In s.low blocks_at 1 q (block z free) P
  free-in-low z q P l h = go (in_split s.low (block s.rest remainder ∷ s.high) blocks_at 1 q (block z free) P h)
    where
      go : In s.low blocks_at 1 q (block z free) P ⊎ In (block s.rest remainder ∷ s.high) (R s) (flag_past 1 s.low) q (block z free) P
          → In s.low blocks_at 1 q (block z free) P
      go (inl i) = i
      go (inr (inl i)) = absurd (free-is-no-remainder z s.rest i.1)
      go (inr (inr i)) = absurd (omega (arith, high_small s.high (E s) 1 q z free P W.high_ok i))

  pub free-in-high : (z q P : ℕ) → z < large → In (blocks s) blocks_at 1 q (block z free) P → In s.high (E s) 1 q (block z free) P
  free-in-high z q P l h = go (in_split s.low (block s.rest remainder ∷ s.high) blocks_at 1 q (block z free) P h)
    where
      go : In s.low blocks_at 1 q (block z free) P ⊎ In (block s.rest remainder ∷ s.high) (R s) (flag_past 1 s.low) q (block z free) P
          → In s.high (E s) 1 q (block z free) P
      go (inl i) = absurd (omega (arith, low-large s.low blocks_at 1 q z free P W.low_ok i))
      go (inr (inl i)) = absurd (free-is-no-remainder z s.rest i.1)
      go (inr (inr i)) = i

  -- and so is a listed one
  pub listed-in-low : (z q : ℕ) → large ≤ z → 1 ≤ count q (s.bins z) → (P : ℕ) × In s.low blocks_at 1 q (block z free) P
  listed-in-low z q l h = let f = (loose s W).found z q h in (f.0, free-in-low z q f.0 l f.1)

  pub listed-in-high : (z q : ℕ) → z < large → 1 ≤ count q (s.bins z) → (P : ℕ) × In s.high (E s) 1 q (block z free) P
  listed-in-high z q l h = let f = (loose s W).found z q h in (f.0, free-in-high z q f.0 l f.1)

  -- the block that a large bin says to use, and the first of a small bin
  pub used-in-low : (z : ℕ) → large ≤ z → first (s.bins z) ≢ 0 → (P : ℕ) × In s.low blocks_at 1 (used (s.bins z)) (block z free) P
  used-in-low z l n = listed-in-low z (used (s.bins z)) l (used-counts-where-first (s.bins z) n)

  pub first-in-high : (z : ℕ) → z < large → first (s.bins z) ≢ 0 → (P : ℕ) × In s.high (E s) 1 (first (s.bins z)) (block z free) P
  first-in-high z l n = listed-in-high z (first (s.bins z)) l (first_count (s.bins z) (first (s.bins z)) refl n)

-- ---- two blocks of a run are one, or apart
pub in-apart : (xs : List Block) (p P q : ℕ) (b : Block) (P' r : ℕ) (c : Block) (P'' : ℕ) → In xs p P q b P' → In xs p P r c P''
    → ((q ≡ r) × (b ≡ c)) ⊎ (q + size b ≤ r) ⊎ (r + size c ≤ q)
in-apart [] p P q b P' r c P'' h k = absurd h
in-apart (d ∷ xs) p P q b P' r c P'' (inl h) (inl k) = inl (h.0 ∙ sym k.0, h.1 ∙ sym k.1)
in-apart (d ∷ xs) p P q b P' r c P'' (inl h) (inr k) =
    inr (inl (omega (arith, ap size h.1, in-low xs (p + size d) (flag_above d) r c P'' k)))
in-apart (d ∷ xs) p P q b P' r c P'' (inr h) (inl k) =
    inr (inr (omega (arith, ap size k.1, in-low xs (p + size d) (flag_above d) q b P' h)))
in-apart (d ∷ xs) p P q b P' r c P'' (inr h) (inr k) = in-apart xs (p + size d) (flag_above d) q b P' r c P'' h k
