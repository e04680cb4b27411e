-- "No two free ones touch, and the one just below R is held", of the parts of a run: what is left and what may stand beside a block,
-- read off the rule from below.
use mathlib.Core.List.{List, [], ◌++◌, ◌∷◌}
use mathlib.Core.Logic.{◌⊎◌, inl, inr}
use mathlib.Core.Path.{◌∙◌, ◌≡◌, ap, refl}
use Prim.Native.Nat.{◌+◌, ◌≤◌, ℕ}
use native.Mathlib.Omega.{arith}
use Rattle.paper.proofs.runs.LowHigh.{high-append, high_parts}
use Rattle.paper.specs.Blocks.{Block, block, free, held, remainder, total}
use Rattle.paper.specs.Layout.{large}
use Rattle.paper.specs.Runs.{ends_at, free_size}
use Rattle.paper.specs.Sound.{High, Low}
use Rattle.words.specs.Choice.{by=, if=-no, if=-yes}

-- large blocks of which no two free ones touch; the last may be free
abbrev pub Open : List Block → Type 0
Open [] = Unit {0}
Open (block z held ∷ xs) = (large ≤ z) × Open xs
Open (block z remainder ∷ xs) = ⊥
Open (block z free ∷ []) = large ≤ z
Open (block z free ∷ block y held ∷ xs) = (large ≤ z) × (large ≤ y) × Open xs
Open (block z free ∷ block y free ∷ xs) = ⊥
Open (block z free ∷ block y remainder ∷ xs) = ⊥

-- ---- around a held block

pub low_held : (us : List Block) (z : ℕ) (vs : List Block) → Low (us ++ block z held ∷ vs) → Open us × (large ≤ z) × Low vs
low_held [] z vs h = (tt, h.0, h.1)
low_held (block y held ∷ us) z vs h = let r = low_held us z vs h.1 in ((h.0, r.0), r.1, r.2)
low_held (block y remainder ∷ us) z vs h = absurd h
low_held (block y free ∷ []) z vs h = (h.0, h.1, h.2)
low_held (block y free ∷ block x held ∷ us) z vs h = let r = low_held us z vs h.2 in ((h.0, h.1, r.0), r.1, r.2)
low_held (block y free ∷ block x free ∷ us) z vs h = absurd h
low_held (block y free ∷ block x remainder ∷ us) z vs h = absurd h

-- ---- around a free block: below it nothing or a held one, above it a held one

pub low_free : (us : List Block) (z : ℕ) (vs : List Block) → Low (us ++ block z free ∷ vs)
    → Low us × (large ≤ z) × (y : ℕ) × (ws : List Block) × (vs ≡ block y held ∷ ws) × (large ≤ y) × Low ws
low_free [] z [] h = absurd h
low_free [] z (block y held ∷ vs) h = (tt, h.0, y, vs, refl, h.1, h.2)
low_free [] z (block y free ∷ vs) h = absurd h
low_free [] z (block y remainder ∷ vs) h = absurd h
low_free (block x held ∷ us) z vs h =
    let r = low_free us z vs h.1 in ((h.0, r.0), r.1, r.2, r.3, r.4, r.5, r.6)
low_free (block x remainder ∷ us) z vs h = absurd h
low_free (block x free ∷ []) z vs h = absurd h
low_free (block x free ∷ block w held ∷ us) z vs h =
    let r = low_free us z vs h.2 in ((h.0, h.1, r.0), r.1, r.2, r.3, r.4, r.5, r.6)
low_free (block x free ∷ block w free ∷ us) z vs h = absurd h
low_free (block x free ∷ block w remainder ∷ us) z vs h = absurd h

-- ---- the last block is free, or the run could stand alone

pub open-cases : (us : List Block) → Open us
    → Low us ⊎ ((ws : List Block) × (d : ℕ) × (us ≡ ws ++ block d free ∷ []) × (large ≤ d) × Low ws)
open-cases [] h = inl tt
open-cases (block y held ∷ us) h = go (open-cases us h.1)
  where
    go : Low us ⊎ ((ws : List Block) × (d : ℕ) × (us ≡ ws ++ block d free ∷ []) × (large ≤ d) × Low ws)
        → Low (block y held ∷ us) ⊎ ((ws : List Block) × (d : ℕ) × (block y held ∷ us ≡ ws ++ block d free ∷ []) × (large ≤ d) × Low ws)
    go (inl k) = inl (h.0, k)
    go (inr r) = inr (block y held ∷ r.0, r.1, ap (λ (l : List Block). block y held ∷ l) r.2, r.3, (h.0, r.4))
open-cases (block y remainder ∷ us) h = absurd h
open-cases (block y free ∷ []) h = inr ([], y, refl, h, tt)
open-cases (block y free ∷ block x held ∷ us) h = go (open-cases us h.2)
  where
    go : Low us ⊎ ((ws : List Block) × (d : ℕ) × (us ≡ ws ++ block d free ∷ []) × (large ≤ d) × Low ws)
        → Low (block y free ∷ block x held ∷ us)
        ⊎ ((ws : List Block) × (d : ℕ) × (block y free ∷ block x held ∷ us ≡ ws ++ block d free ∷ []) × (large ≤ d) × Low ws)
    go (inl k) = inl (h.0, h.1, k)
    go (inr r) = inr (
      block y free ∷ block x held ∷ r.0,
      r.1,
      ap (λ (l : List Block). block y free ∷ block x held ∷ l) r.2,
      r.3,
      (h.0, h.1, r.4),
    )
open-cases (block y free ∷ block x free ∷ us) h = absurd h
open-cases (block y free ∷ block x remainder ∷ us) h = absurd h

-- nothing free ends where a run ends that could stand alone
pub low-ends : (us : List Block) (p q : ℕ) → Low us → p + total us ≡ q → ends_at free_size us p q ≡ 0
unfolding ends_at
low-ends [] p q h e = refl
low-ends (block y held ∷ us) p q h e =
    by= (p + y) q (λ k. if=-yes (p + y) q _ _ k) (λ k. if=-no (p + y) q _ _ k ∙ low-ends us (p + y) q h.1 (omega arith))
low-ends (block y remainder ∷ us) p q h e = absurd h
low-ends (block y free ∷ []) p q h e = absurd h
low-ends (block y free ∷ block x held ∷ us) p q h e =
    if=-no (p + y) q _ _ (omega arith)
    ∙ by= (p + y + x) q (λ k. if=-yes (p + y + x) q _ _ k)
    (λ k. if=-no (p + y + x) q _ _ k ∙ low-ends us (p + y + x) q h.2 (omega arith))
low-ends (block y free ∷ block x free ∷ us) p q h e = absurd h
low-ends (block y free ∷ block x remainder ∷ us) p q h e = absurd h

-- ---- the first block is free, and then a held one stands above it, or it is not

abbrev pub NotFree : List Block → Type 0
NotFree [] = Unit {0}
NotFree (block z held ∷ xs) = Unit {0}
NotFree (block z remainder ∷ xs) = Unit {0}
NotFree (block z free ∷ xs) = ⊥

pub low-cases : (vs : List Block) → Low vs
    → NotFree vs ⊎ ((u y : ℕ) × (ws : List Block) × (vs ≡ block u free ∷ block y held ∷ ws) × (large ≤ u) × (large ≤ y) × Low ws)
low-cases [] h = inl tt
low-cases (block z held ∷ vs) h = inl tt
low-cases (block z remainder ∷ vs) h = absurd h
low-cases (block z free ∷ []) h = absurd h
low-cases (block z free ∷ block y held ∷ vs) h = inr (z, y, vs, refl, h.0, h.1, h.2)
low-cases (block z free ∷ block y free ∷ vs) h = absurd h
low-cases (block z free ∷ block y remainder ∷ vs) h = absurd h

-- ---- small blocks

pub high-release : (us : List Block) (z : ℕ) (vs : List Block) → High (us ++ block z held ∷ vs) → High (us ++ block z free ∷ vs)
high-release us z vs h = let r = high_parts us (block z held ∷ vs) h in high-append us (block z free ∷ vs) r.0 r.1
