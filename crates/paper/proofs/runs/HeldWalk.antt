-- A held block of the low run or of the high run is one that the walk finds; so it has a size, and ends within the pool.
use mathlib.Core.List.{◌∷◌}
use mathlib.Core.Logic.{◌≢◌, ◌⊎◌, inl, inr}
use mathlib.Core.Path.{refl, sym}
use Prim.Native.Nat.{◌+◌, ◌-◌, ◌≤◌, ℕ}
use native.Mathlib.Omega.{arith}
use Rattle.paper.proofs.runs.HeldPlaces.{HeldHigh, HeldLow, held-at-lies, held_place, held_at}
use Rattle.paper.proofs.runs.Walk.{In, flag_past, in-high, in_left, in-mid, in-sized}
use Rattle.paper.specs.Blocks.{State, block, blocks, end, held, remainder}
use Rattle.paper.specs.Layout.{blocks_at}
use Rattle.paper.specs.Sound.{WellFormed}

pub held_in : (s : State) (q z : ℕ) → HeldLow s q z ⊎ HeldHigh s q z → (P : ℕ) × In (blocks s) blocks_at 1 q (block z held) P
held_in s q z (inl h) = (
  flag_past 1 h.before,
  in_left s.low (block s.rest remainder ∷ s.high) blocks_at 1 q (block z held) (flag_past 1 h.before)
      (rw h.is (in-mid h.before (block z held ∷ h.after) blocks_at 1 q (block z held) (flag_past 1 h.before) (inl (sym h.starts, refl, refl)))),
)
held_in s q z (inr h) = (
  flag_past 1 h.before,
  in-mid s.low (block s.rest remainder ∷ s.high) blocks_at 1 q (block z held) (flag_past 1 h.before)
      (inr (rw h.is (in-mid h.before (block z held ∷ h.after) _ 1 q (block z held) (flag_past 1 h.before) (inl (sym h.starts, refl, refl))))),
)

-- the payload at an offset
pub record HeldWithin (s : State) (offset : ℕ) : Type 0 where
  pub sized : 8 ≤ held_at s offset
  pub starts : 4 ≤ offset
  pub ends : offset + (held_at s offset - 4) ≤ end s

pub held-within : (s : State) → WellFormed s → (offset : ℕ) → held_at s offset ≢ 0 → HeldWithin s offset
held-within s W offset n =
    let one : 1 ≤ held_at s offset = omega arith in
    let p = held_place s offset one in
    let i = held_in s (offset - 4) (held_at s offset) (held-at-lies s W offset one) in
    let z = in-sized (blocks s) blocks_at 1 (offset - 4) (block (held_at s offset) held) i.0 W.sized i.1 in
    let h = in-high (blocks s) blocks_at 1 (offset - 4) (block (held_at s offset) held) i.0 i.1 in
    record { sized = z.0; starts = p.0; ends = omega (arith, h, z, p.0) }
