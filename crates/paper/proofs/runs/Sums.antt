-- "Held bytes + free word + 172 = n": each block's size is in one of the two sums, and the remainder has at least 4 bytes to take off.
use mathlib.Core.List.{List, [], ◌∷◌}
use mathlib.Core.Path.{◌≡◌, refl}
use Prim.Native.Nat.{◌+◌, ◌-◌, ◌≤◌}
use native.Mathlib.Omega.{arith}
use Rattle.paper.proofs.runs.Walk.{free_sum-append, sized-parts}
use Rattle.paper.specs.Blocks.{Block, State, block, blocks, end, free, free_sum, held, remainder, total}
use Rattle.paper.specs.Runs.{held_size, sum_of}
use Rattle.paper.specs.Sound.{Sized, WellFormed}

pub held-and-free : (xs : List Block) → sum_of held_size xs + free_sum xs ≡ total xs
unfolding sum_of
held-and-free [] = refl
held-and-free (block z held ∷ xs) = omega (arith, held-and-free xs)
held-and-free (block z free ∷ xs) = omega (arith, held-and-free xs)
held-and-free (block z remainder ∷ xs) = omega (arith, held-and-free xs)

pub free-at-least : (s : State) → Sized (blocks s) → 8 ≤ free_sum (blocks s)
free-at-least s h =
    omega (arith, free_sum-append s.low (block s.rest remainder ∷ s.high), (sized-parts s.low (block s.rest remainder ∷ s.high) h).1.0.0)

pub held-and-free-word : (s : State) → WellFormed s → sum_of held_size (blocks s) + (free_sum (blocks s) - 4) + 172 ≡ end s
held-and-free-word s W = omega (arith, held-and-free (blocks s), free-at-least s W.sized)
