-- Going home changes no sum: what was free in small blocks is free in the remainder.
use mathlib.Core.List.{List, [], ◌∷◌}
use mathlib.Core.Path.{◌∙◌, ◌≡◌, ap, refl}
use Prim.Native.Nat.{◌+◌}
use native.Mathlib.Omega.{arith}
use Rattle.paper.proofs.runs.Walk.{free_sum-append}
use Rattle.paper.specs.Blocks.{Block, State, block, blocks, free, free_sum, held, remainder}
use Rattle.paper.specs.GoingHome.{go_home, home_by, one_home}

home-free-sum : (xs : List Block) (s : State) → s.high ≡ xs → free_sum (blocks (home_by xs s)) ≡ free_sum (blocks s)
unfolding one_home
home-free-sum [] s is = refl
home-free-sum (block z held ∷ xs) s is = refl
home-free-sum (block z remainder ∷ xs) s is = refl
home-free-sum (block z free ∷ xs) s is =
    home-free-sum xs (one_home s z xs) refl
    ∙ omega (
      arith,
      free_sum-append s.low (block s.rest remainder ∷ s.high),
      free_sum-append s.low (block (s.rest + z) remainder ∷ xs),
      ap free_sum is,
    )

pub go_home-free-sum : (s : State) → free_sum (blocks (go_home s)) ≡ free_sum (blocks s)
unfolding go_home
go_home-free-sum s = home-free-sum s.high s refl
