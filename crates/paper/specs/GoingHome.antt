-- "As long as the block at E is free, it leaves its bin and joins the remainder" (request 2026-06).
use Rattle.std.specs.Prelude.{List, [], ◌∷◌, ℕ, suc, ◌+◌}
use Rattle.paper.specs.Blocks.{held, free, remainder, Block, block, State}
use Rattle.paper.specs.Bins.{rebin, leave}
use Rattle.paper.specs.Granting.{E}

-- the free block at E, of size z, does so; above are the blocks above it
unfoldable pub one_home : State → ℕ → List Block → State
one_home s z above =
    record {
      top = s.top;
      low = s.low;
      rest = s.rest + z;
      high = above;
      bins = rebin s.bins z (leave (E s) (s.bins z));
    }

-- "as long as": by the blocks from E on
abbrev pub home_by : List Block → State → State
home_by [] s = s
home_by (block z held ∷ xs) s = s
home_by (block z remainder ∷ xs) s = s
home_by (block z free ∷ xs) s = home_by xs (one_home s z xs)

unfoldable pub go_home : State → State
go_home s = home_by s.high s

-- how many do
abbrev pub free_first : List Block → ℕ
free_first [] = 0
free_first (block z held ∷ xs) = 0
free_first (block z remainder ∷ xs) = 0
free_first (block z free ∷ xs) = suc (free_first xs)
