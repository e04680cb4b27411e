-- The definitions tried: over a patterned buffer the sheets of fourteen small pools are byte for byte what the second program writes.
use mathlib.Core.Path.{◌≡◌, refl}
use mathlib.Core.List.{List, [], ◌∷◌, map}
use Prim.Native.Nat.{ℕ, zero, suc, ◌+◌, ◌*◌, ◌%◌}
use Rattle.words.specs.Choice.{if<, if=}
use Rattle.heads.specs.Links.{link_word}
use Rattle.paper.specs.Blocks.{State, end}
use Rattle.paper.specs.Bins.{first, prev_in, next_in, seek}
use Rattle.paper.specs.Sheet.{byte, map_at, write}
use lib.Count.{count_trailing_zeros}
use Rattle.paper.specs.Governed.{height, reach, above, index, large_word, small_word, walk, header_word, sheet}
use Rattle.paper.proofs.cases.Pools.{states, pools}

-- the buffer before: byte i is 7 i + 3
unfoldable pub patterned : ℕ → ℕ → List ℕ
patterned zero i = []
patterned (suc n) i = (7 * i + 3) % 256 ∷ patterned n (i + 1)

abbrev pub written : State → List ℕ
written s = write (sheet s) (patterned (end s) 0)

pub pools-written : map written states ≡ pools
unfolding patterned if< if= link_word first prev_in next_in seek byte map_at write count_trailing_zeros height reach above index large_word small_word walk header_word sheet
pools-written = refl
