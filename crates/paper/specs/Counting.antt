-- "Figures": six sums over the blocks, and the largest grant; and the count by size class.
use Rattle.std.specs.Prelude.{List, [], ◌∷◌, ℕ, zero, suc, ◌+◌, ◌-◌}
use Rattle.words.specs.Choice.{if=, if<}
use Rattle.classes.specs.Class.{class_of}
use Rattle.paper.specs.declared.Figures.{Figures}
use Rattle.paper.specs.Layout.{large}
use Rattle.paper.specs.Blocks.{held, free, remainder, Block, block, State, blocks, free_sum}
use Rattle.paper.specs.Runs.{sum_of, held_size}
use Rattle.paper.specs.LargestGrant.{largest_grant}

-- 1 for a held block, for a free small one, for a free large one
abbrev pub held_one : Block → ℕ
held_one (block z held) = 1
held_one (block z free) = 0
held_one (block z remainder) = 0

abbrev pub free_small_one : Block → ℕ
free_small_one (block z held) = 0
free_small_one (block z free) = if< z large 1 0
free_small_one (block z remainder) = 0

abbrev pub free_large_one : Block → ℕ
free_large_one (block z held) = 0
free_large_one (block z free) = if< z large 0 1
free_large_one (block z remainder) = 0

-- "Held blocks; held bytes (block sizes); free small blocks; free large blocks; remainder size; free word; largest grant."
unfoldable pub figures : State → Figures
figures s =
    record {
      held_blocks = sum_of held_one (blocks s);
      held_bytes = sum_of held_size (blocks s);
      free_small = sum_of free_small_one (blocks s);
      free_large = sum_of free_large_one (blocks s);
      remainder = s.rest;
      free_word = free_sum (blocks s) - 4;
      largest = largest_grant s;
    }

-- "A held block counts in the least class whose size is at least its payload."
abbrev pub in_class : ℕ → Block → ℕ
in_class k (block z held) = if= (class_of (z - 4)) k 1 0
in_class k (block z free) = 0
in_class k (block z remainder) = 0

-- the counters of the classes k, k + 1, .. , as many as there are
unfoldable pub counters_from : ℕ → ℕ → State → List ℕ
counters_from zero k s = []
counters_from (suc m) k s = sum_of (in_class k) (blocks s) ∷ counters_from m (k + 1) s

unfoldable pub class_counters : State → List ℕ
class_counters s = counters_from 53 0 s
