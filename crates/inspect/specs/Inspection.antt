-- The inspection as the code does it, with marks as bits: the tests of the old rule, and the one of the block at E.
use Rattle.std.specs.Prelude.{Bool, true, false, List, ℕ, length}
use Rattle.words.specs.Choice.{if=, when}
use Rattle.words.specs.Words.{word_at}
use Rattle.heads.specs.Heads.{head_of}
use Rattle.marks.specs.MarkSets.{bit_marks}
use Rattle.paper.specs.Layout.{end_at}
use Rattle.accept.specs.Inspect.{inspect}

unfoldable pub old_inspected : List ℕ → Bool
old_inspected bs = inspect bit_marks bs

-- the pool ends at E, or the block there is held
unfoldable pub edge_held : List ℕ → Bool
edge_held bs = if= (word_at 4 bs end_at) (length bs) true (head_of (word_at 4 bs (word_at 4 bs end_at))).held

unfoldable pub inspected : List ℕ → Bool
inspected bs = when (edge_held bs) (old_inspected bs) false
