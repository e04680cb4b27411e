-- The model of the class count: each held block counts in the class of its payload.
use Rattle.std.specs.Prelude.{List, ℕ, length, get_or, set, replicate}
use Rattle.words.specs.Choice.{when}
use Rattle.words.specs.Sums.{plus, minus}
use Rattle.words.specs.Words.{word_at}
use Rattle.heads.specs.declared.head.Head.{Head}
use Rattle.classes.specs.Class.{class_of}
use Rattle.paper.specs.Layout.{start_at, end_at, blocks_at}
use Rattle.walk.specs.Blocks.{blocks_from, pool_end}

-- how many blocks are held, and how many of each class
pub record Counts : Type 0 where
  pub held : ℕ
  pub each : List ℕ

abbrev pub counting : ℕ → List ℕ → Counts
counting k cs = record { held = k; each = cs }

unfoldable pub bumped : List ℕ → ℕ → List ℕ
bumped cs k = set cs k (plus (get_or cs k 0) 1)

unfoldable pub classed : Counts → Head → Counts
classed x h = when h.held (counting (plus x.held 1) (bumped x.each (class_of (minus h.size 4)))) x

abbrev pub classes_run : List ℕ → ℕ → ℕ → Counts → Counts
classes_run bs from to x = blocks_from classed bs from to x

unfoldable pub class_counts : List ℕ → List ℕ → Counts
class_counts bs cs =
    classes_run bs (word_at 4 bs end_at) (pool_end bs)
    (classes_run bs blocks_at (word_at 4 bs start_at) (counting 0 (replicate (length cs) 0)))
