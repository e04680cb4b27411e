-- The model of asking about a list of offsets: the held blocks are marked along the walk, and each offset uses up its mark.
use Rattle.std.specs.Prelude.{Bool, true, false, List, [], ◌∷◌, ℕ, ◌+◌, ltb}
use Rattle.words.specs.Choice.{if=, when}
use Rattle.words.specs.Sums.{minus}
use Rattle.words.specs.Words.{word_at}
use Rattle.heads.specs.declared.head.Head.{Head}
use Rattle.marks.specs.MarkSets.{bit_marks}
use Rattle.paper.specs.Layout.{start_at, end_at, blocks_at}
use Rattle.walk.specs.Blocks.{blocks_from, pool_end}

-- where the walk stands, and what is marked
pub record Marking : Type 0 where
  pub at : ℕ
  pub marks : List ℕ

abbrev pub marking : ℕ → List ℕ → Marking
marking at m = record { at = at; marks = m }

unfoldable pub marked : Marking → Head → Marking
marked x h = marking (x.at + h.size) (when h.held (bit_marks.put x.marks x.at) x.marks)

-- the held blocks between two positions
unfoldable pub mark_run : List ℕ → ℕ → ℕ → List ℕ → List ℕ
mark_run bs from to m = (blocks_from marked bs from to (marking from m)).marks

-- the held blocks of a pool: the large ones below R, the small ones from E on
unfoldable pub held_marks : List ℕ → List ℕ
held_marks bs = mark_run bs (word_at 4 bs end_at) (pool_end bs) (mark_run bs blocks_at (word_at 4 bs start_at) bit_marks.empty)

-- each offset but 0 uses up the mark of the block that starts 4 below it
unfoldable pub used_up : List ℕ → List ℕ → Bool
used_up m [] = true
used_up m (o ∷ os) =
    let kept = used_up m os in
    let used = used_up (bit_marks.drop m (minus o 4)) os in
    if= o 0 kept (when (ltb 0 (bit_marks.has m (minus o 4))) used false)

unfoldable pub all_held : List ℕ → List ℕ → Bool
all_held bs offsets = used_up (held_marks bs) offsets
