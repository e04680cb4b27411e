-- The model of the figures: each block adds to them. `largest` is the greatest block that can be given, until all are counted.
use Rattle.std.specs.Prelude.{List, ℕ, ◌-◌, max}
use Rattle.words.specs.Choice.{if<, when}
use Rattle.words.specs.Sums.{plus, minus}
use Rattle.words.specs.Words.{word_at}
use Rattle.heads.specs.declared.head.Head.{Head}
use Rattle.paper.specs.declared.Figures.{Figures}
use Rattle.paper.specs.Layout.{free_word_at, start_at, end_at, blocks_at, large}
use Rattle.walk.specs.Blocks.{blocks_from, pool_end}

-- the greatest block that can be given, with a free one more, which is given whole
abbrev greatest_with : Figures → Head → ℕ
greatest_with t h = max t.largest h.size

unfoldable pub counted : Figures → Head → Figures
counted t h =
    when h.held
    (record {
      held_blocks = plus t.held_blocks 1;
      held_bytes = plus t.held_bytes h.size;
      free_small = t.free_small;
      free_large = t.free_large;
      remainder = t.remainder;
      free_word = t.free_word;
      largest = t.largest;
    })
    (if< h.size large
    (record {
      held_blocks = t.held_blocks;
      held_bytes = t.held_bytes;
      free_small = plus t.free_small 1;
      free_large = t.free_large;
      remainder = t.remainder;
      free_word = t.free_word;
      largest = greatest_with t h;
    })
    (record {
      held_blocks = t.held_blocks;
      held_bytes = t.held_bytes;
      free_small = t.free_small;
      free_large = plus t.free_large 1;
      remainder = t.remainder;
      free_word = t.free_word;
      largest = greatest_with t h;
    }))

-- before any block is counted: what the remainder can give, which keeps 8 bytes
unfoldable pub bare : List ℕ → Figures
bare bs =
    let rest = minus (word_at 4 bs end_at) (word_at 4 bs start_at) in
    record {
      held_blocks = 0;
      held_bytes = 0;
      free_small = 0;
      free_large = 0;
      remainder = rest;
      free_word = 0;
      largest = minus rest 8;
    }

-- when all are counted: the free word as it stands, and of the greatest block the payload
unfoldable pub closed : List ℕ → Figures → Figures
closed bs t =
    record {
      held_blocks = t.held_blocks;
      held_bytes = t.held_bytes;
      free_small = t.free_small;
      free_large = t.free_large;
      remainder = t.remainder;
      free_word = word_at 4 bs free_word_at;
      largest = t.largest - 4;
    }

abbrev pub tally_run : List ℕ → ℕ → ℕ → Figures → Figures
tally_run bs from to t = blocks_from counted bs from to t

unfoldable pub tally : List ℕ → Figures
tally bs = closed bs (tally_run bs (word_at 4 bs end_at) (pool_end bs) (tally_run bs blocks_at (word_at 4 bs start_at) (bare bs)))
