-- "The false block's level word tells the layouts apart" (request 2026-04): how high the index is by that word; and the model of where a search begins.
use Rattle.std.specs.Prelude.{List, ℕ, ◌+◌, ◌-◌, ◌*◌, ◌/◌, min}
use Rattle.std.specs.Int.Count.{count_leading_zeros}
use Rattle.words.specs.Choice.{if=}
use Rattle.words.specs.Words.{word_at}
use Rattle.paper.specs.Layout.{chain_at, false_block, level_at, levels}

unfoldable pub top_of : List ℕ → ℕ
top_of bs = if= (word_at 4 bs (false_block + level_at)) levels levels 1

-- "The thirteenth, lowest word is at +64, each higher one 4 bytes before."
abbrev pub word_of : ℕ → ℕ
word_of j = chain_at + 4 - 4 * j

-- how many bits size / 8 has
abbrev pub bits : ℕ → ℕ
bits size = 32 - count_leading_zeros 32 (size / 8)

unfoldable pub start_of : ℕ → ℕ → ℕ
start_of t size = if= t 1 1 (if= (bits size) 0 t (min t (bits size)))
