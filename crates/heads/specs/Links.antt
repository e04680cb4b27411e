-- "Signed distances from its own start to the previous and next block of its bin; 0 at either end", as words of 32 bits.
-- A start is never 0, so 0 stands for no block.
use Rattle.std.specs.Prelude.{ℕ}
use Rattle.words.specs.Choice.{if=}
use Rattle.words.specs.Sums.{plus, minus}

-- the link word from a block to another, or to none
unfoldable pub link_word : ℕ → ℕ → ℕ
link_word from to = if= to 0 0 (minus to from)

-- where a link word leads
unfoldable pub followed : ℕ → ℕ → ℕ
followed from word = if= word 0 0 (plus from word)
