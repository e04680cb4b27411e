-- Where the words of a pool stand ("Bytes of the pool"): of the header, and of a free block past its start.
use Rattle.std.specs.Prelude.{ℕ}

abbrev pub free_word_at : ℕ
free_word_at = 0

abbrev pub false_word_at : ℕ
false_word_at = 8

abbrev pub start_at : ℕ
start_at = 16

abbrev pub end_at : ℕ
end_at = 24

-- the small bin of size z has its word at small_bins + z
abbrev pub small_bins : ℕ
small_bins = 24

abbrev pub false_block : ℕ
false_block = 96

abbrev pub blocks_at : ℕ
blocks_at = 168

abbrev pub small_next_at : ℕ
small_next_at = 4

abbrev pub previous_at : ℕ
previous_at = 4

abbrev pub next_at : ℕ
next_at = 8

abbrev pub level_at : ℕ
level_at = 12

abbrev pub chain_at : ℕ
chain_at = 64

-- how many levels the index of layout 2 has
abbrev pub levels : ℕ
levels = 13

-- "b of 72 or more is large"
abbrev pub large : ℕ
large = 72
