-- "Head word = 4 × size + 2 × P + a." And: "A payload of s bytes needs a block of b = s + 4 rounded up to a multiple of 8."
-- Every word can be taken apart, and every head put together: of a size, as of any number in a shift, its low 30 bits are kept.
use Rattle.std.specs.Prelude.{Bool, true, false, List, ℕ, ◌+◌, ◌*◌, ◌/◌, ◌%◌, eqb}
use mir.Val.{bool_byte}
use Rattle.words.specs.Words.{word_at}
use Rattle.heads.specs.declared.head.Head.{Head}

-- the size alone, and both flags in one number, 2 × P + a
abbrev pub size_of : ℕ → ℕ
size_of w = w / 4

abbrev pub flags_of : ℕ → ℕ
flags_of w = w % 4

-- the flags of a held block above no free large one, and of a free block
abbrev pub held_flags : ℕ
held_flags = 3

abbrev pub free_flags : ℕ
free_flags = 2

unfoldable pub head_of : ℕ → Head
head_of w = record { size = size_of w; p = eqb (w / 2 % 2) 1; held = eqb (w % 2) 1 }

unfoldable pub word_of : Head → ℕ
word_of h = 4 * h.size % 4294967296 + 2 * bool_byte h.p + bool_byte h.held

-- those of the head at q
abbrev pub size_at : List ℕ → ℕ → ℕ
size_at bs q = size_of (word_at 4 bs q)

abbrev pub flags_at : List ℕ → ℕ → ℕ
flags_at bs q = flags_of (word_at 4 bs q)

-- the head of a held block and of a free one, above no free large block
unfoldable pub held_head : ℕ → ℕ
held_head size = word_of (record { size = size; p = true; held = true })

unfoldable pub free_head : ℕ → ℕ
free_head size = word_of (record { size = size; p = true; held = false })

-- the head w with another P
unfoldable pub with_p : ℕ → Bool → ℕ
with_p w p = word_of (record { size = (head_of w).size; p = p; held = (head_of w).held })

unfoldable pub block_size : ℕ → ℕ
block_size s = (s + 4 + 7) / 8 * 8
