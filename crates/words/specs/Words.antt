-- A little-endian word of w bytes in a list of bytes, at any place. Both are total: a word that is not wholly in the list reads as 0 and is not
-- written.
use Rattle.std.specs.Prelude.{ℕ, zero, suc, ◌+◌, ◌*◌, ◌/◌, ◌%◌, ◌<◌, List, length, slice_index, slice_set}
use Rattle.words.specs.Choice.{if<}

-- the digits of a word, the low one first
unfoldable pub digits_at : ℕ → List ℕ → ℕ → ℕ
digits_at zero bs at = 0
digits_at (suc w) bs at = slice_index bs at + 256 * digits_at w bs (at + 1)

unfoldable pub put_digits : ℕ → List ℕ → ℕ → ℕ → List ℕ
put_digits zero bs at v = bs
put_digits (suc w) bs at v = put_digits w (slice_set bs at (v % 256)) (at + 1) (v / 256)

unfoldable pub word_at : ℕ → List ℕ → ℕ → ℕ
word_at w bs at = if< (length bs) (at + w) 0 (digits_at w bs at)

unfoldable pub put_at : ℕ → List ℕ → ℕ → ℕ → List ℕ
put_at w bs at v = if< (length bs) (at + w) bs (put_digits w bs at v)

-- every element is a byte
abbrev pub Bytes : List ℕ → Type 0
Bytes bs = (i : ℕ) → slice_index bs i < 256
