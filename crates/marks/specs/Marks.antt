-- A set of numbers as bits in words of 64. A bit past the end reads as 0 and is not written.
use Rattle.std.specs.Prelude.{List, ℕ, ◌+◌, ◌*◌, ◌/◌, ◌%◌, ◌^◌, get_or, set}

-- digit k of w, base 2
abbrev pub bit : ℕ → ℕ → ℕ
bit w k = w / 2 ^ k % 2

-- w with digit k put to c
unfoldable pub put_bit : ℕ → ℕ → ℕ → ℕ
put_bit w k c = (w / 2 ^ k / 2 * 2 + c) * 2 ^ k + w % 2 ^ k

unfoldable pub bit_at : List ℕ → ℕ → ℕ
bit_at ws i = bit (get_or ws (i / 64) 0) (i % 64)

unfoldable pub put_bit_at : List ℕ → ℕ → ℕ → List ℕ
put_bit_at ws i c = set ws (i / 64) (put_bit (get_or ws (i / 64) 0) (i % 64) c)
