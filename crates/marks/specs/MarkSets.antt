-- A set of marks, as the inspection uses it: over any such set, so that a proof may take the list of what is marked, and the code has bits.
use Rattle.std.specs.Prelude.{List, ℕ, ◌/◌, ◌%◌, replicate}
use Rattle.words.specs.Choice.{if=}
use Rattle.marks.specs.Marks.{bit_at, put_bit_at}

-- `has` is 0 or 1
pub record MarkSet (M : Type 0) : Type 0 where
  pub empty : M
  pub has : M → ℕ → ℕ
  pub put : M → ℕ → M
  pub drop : M → ℕ → M

-- the mark of the start q: one bit for each 8 bytes of the pool
unfoldable pub mark_at : List ℕ → ℕ → ℕ
mark_at ws q = if= (q % 8) 0 (bit_at ws (q / 8)) 0

abbrev pub bit_marks : MarkSet (List ℕ)
bit_marks = record { empty = replicate 128 0; has = mark_at; put = λ ws q. put_bit_at ws (q / 8) 1; drop = λ ws q. put_bit_at ws (q / 8) 0 }
