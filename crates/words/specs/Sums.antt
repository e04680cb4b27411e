-- Sums and differences of 32 bits. They are total, as the machine's are; of positions and sizes in a pool they are the plain ones.
use Rattle.std.specs.Prelude.{ℕ, ◌+◌, ◌-◌, ◌%◌}

abbrev pub plus : ℕ → ℕ → ℕ
plus a b = (a + b) % 4294967296

abbrev pub minus : ℕ → ℕ → ℕ
minus a b = (a + 4294967296 - b) % 4294967296
