-- "n is a multiple of 8, from 176 to 65,536."
use Rattle.std.specs.Prelude.{◌≡◌, Bool, true, false, ℕ, ◌%◌, ◌≤◌}
use Rattle.words.specs.Choice.{if=, if<}

pub record Allowed (n : ℕ) : Type 0 where
  pub least : 176 ≤ n
  pub most : n ≤ 65536
  pub eights : n % 8 ≡ 0

-- the same as a test
unfoldable pub allowed : ℕ → Bool
allowed n = if< n 176 false (if< 65536 n false (if= (n % 8) 0 true false))
