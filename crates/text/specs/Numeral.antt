-- A number in decimal, as text: no zeros in front, and one digit for 0.
use Rattle.std.specs.Prelude.{List, [], ◌∷◌, ◌++◌, ℕ, zero, suc, ◌+◌, ◌/◌, ◌%◌}
use Rattle.words.specs.Choice.{if<}

-- the character of a digit
abbrev pub digit : ℕ → ℕ
digit d = 48 + d

-- the last `most` digits of n at most
unfoldable pub numeral_with : (most n : ℕ) → List ℕ
numeral_with zero n = []
numeral_with (suc most) n = if< n 10 (digit n ∷ []) (numeral_with most (n / 10) ++ (digit (n % 10) ∷ []))

-- n has fewer than n + 1 digits
unfoldable pub numeral : ℕ → List ℕ
numeral n = numeral_with (suc n) n
