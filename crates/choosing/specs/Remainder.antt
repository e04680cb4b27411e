-- The model of reading the remainder in the header, on a list of bytes.
use Rattle.std.specs.Prelude.{List, ℕ}
use Rattle.words.specs.Sums.{minus}
use Rattle.words.specs.Words.{word_at}
use Rattle.paper.specs.Layout.{end_at, start_at}
use Rattle.choosing.specs.declared.remainder.Rest.{Rest}

unfoldable pub remainder : List ℕ → Rest
remainder bs =
    record { start = word_at 4 bs start_at; end = word_at 4 bs end_at; size = minus (word_at 4 bs end_at) (word_at 4 bs start_at) }
