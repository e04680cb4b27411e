-- The model of what every grant ends with, on a list of bytes.
use Rattle.std.specs.Prelude.{List, ℕ}
use Rattle.words.specs.Sums.{plus, minus}
use Rattle.words.specs.Words.{word_at, put_at}
use Rattle.paper.specs.Layout.{free_word_at}
use Rattle.std.specs.declared.result.Result.TheVariants.{Ok}
use Rattle.paper.specs.Answers.{out, Out}

-- the free word falls by b
unfoldable pub spent : List ℕ → ℕ → List ℕ
spent bs b = put_at 4 bs free_word_at (minus (word_at 4 bs free_word_at) b)

unfoldable pub granted : List ℕ → ℕ → ℕ → Out
granted bs q b = out (Ok (plus q 4)) (spent bs b)
