-- The model of keeping words and putting them back.
use Rattle.std.specs.Prelude.{List, [], ◌∷◌, ℕ, zero, suc, ◌+◌}
use Rattle.words.specs.Sums.{plus}
use Rattle.words.specs.Words.{word_at, put_at}

-- k words from q + offset on
unfoldable pub words_at : List ℕ → ℕ → ℕ → ℕ → List ℕ
words_at bs q offset zero = []
words_at bs q offset (suc k) = word_at 4 bs (q + offset) ∷ words_at bs q (plus offset 4) k

unfoldable pub put_words : List ℕ → ℕ → ℕ → List ℕ → List ℕ
put_words bs q offset [] = bs
put_words bs q offset (v ∷ vs) = put_words (put_at 4 bs (q + offset) v) q (plus offset 4) vs
