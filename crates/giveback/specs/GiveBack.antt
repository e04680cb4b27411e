-- The model of giving back, on a list of bytes: the small or the large way, and then the free word.
use Rattle.std.specs.Prelude.{List, ℕ}
use Rattle.words.specs.Choice.{if<}
use Rattle.words.specs.Sums.{plus}
use Rattle.words.specs.Words.{word_at, put_at}
use Rattle.paper.specs.Layout.{free_word_at, large}
use Rattle.giveback.specs.Small.{give_back_small}
use Rattle.giveback.specs.Large.{give_back_large}

unfoldable pub put_back : List ℕ → ℕ → ℕ → List ℕ
put_back bs q z = if< z large (give_back_small bs q z) (give_back_large bs q z)

-- the free word rises by z
unfoldable pub earned : List ℕ → ℕ → List ℕ
earned bs z = put_at 4 bs free_word_at (plus (word_at 4 bs free_word_at) z)

unfoldable pub give_back : List ℕ → ℕ → ℕ → List ℕ
give_back bs q z = earned (put_back bs q z) z
