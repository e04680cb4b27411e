-- The free word rises by the size of the block that came back.
use mathlib.Core.List.{List}
use mathlib.Core.Path.{◌≡◌}
use Prim.Native.Nat.{◌+◌, ◌<◌, ℕ}
use native.Mathlib.Omega.{arith}
use Rattle.giveback.specs.GiveBack.{earned}
use Rattle.paper.specs.Layout.{free_word_at}
use Rattle.words.specs.Sums.{plus}
use Rattle.words.specs.Words.{put_at, word_at}

pub earned-is : (bs : List ℕ) (z f : ℕ) → word_at 4 bs free_word_at ≡ f → f + z < 4294967296 → earned bs z ≡ put_at 4 bs free_word_at (f + z)
unfolding earned
earned-is bs z f e l = let p : plus f z ≡ f + z = omega arith in rw (e, p)
