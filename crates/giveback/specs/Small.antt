-- The model of putting a small block back, on a list of bytes.
use Rattle.std.specs.Prelude.{List, ℕ, ◌+◌}
use Rattle.words.specs.Choice.{if=}
use Rattle.words.specs.Sums.{plus}
use Rattle.words.specs.Words.{word_at, put_at}
use Rattle.heads.specs.Heads.{free_head}
use Rattle.paper.specs.Layout.{end_at, small_bins, small_next_at}
use Rattle.homing.specs.Homing.{homed}

-- it is the first of its bin
unfoldable pub at_front : List ℕ → ℕ → ℕ → List ℕ
at_front bs q z = put_at 4 (put_at 4 (put_at 4 bs q (free_head z)) (q + small_next_at) (word_at 4 bs (small_bins + z))) (small_bins + z) q

-- at E it goes home, with the free blocks above it
unfoldable pub give_back_small : List ℕ → ℕ → ℕ → List ℕ
give_back_small bs q z = if= q (word_at 4 bs end_at) (homed bs (plus q z)) (at_front bs q z)
