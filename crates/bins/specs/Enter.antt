-- The model of making a free block and of entering a bin, on a list of bytes.
use Rattle.std.specs.Prelude.{List, ℕ, ◌+◌}
use Rattle.words.specs.Choice.{if=}
use Rattle.words.specs.Sums.{plus, minus}
use Rattle.words.specs.Words.{put_at}
use Rattle.heads.specs.Heads.{free_head}
use Rattle.bins.specs.declared.chain.Bin.{Bin}
use Rattle.paper.specs.Layout.{previous_at, next_at, level_at}
use Rattle.bins.specs.Find.{linked_at, exact}
use Rattle.bins.specs.Head.{rehead}

unfoldable pub make_free : List ℕ → ℕ → ℕ → List ℕ
make_free bs q size = put_at 4 (put_at 4 bs q (free_head size)) (minus (plus q size) 4) (free_head size)

-- q between two neighbours, the second of which may be none
unfoldable pub between : List ℕ → ℕ → ℕ → ℕ → List ℕ
between bs first q next =
    let one = put_at 4 (put_at 4 bs (first + next_at) (minus q first)) (q + previous_at) (minus first q) in
    if= next 0
    (put_at 4 one (q + next_at) 0)
    (put_at 4 (put_at 4 one (q + next_at) (minus next q)) (next + previous_at) (minus q next))

unfoldable pub enter_second : List ℕ → ℕ → ℕ → List ℕ
enter_second bs first q = between bs first q (linked_at bs first next_at)

unfoldable pub enter_only : List ℕ → Bin → ℕ → ℕ → List ℕ
enter_only bs bin size q =
    rehead (put_at 4 (put_at 4 (put_at 4 bs (q + previous_at) 0) (q + next_at) 0) (q + level_at) bin.level) bin size 0 q

-- where the bin stands, or would stand
unfoldable pub enter_at : List ℕ → Bin → ℕ → ℕ → List ℕ
enter_at bs bin q size = if= bin.size size (enter_second bs bin.first q) (enter_only bs bin size q)

unfoldable pub enter_bin : List ℕ → ℕ → ℕ → List ℕ
enter_bin bs q size = enter_at bs (exact bs size) q size

unfoldable pub enter : List ℕ → ℕ → ℕ → List ℕ
enter bs q size = enter_bin (make_free bs q size) q size
