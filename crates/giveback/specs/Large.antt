-- The model of putting a large block back, on a list of bytes.
use Rattle.std.specs.Prelude.{List, false, ℕ}
use Rattle.words.specs.Choice.{if=, when}
use Rattle.words.specs.Sums.{plus, minus}
use Rattle.words.specs.Words.{word_at, put_at}
use Rattle.heads.specs.Heads.{head_of, free_head, with_p}
use Rattle.paper.specs.Layout.{start_at, end_at}
use Rattle.bins.specs.Leave.{leave, leave_both}
use Rattle.bins.specs.Enter.{enter}

unfoldable pub run_start : List ℕ → ℕ → ℕ
run_start bs q = when (head_of (word_at 4 bs q)).p q (minus q (head_of (word_at 4 bs (minus q 4))).size)

unfoldable pub leave_below : List ℕ → ℕ → ℕ → List ℕ
leave_below bs start q = if= start q bs (leave bs start)

unfoldable pub settle : List ℕ → ℕ → ℕ → List ℕ
settle bs start end = enter bs start (minus end start)

unfoldable pub join_rest : List ℕ → ℕ → ℕ → List ℕ
join_rest bs start q =
    let left = leave_below bs start q in
    put_at 4 (put_at 4 left start_at start) start (free_head (minus (word_at 4 left end_at) start))

unfoldable pub join_run : List ℕ → ℕ → ℕ → ℕ → List ℕ
join_run bs start q top =
    when (head_of (word_at 4 bs top)).held
    (settle (put_at 4 (leave_below bs start q) top (with_p (word_at 4 bs top) false)) start top)
    (let end = plus top (head_of (word_at 4 bs top)).size in
    if= start q (settle (leave bs top) start end) (settle (leave_both bs start top) start end))

unfoldable pub give_back_large : List ℕ → ℕ → ℕ → List ℕ
give_back_large bs q z =
    let start = run_start bs q in
    if= (plus q z) (word_at 4 bs start_at) (join_rest bs start q) (join_run bs start q (plus q z))
