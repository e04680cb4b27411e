-- The model of going home, on a list of bytes: where the free blocks end, each small list without what lies below, and the remainder up to there.
use Rattle.std.specs.Prelude.{List, ℕ, zero, suc, ◌+◌, ◌/◌, length}
use Rattle.words.specs.Choice.{if<, if=, when}
use Rattle.words.specs.Sums.{plus, minus}
use Rattle.words.specs.Words.{word_at, put_at}
use Rattle.heads.specs.Heads.{free_head}
use Rattle.paper.specs.Layout.{start_at, end_at, small_next_at}
use Rattle.walk.specs.Blocks.{head_at, pool_end}
use Rattle.homing.specs.declared.Run.{Run}

abbrev pub ended : ℕ → ℕ → Run
ended e k = record { end = e; blocks = k }

-- the free blocks from `at` on and below `to`, after k others
unfoldable pub run_from : ℕ → List ℕ → ℕ → ℕ → ℕ → Run
run_from zero bs to at k = ended at k
run_from (suc f) bs to at k =
    let h = head_at bs at in
    let on = run_from f bs to (plus at h.size) (plus k 1) in
    if< at to (when h.held (ended at k) (if= h.size 0 (ended at k) on)) (ended at k)

-- each block takes at least a byte, so that many steps suffice
unfoldable pub free_run : List ℕ → ℕ → Run
free_run bs from = run_from (suc (pool_end bs)) bs (pool_end bs) from 0

-- the list from q on, to which the word at `at` is to lead, without what lies below the edge; k steps
unfoldable pub prune : ℕ → List ℕ → ℕ → ℕ → ℕ → List ℕ
prune zero bs edge at q = bs
prune (suc k) bs edge at q =
    let next = word_at 4 bs (q + small_next_at) in
    let on = prune k bs edge at next in
    let led = prune k (put_at 4 bs at q) edge (plus q small_next_at) next in
    if= q 0 (put_at 4 bs at 0) (if< q edge on led)

-- the list whose first member stands at `first`
unfoldable pub pruned : List ℕ → ℕ → ℕ → List ℕ
pruned bs first edge = prune (length bs / 8) bs edge first (word_at 4 bs first)

-- c lists, whose first members stand at `first`, 8 bytes past it, and so on
unfoldable pub pruned_from : ℕ → List ℕ → ℕ → ℕ → List ℕ
pruned_from zero bs first edge = bs
pruned_from (suc c) bs first edge = pruned_from c (pruned bs first edge) (first + 8) edge

-- the remainder ends at e
unfoldable pub ends_at_edge : List ℕ → ℕ → List ℕ
ends_at_edge bs e =
    put_at 4 (put_at 4 bs end_at e) (word_at 4 bs start_at) (free_head (minus e (word_at 4 bs start_at)))

-- where no block goes home, no list is gone along
unfoldable pub homed : List ℕ → ℕ → List ℕ
homed bs from =
    let run = free_run bs from in
    ends_at_edge (if= run.blocks 0 bs (pruned_from 8 bs 32 run.end)) run.end

-- how many blocks go home
unfoldable pub homes : List ℕ → ℕ → ℕ
homes bs from = (free_run bs from).blocks
