-- tape::run meets its contract: the loop follows the run of the tape record by record, and the lines fit.
use Rattle.std.proofs.Common.{◌≡◌, ◌-◌, length}
use Rattle.tape.proofs.Going.{Going}
use Rattle.tape.proofs.run.Given as goal

abbrev pub invariant-loop-at : goal.invariant-loop-at
invariant-loop-at l =
    Going l.tape l.initial.pool.buffer.now l.initial.page.out.now l.pool l.page l.at l.nth × (l.pool.buffer.ghost_name ≡ l.initial.pool.buffer.ghost_name)
    × (l.page.out.ghost_name ≡ l.initial.page.out.ghost_name)

abbrev pub decreases-loop-at : goal.decreases-loop-at
decreases-loop-at l = length l.tape - l.at
