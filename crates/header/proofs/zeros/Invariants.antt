-- `zeros`: the words so far together, and what is left, decide.

use Rattle.header.proofs.Laws.{Clearing}
use Rattle.header.proofs.zeros.Given as goal

abbrev pub invariant-loop-i : goal.invariant-loop-i
invariant-loop-i l = Clearing l.pool l.k l.step l.from l.all l.i
