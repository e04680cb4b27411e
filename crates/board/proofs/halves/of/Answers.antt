-- board::halves::of meets its contract, by the kind of answer.
use native.Mathlib.Omega.{arith}
use Rattle.board.proofs.Told.{done-halves, refused-halves}
use Rattle.board.proofs.halves.of.Goals as goal

pub returns-in-Ok : goal.returns-in-Ok
returns-in-Ok c = rw c.in-Ok.is (done-halves _ (omega arith))

pub returns-in-Err : goal.returns-in-Err
returns-in-Err c = rw c.in-Err.is (refused-halves _ _ c.from.ensures)
