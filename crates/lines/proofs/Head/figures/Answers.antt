-- lines::Head::figures meets its contract: the seven figures, or the refusal.
use native.Mathlib.Omega.{arith}
use Rattle.lines.proofs.Print.{line-printed}
use Rattle.lines.proofs.Head.figures.Goals as goal

pub returns-in-Ok : goal.returns-in-Ok
returns-in-Ok c =
    rw c.in-Ok.is
    (line-printed _ _ _ _ c.begin.ensures c.rest.ensures (omega arith) (omega arith) (omega arith) (omega arith))
