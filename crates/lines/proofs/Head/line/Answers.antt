-- lines::Head::line meets its contract: the head and the rest, and its numbers have at most ten digits.
use native.Mathlib.Omega.{arith}
use Rattle.lines.proofs.Print.{line-printed}
use Rattle.lines.proofs.Head.line.Goals as goal

pub returns : goal.returns
returns c = line-printed _ _ _ _ c.begin.ensures c.rest.ensures (omega arith) (omega arith) (omega arith, tt) (omega arith)
