-- `height` is the smaller of the two, and 1 needs no count.
use native.Mathlib.Omega.{arith}
use Rattle.paper.specs.Governed.{height}
use Rattle.levels.proofs.height.Goals as goal

pub returns-then-top-eq1 : goal.returns-then-top-eq1
unfolding height
returns-then-top-eq1 c = omega arith

pub returns : goal.returns
unfolding height
returns c = omega arith
