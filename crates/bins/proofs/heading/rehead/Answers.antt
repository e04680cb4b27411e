-- bins::rehead meets its contract. The invariant: the bytes at the end are those that come of relinking from here down.
use Rattle.bins.proofs.Descent.{relinks-below, relinked-all}
use Rattle.bins.specs.Head.{rehead}
use native.Mathlib.Omega.{arith}
use Rattle.bins.proofs.heading.rehead.Goals as goal

pub loop-level-preserved : goal.loop-level-preserved
loop-level-preserved c =
    relinks-below c.loop-level.invariant c.loop-level-test.true c.relink.auto.pool c.relink.ensures (omega arith) c.along-before.ensures

pub returns : goal.returns
unfolding rehead
returns c = relinked-all c.loop-level.invariant c.loop-level-test.false c.relink-2.ensures
