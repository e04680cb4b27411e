-- bins::down meets its contract. The invariant: what is found at the end is what is found from here.
use Rattle.bins.proofs.Descent.{starts, one_down, there}
use Rattle.bins.proofs.chain.down.Goals as goal

pub loop-level-init : goal.loop-level-init
loop-level-init c = starts _ _ _ _

pub loop-level-preserved : goal.loop-level-preserved
loop-level-preserved c = one_down c.loop-level.invariant c.loop-level-test.true c.along-at.ensures

pub returns : goal.returns
returns c = there c.loop-level.invariant c.loop-level-test.false
