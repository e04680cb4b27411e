-- laying::clear meets its contract: the words are cleared from the front.
use Rattle.laying.proofs.Clearing.{begins, one_more, all}
use Rattle.laying.proofs.clear.Goals as goal

pub loop-k-init : goal.loop-k-init
loop-k-init c = begins _

pub loop-k-preserved : goal.loop-k-preserved
loop-k-preserved c = one_more c.loop-k.invariant c.loop-k-test.true c.put.ensures

pub returns : goal.returns
returns c = all c.loop-k.invariant c.loop-k-test.false
