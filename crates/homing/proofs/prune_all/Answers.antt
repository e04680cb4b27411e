-- homing::prune_all meets its contract: the invariant says that all eight lists are those from here.
use Rattle.homing.proofs.Bins.{begins, done, goes_on}
use Rattle.homing.proofs.prune_all.Goals as goal

pub loop-first-init : goal.loop-first-init
loop-first-init c = begins _ _

pub loop-first-preserved : goal.loop-first-preserved
loop-first-preserved c = goes_on c.loop-first.invariant c.loop-first-test.true c.prune.auto.pool c.prune.ensures

pub returns : goal.returns
returns c = done c.loop-first.invariant c.loop-first-test.false
