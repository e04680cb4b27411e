-- homing::free_run meets its contract: the invariant says that the whole run is the run from here.
use Rattle.homing.proofs.Running.{arrives, held-there, runs_on, sets_out}
use Rattle.homing.proofs.free_run.Goals as goal

pub loop-block-init : goal.loop-block-init
loop-block-init c = sets_out c.pool_end.ensures c.below-block-items.ensures c.into_iter-block-iterator.ensures.into_iter_gives

pub returns-then-block : goal.returns-then-block
returns-then-block c = held-there c.loop-block.invariant c.in-Some.ensures.steps c.if-block.true

pub loop-block-preserved : goal.loop-block-preserved
loop-block-preserved c = runs_on c.loop-block.invariant c.in-Some.ensures.steps c.if-block.false c.plus.ensures c.plus-in-loop-block.ensures

pub returns : goal.returns
returns c = arrives c.loop-block.invariant c.in-None.ensures.steps
