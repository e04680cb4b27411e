-- walk::tally_run meets its contract: the walk that counts.
use Rattle.walk.proofs.Along.{sets_out, steps, arrives}
use Rattle.walk.specs.Tallies.{counted}
use mathlib.Core.Path.{sym}
use Rattle.walk.proofs.tallies.tally_run.Goals as goal

pub loop-block-init : goal.loop-block-init
loop-block-init c = sets_out counted _ c.below-block-items.ensures c.into_iter-block-iterator.ensures.into_iter_gives

pub loop-block-preserved : goal.loop-block-preserved
loop-block-preserved c = steps c.loop-block.invariant c.in-Some.ensures.steps _ c.counted-t.ensures

pub returns : goal.returns
returns c = sym (arrives c.loop-block.invariant c.in-None.ensures.steps)
