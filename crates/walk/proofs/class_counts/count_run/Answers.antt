-- walk::count_run meets its contract: the walk that counts by class.
use Rattle.walk.proofs.Along.{sets_out, steps, arrives}
use Rattle.walk.specs.Classes.{classed}
use Rattle.words.specs.Choice.{when-yes, when-no}
use mathlib.Core.Path.{sym}
use Rattle.walk.proofs.class_counts.count_run.Goals as goal

pub loop-block-init : goal.loop-block-init
loop-block-init c = sets_out classed _ c.below-block-items.ensures c.into_iter-block-iterator.ensures.into_iter_gives

pub loop-block-preserved-then-block : goal.loop-block-preserved-then-block
unfolding classed
loop-block-preserved-then-block c = steps c.loop-block.invariant c.in-Some.ensures.steps _ (rw (when-yes _ _ _ c.if-block.true) (cc))

pub loop-block-preserved : goal.loop-block-preserved
unfolding classed
loop-block-preserved c = steps c.loop-block.invariant c.in-Some.ensures.steps _ (rw (when-no _ _ _ c.if-block.false))

pub returns : goal.returns
returns c = sym (arrives c.loop-block.invariant c.in-None.ensures.steps)
