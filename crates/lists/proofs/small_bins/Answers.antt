-- `small_bins`: the invariant says that all eight bins are the bins from here.
use Rattle.std.proofs.Common.{rules}
use Rattle.lists.proofs.SmallBins.{bins-start, bins-done, bins-lost, bins-on}
use Rattle.lists.proofs.small_bins.Goals as goal

pub loop-z-init : goal.loop-z-init
loop-z-init c = bins-start _ _ _

pub returns-in_err-left : goal.returns-in_err-left
returns-in_err-left c =
    rw c.from_residual.ensures
    (bins-lost c.loop-z.invariant c.loop-z-test.true c.field-f.ensures c.follow.result _ c.follow.ensures c.in_err-left.was)

pub loop-z-preserved : goal.loop-z-preserved
loop-z-preserved c =
    bins-on c.loop-z.invariant c.loop-z-test.true c.field-f.ensures c.follow.result _ c.follow.ensures c.in_ok-left.was (search rules)

pub returns : goal.returns
returns c = bins-done c.loop-z.invariant c.loop-z-test.false
