-- `small_bins`: the invariant says that all eight bins are the bins from here.
use Prim.Native.Nat.{◌-◌}
use Rattle.lists.proofs.SmallBins.{Bins}
use Rattle.paper.specs.Layout.{large}
use Rattle.lists.proofs.small_bins.Given as goal

abbrev pub invariant-loop-z : goal.invariant-loop-z
invariant-loop-z l = Bins l.pool l.initial.m l.k l.m l.left l.z

abbrev pub decreases-loop-z : goal.decreases-loop-z
decreases-loop-z l = large - l.z
