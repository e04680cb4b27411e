-- `large_bins`: the invariant says that the whole chain is the chain from here.
use Rattle.lists.proofs.LargeBins.{Chained}
use Rattle.lists.proofs.large_bins.Given as goal

abbrev pub invariant-loop-f : goal.invariant-loop-f
invariant-loop-f l = Chained l.top l.pool l.initial.m l.initial.waits l.k l.f0 l.m l.waits l.left l.y l.f

abbrev pub decreases-loop-f : goal.decreases-loop-f
decreases-loop-f l = l.left
