-- `follow`: the invariant says that the whole list is the list from here.
use Rattle.lists.proofs.Following.{Going}
use Rattle.lists.proofs.follow.Given as goal

abbrev pub invariant-loop-q : goal.invariant-loop-q
invariant-loop-q g l = Going (g.B.Bin.tests l.pool l.z) (g.B.Bin.next l.pool) l.initial.m l.k l.first l.m l.left l.p l.q

abbrev pub decreases-loop-q : goal.decreases-loop-q
decreases-loop-q g l = l.left
