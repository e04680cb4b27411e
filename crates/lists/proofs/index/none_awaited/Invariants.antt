-- `none_awaited`: what is left of the levels decides.
use Rattle.lists.proofs.Awaiting.{Passing}
use Rattle.lists.proofs.index.none_awaited.Given as goal

abbrev pub invariant-loop-start : goal.invariant-loop-start
invariant-loop-start l = Passing l.waits l.start-index
