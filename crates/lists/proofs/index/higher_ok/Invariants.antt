-- `higher_ok`: the invariant says that all levels are the levels from here.
use Rattle.lists.proofs.Awaiting.{Climbing}
use Rattle.lists.proofs.index.higher_ok.Given as goal

abbrev pub invariant-loop-level : goal.invariant-loop-level
invariant-loop-level l = Climbing l.pool l.initial.waits l.h l.f l.waits l.level
