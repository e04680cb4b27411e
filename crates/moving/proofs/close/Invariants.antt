-- moving::close meets its contract: the invariant says that all levels are the levels from here.
use Rattle.moving.proofs.Levels.{Closing}
use Rattle.moving.proofs.close.Given as goal

abbrev pub invariant-loop-level : goal.invariant-loop-level
invariant-loop-level l = Closing l.lasts l.initial.pool l.pool l.level
