-- moving::stand meets its contract: the invariant says that all levels are the levels from here.
use Rattle.moving.proofs.Levels.{Climbing}
use Rattle.moving.specs.Move.{moving}
use Rattle.moving.proofs.stand.Given as goal

abbrev pub invariant-loop-level : goal.invariant-loop-level
invariant-loop-level l = Climbing (moving l.initial.pool l.initial.lasts) l.h l.f l.pool l.lasts l.level
