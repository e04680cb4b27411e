-- asking::mark_run meets its contract: the walk that marks.
use Rattle.asking.specs.AllHeld.{marking, marked}
use Rattle.walk.proofs.Along.{Going}
use Rattle.asking.proofs.mark_run.Given as goal

abbrev pub invariant-loop-block : goal.invariant-loop-block
invariant-loop-block l = Going marked l.pool l.from l.to (marking l.from l.initial.m) l.block-iterator (marking l.block-iterator.at l.m)
