-- homing::free_run meets its contract: the invariant says that the whole run is the run from here.
use Rattle.homing.proofs.Running.{RunningOn}
use Rattle.homing.proofs.free_run.Given as goal

abbrev pub invariant-loop-block : goal.invariant-loop-block
invariant-loop-block l = RunningOn l.pool l.from l.block-iterator l.run
