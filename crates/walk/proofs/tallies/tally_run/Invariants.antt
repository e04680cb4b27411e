-- walk::tally_run meets its contract: the walk that counts.
use Rattle.walk.proofs.Along.{Going}
use Rattle.walk.specs.Tallies.{counted}
use Rattle.walk.proofs.tallies.tally_run.Given as goal

abbrev pub invariant-loop-block : goal.invariant-loop-block
invariant-loop-block l = Going counted l.pool l.from l.to l.initial.t l.block-iterator l.t
