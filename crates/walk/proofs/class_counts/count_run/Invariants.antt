-- walk::count_run meets its contract: the walk that counts by class.
use Rattle.walk.proofs.Along.{Going}
use Rattle.walk.specs.Classes.{counting, classed}
use Rattle.walk.proofs.class_counts.count_run.Given as goal

abbrev pub invariant-loop-block : goal.invariant-loop-block
invariant-loop-block l = Going classed l.pool l.from l.to (counting l.initial.held l.initial.counts) l.block-iterator (counting l.held l.counts)
