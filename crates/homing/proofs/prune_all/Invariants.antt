-- homing::prune_all meets its contract: the invariant says that all eight lists are those from here.
use Prim.Native.Nat.{◌-◌}
use Rattle.homing.proofs.Bins.{Bins}
use Rattle.paper.specs.Layout.{false_block}
use Rattle.homing.proofs.prune_all.Given as goal

abbrev pub invariant-loop-first : goal.invariant-loop-first
invariant-loop-first l = Bins l.initial.pool l.edge l.pool l.first

abbrev pub decreases-loop-first : goal.decreases-loop-first
decreases-loop-first l = false_block - l.first
