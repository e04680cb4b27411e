-- homing::prune meets its contract: the invariant says that the whole list is the list from here.
use Rattle.homing.proofs.Pruning.{Pruning}
use Rattle.homing.proofs.prune.Given as goal

abbrev pub invariant-loop : goal.invariant-loop
invariant-loop l = Pruning l.initial.pool l.first l.edge l.pool l.counter l.at l.q
