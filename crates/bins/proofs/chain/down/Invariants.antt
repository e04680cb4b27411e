-- bins::down meets its contract. The invariant: what is found at the end is what is found from here.
use Rattle.bins.proofs.Descent.{Descending}
use Rattle.bins.proofs.chain.down.Given as goal

abbrev pub invariant-loop-level : goal.invariant-loop-level
invariant-loop-level l = Descending l.pool l.initial.at l.to l.least l.level l.at
