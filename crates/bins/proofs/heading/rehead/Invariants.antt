-- bins::rehead meets its contract. The invariant: the bytes at the end are those that come of relinking from here down.
use Rattle.bins.proofs.Descent.{Reheading}
use Rattle.bins.proofs.heading.rehead.Given as goal

abbrev pub invariant-loop-level : goal.invariant-loop-level
invariant-loop-level l = Reheading l.initial.pool l.initial.level l.initial.before l.size l.old l.new l.pool l.level l.before
