-- laying::clear meets its contract: the words are cleared from the front.
use Rattle.laying.proofs.Clearing.{Clearing}
use Rattle.laying.proofs.clear.Given as goal

abbrev pub invariant-loop-k : goal.invariant-loop-k
invariant-loop-k l = Clearing l.initial.pool l.pool l.k
