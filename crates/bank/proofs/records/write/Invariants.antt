-- bank::write meets its contract: the byte of kind and the first i bytes of the body stand at the part's start.
use Rattle.bank.proofs.Writing.{Writing}
use Rattle.bank.proofs.records.write.Given as goal

abbrev pub invariant-loop-i : goal.invariant-loop-i
invariant-loop-i l = Writing l.initial.part l.kind l.body l.part l.i
