-- asking::used_up meets its contract: offset by offset.
use Rattle.asking.proofs.Using.{Using}
use Rattle.asking.proofs.used_up.Given as goal

abbrev pub invariant-loop-offset : goal.invariant-loop-offset
invariant-loop-offset l = Using l.initial.m l.offsets l.m l.offset-index
