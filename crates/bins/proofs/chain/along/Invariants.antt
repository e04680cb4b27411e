-- bins::along meets its contract. The invariant: the whole walk is the walk from here; the measure: how far the sizes may still rise.
use Prim.Native.Nat.{◌-◌}
use Rattle.bins.proofs.Finding.{Finding}
use Rattle.bins.proofs.chain.along.Given as goal

abbrev pub invariant-loop-first : goal.invariant-loop-first
invariant-loop-first l = Finding l.pool l.level l.bin l.least l.before l.below l.first

abbrev pub decreases-loop-first : goal.decreases-loop-first
decreases-loop-first l = l.least - l.below
