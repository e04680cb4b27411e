-- `scan`: the invariant says that the whole walk is the walk from here. Each way out and each way on has its law.
use Rattle.std.proofs.Common.{◌-◌}
use Rattle.runs.proofs.Laws.{Scanning}
use Rattle.runs.proofs.scan.Given as goal

abbrev pub invariant-loop-p : goal.invariant-loop-p
invariant-loop-p g l = Scanning l.pool l.initial.m g.K.Kind.kind l.e l.from l.n0 l.sum0 l.m l.p l.due l.seen.count l.seen.sum

abbrev pub decreases-loop-p : goal.decreases-loop-p
decreases-loop-p g l = l.e - l.p
