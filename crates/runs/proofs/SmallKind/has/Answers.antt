-- `has` of small blocks: their least size, then their greatest.
use Rattle.std.proofs.Common.{arith}
use Rattle.guards.proofs.Guards.{pass-no}
use Rattle.runs.specs.Contract.{of_kind}
use Rattle.runs.proofs.Laws.{small-is}
use Rattle.runs.proofs.SmallKind.has.Goals as goal

pub returns-then-z-lt8 : goal.returns-then-z-lt8
returns-then-z-lt8 c = pass-no (of_kind c.args.z 1) (λ t. omega arith)

pub returns : goal.returns
returns c = small-is _ c.if-z-lt8.false
