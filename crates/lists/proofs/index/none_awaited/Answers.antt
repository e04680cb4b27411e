-- `none_awaited`: what is left of the levels decides.
use Rattle.std.proofs.Common.{arith}
use Rattle.lists.proofs.Awaiting.{none_is, passes, passing, some_is}
use Rattle.lists.proofs.index.none_awaited.Goals as goal

pub loop-start-init : goal.loop-start-init
loop-start-init c = passing _

pub returns-then-start-ne0 : goal.returns-then-start-ne0
returns-then-start-ne0 c = some_is c.loop-start.invariant (omega arith) c.if-start-ne0.true

pub loop-start-preserved : goal.loop-start-preserved
loop-start-preserved c = passes c.loop-start.invariant (omega arith) c.if-start-ne0.false

pub returns : goal.returns
returns c = none_is c.loop-start.invariant (omega arith)
