-- asking::used_up meets its contract: offset by offset.
use Rattle.asking.proofs.Using.{begins, ends, skips, unmarked, goes_on}
use mathlib.Core.Path.{sym}
use Rattle.asking.proofs.used_up.Goals as goal

pub loop-offset-init : goal.loop-offset-init
loop-offset-init c = begins _ _

pub loop-offset-preserved-then-offset-eq0 : goal.loop-offset-preserved-then-offset-eq0
loop-offset-preserved-then-offset-eq0 c = skips c.loop-offset.invariant c.loop-offset-test.true c.if-offset-eq0.true

pub returns-then-not-marked : goal.returns-then-not-marked
returns-then-not-marked c =
    sym (unmarked c.loop-offset.invariant c.loop-offset-test.true c.if-offset-eq0.false c.minus-start.ensures c.marked.ensures
    c.if-not-marked.true-raw)

pub loop-offset-preserved : goal.loop-offset-preserved
loop-offset-preserved c =
    goes_on c.loop-offset.invariant c.loop-offset-test.true c.if-offset-eq0.false c.minus-start.ensures c.marked.ensures
    c.if-not-marked.false-raw c.unmark.ensures

pub returns : goal.returns
returns c = sym (ends c.loop-offset.invariant c.loop-offset-test.false)
