-- bins::along meets its contract. The invariant: the whole walk is the walk from here; the measure: how far the sizes may still rise.
use Rattle.bins.proofs.Finding.{begins, at-the-stop, at-a-bin, at-no-rise, goes_on}
use mathlib.Core.Path.{◌∙◌}
use Rattle.bins.proofs.chain.along.Goals as goal

pub loop-first-init : goal.loop-first-init
loop-first-init c = begins _ _ _ _ _ _ c.word-index.ensures c.linked-first.ensures

pub returns-then-least-size : goal.returns-then-least-size
returns-then-least-size c = at-a-bin c.loop-first.invariant c.loop-first-test.true _ c.size_of-size.ensures c.if-least-size.true

pub returns-then-size-below : goal.returns-then-size-below
returns-then-size-below c = c.bare.ensures ∙ at-no-rise c.loop-first.invariant c.loop-first-test.true _ c.size_of-size.ensures c.if-least-size.false c.if-size-below.true

pub loop-first-preserved : goal.loop-first-preserved
loop-first-preserved c = goes_on c.loop-first.invariant c.loop-first-test.true _ c.size_of-size.ensures c.if-least-size.false c.if-size-below.false _ _ c.word-index.ensures c.linked-first-in-loop-first.ensures

pub returns : goal.returns
returns c = at-the-stop c.loop-first.invariant c.loop-first-test.false
