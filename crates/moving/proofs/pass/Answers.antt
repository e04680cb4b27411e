-- moving::pass meets its contract. The invariant: the whole pass is the pass from here; the measure: how far the sizes may still rise.
use borrow.Author.Rules.{rules}
use native.Mathlib.Omega.{arith}
use Rattle.moving.proofs.Passing.{begins, goes_on, no-rise, passed-all}
use Rattle.moving.proofs.pass.Goals as goal

pub loop-f-init : goal.loop-f-init
loop-f-init c = begins _ _ _

pub shape_of-pool-then-z-y : goal.shape_of-pool-then-z-y
shape_of-pool-then-z-y c = c.loop-f.invariant.long

pub returns-then-z-y : goal.returns-then-z-y
returns-then-z-y c = no-rise c.loop-f.invariant c.loop-f-test.true c.size_of-z.ensures c.linked-f.ensures c.if-z-y.true

pub loop-f-smaller : goal.loop-f-smaller
loop-f-smaller c = omega (arith, c.if-z-y.false, c.loop-f.invariant.near)

pub loop-f-preserved : goal.loop-f-preserved
loop-f-preserved c =
    goes_on c.loop-f.invariant c.loop-f-test.true c.size_of-z.ensures c.if-z-y.false (search rules)
    c.height.ensures c.stand.auto.pool c.stand.ensures c.linked-f-in-loop-f.ensures

pub shape_of-pool : goal.shape_of-pool
shape_of-pool c = c.loop-f.invariant.long

pub returns : goal.returns
returns c = passed-all c.loop-f.invariant c.linked-f.ensures c.loop-f-test.false
