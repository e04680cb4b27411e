-- `remainder_ok`: a failing test refuses, whatever stands before it; the last one decides.
use native.Mathlib.Omega.{arith}
use Rattle.header.specs.Header.{rest_between}
use Rattle.guards.proofs.Guards.{pass-no}
use Rattle.header.proofs.Laws.{rest-is}
use Rattle.header.proofs.remainder_ok.Goals as goal

pub returns-then-a-lt-BLOCKS : goal.returns-then-a-lt-BLOCKS
returns-then-a-lt-BLOCKS c = let x = c.args in pass-no (rest_between x.pool.now x.a x.b) (λ t. omega arith)

pub returns-then-b-lt8 : goal.returns-then-b-lt8
returns-then-b-lt8 c = let x = c.args in pass-no (rest_between x.pool.now x.a x.b) (λ t. omega arith)

pub returns-then-b-a : goal.returns-then-b-a
returns-then-b-a c = let x = c.args in pass-no (rest_between x.pool.now x.a x.b) (λ t. omega arith)

pub returns-then-pool-b : goal.returns-then-pool-b
returns-then-pool-b c = let x = c.args in pass-no (rest_between x.pool.now x.a x.b) (λ t. omega arith)

pub returns-then-a-ne0 : goal.returns-then-a-ne0
returns-then-a-ne0 c = let x = c.args in pass-no (rest_between x.pool.now x.a x.b) (λ t. omega arith)

pub returns-then-b-ne0 : goal.returns-then-b-ne0
returns-then-b-ne0 c =
    let x = c.args in
    pass-no (rest_between x.pool.now x.a x.b) (λ t. omega arith)

pub returns : goal.returns
returns c =
    rest-is _ _ _ c.if-a-lt-BLOCKS.false c.if-b-lt8.false
    c.if-b-a.false c.if-pool-b.false c.if-a-ne0.false c.if-b-ne0.false
    c.get.ensures c.free_head.ensures
