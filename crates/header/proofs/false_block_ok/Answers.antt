-- `false_block_ok`: a failing test refuses, whatever stands before it; the last ones decide.
use native.Mathlib.Omega.{arith}
use mathlib.Core.Path.{◌∙◌}
use Rattle.header.specs.Header.{false_tests}
use Rattle.guards.proofs.Guards.{off, pass-no}
use Rattle.header.proofs.Laws.{false-is}
use Rattle.header.proofs.false_block_ok.Goals as goal

pub returns-then-pool : goal.returns-then-pool
returns-then-pool c = pass-no (false_tests c.args.pool.now) (λ t. omega (arith, c.if-pool.true, t.1.1.1.1.0))

pub returns-then-get-ne-FALSE_BLOCK : goal.returns-then-get-ne-FALSE_BLOCK
returns-then-get-ne-FALSE_BLOCK c = pass-no (false_tests c.args.pool.now) (λ t. c.if-get-ne-FALSE_BLOCK.true (c.get.ensures ∙ t.0))

pub returns-then-field-ne0 : goal.returns-then-field-ne0
returns-then-field-ne0 c =
    pass-no (false_tests c.args.pool.now)
    (λ t. c.if-field-ne0.true (c.field.ensures ∙ t.1.0))

pub returns-then-not-zeros : goal.returns-then-not-zeros
returns-then-not-zeros c =
    pass-no (false_tests c.args.pool.now)
    (λ t. off (c.zeros.ensures ∙ t.1.1.0) c.if-not-zeros.true-raw)

pub returns-then-not-zeros-2 : goal.returns-then-not-zeros-2
returns-then-not-zeros-2 c =
    pass-no (false_tests c.args.pool.now)
    (λ t. off (c.zeros-2.ensures ∙ t.1.1.1.0) c.if-not-zeros-2.true-raw)

pub returns : goal.returns
returns c =
    false-is _ c.if-pool.false c.get.ensures c.if-get-ne-FALSE_BLOCK.false
    c.field.ensures c.if-field-ne0.false c.zeros.ensures c.if-not-zeros.false-raw
    c.zeros-2.ensures c.if-not-zeros-2.false-raw c.reserved_ok.ensures
