-- `reserved_ok`, by the level word.
use Rattle.header.proofs.Laws.{reserved-none, reserved-one, reserved-two}
use Rattle.header.proofs.reserved_ok.Goals as goal

pub returns-then-level-eq-LEVELS : goal.returns-then-level-eq-LEVELS
returns-then-level-eq-LEVELS c = reserved-two _ c.field-level.ensures c.if-level-eq-LEVELS.true

pub returns-then-level-ne1 : goal.returns-then-level-ne1
returns-then-level-ne1 c = reserved-none _ c.field-level.ensures c.if-level-eq-LEVELS.false c.if-level-ne1.true

pub returns : goal.returns
returns c = reserved-one _ c.field-level.ensures c.if-level-eq-LEVELS.false c.if-level-ne1.false c.zeros.ensures
