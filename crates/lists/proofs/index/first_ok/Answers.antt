-- `first_ok`: a failing test refuses; the index words decide.
use Rattle.lists.proofs.Awaiting.{not-larger, on-indexed, other-height}
use Rattle.lists.proofs.index.first_ok.Goals as goal

pub returns-then-z-y : goal.returns-then-z-y
returns-then-z-y c = not-larger _ _ _ _ _ _ c.if-z-y.true

pub returns-then-field-h : goal.returns-then-field-h
returns-then-field-h c = other-height _ _ _ _ _ _ c.height-h.ensures c.field.ensures c.if-field-h.true

pub returns : goal.returns
returns c =
    on-indexed _ _ _ _ _ _ c.height-h.ensures c.field.ensures c.if-z-y.false c.if-field-h.false
    c.index_ok.ensures
