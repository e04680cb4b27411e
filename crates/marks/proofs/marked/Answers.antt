-- `marked` is the bit, where there is one.
use mathlib.Core.Path.{◌∙◌}
use borrow.Author.Tests.{ne_eqb}
use Rattle.marks.proofs.Laws.{mark-yes, mark-no}
use Rattle.marks.proofs.marked.Goals as goal

pub returns-then-q-eq0 : goal.returns-then-q-eq0
returns-then-q-eq0 c = search mark-yes

pub returns-else-q-eq0 : goal.returns-else-q-eq0
returns-else-q-eq0 c = ne_eqb _ _ c.if-q-eq0.false ∙ mark-no _ _ c.if-q-eq0.false
