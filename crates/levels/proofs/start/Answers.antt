-- `start`, by its tests.
use Rattle.levels.specs.Levels.{start_of}
use Rattle.words.specs.Choice.{if=-yes, if=-no}
use mathlib.Core.Path.{sym, ◌∙◌}
use Rattle.levels.proofs.start.Goals as goal

pub returns-then-top-eq1 : goal.returns-then-top-eq1
unfolding start_of
returns-then-top-eq1 c = sym (if=-yes _ _ _ _ c.if-top-eq1.true)

pub returns-then-bits-eq0 : goal.returns-then-bits-eq0
unfolding start_of
returns-then-bits-eq0 c = sym (if=-no _ _ _ _ c.if-top-eq1.false ∙ if=-yes _ _ _ _ c.if-bits-eq0.true)

pub returns-else-bits-eq0 : goal.returns-else-bits-eq0
unfolding start_of
returns-else-bits-eq0 c = c.min.ensures ∙ sym (if=-no _ _ _ _ c.if-top-eq1.false ∙ if=-no _ _ _ _ c.if-bits-eq0.false)
