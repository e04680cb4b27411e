-- `top`, by the level word.
use mathlib.Core.Path.{sym, ◌∙◌}
use Rattle.levels.specs.Levels.{top_of}
use Rattle.words.specs.Choice.{if=-yes, if=-no}
use Rattle.levels.proofs.top.Goals as goal

pub returns-then-field-eq-LEVELS : goal.returns-then-field-eq-LEVELS
unfolding top_of
returns-then-field-eq-LEVELS c = sym (if=-yes _ _ _ _ (sym c.field.ensures ∙ c.if-field-eq-LEVELS.true))

pub returns-else-field-eq-LEVELS : goal.returns-else-field-eq-LEVELS
unfolding top_of
returns-else-field-eq-LEVELS c = sym (if=-no _ _ _ _ (λ e. c.if-field-eq-LEVELS.false (c.field.ensures ∙ e)))
