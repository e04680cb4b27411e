-- pool::bounds meets its contract, by what asking answers.
use mathlib.Core.Path.{sym, ◌∙◌}
use Rattle.pool.proofs.Lent.{bounds-refused, bounds-held}
use Rattle.pool.proofs.parts.bounds.Goals as goal

pub returns-in_default : goal.returns-in_default
returns-in_default c = bounds-refused _ _ _ (sym c.ask.ensures ∙ c.in_default.is)

pub returns : goal.returns
returns c = bounds-held _ _ _ (sym c.ask.ensures ∙ c.in-Ok.is)
