-- laying::top_of meets its contract, by its numbers.
use Rattle.std.proofs.Common.{sym, ◌∙◌, arith}
use Rattle.paper.specs.Fresh.{layout_top}
use Rattle.words.specs.Choice.{if=-yes, if=-no}
use Rattle.laying.proofs.top_of.Goals as goal

pub returns-in-1-clause-named : goal.returns-in-1-clause-named
unfolding layout_top
returns-in-1-clause-named c = (sym (if=-yes _ _ _ _ c.in-1.is), omega arith)

pub returns-in-2-clause-named : goal.returns-in-2-clause-named
unfolding layout_top
returns-in-2-clause-named c = (sym (if=-no _ _ _ _ (omega arith) ∙ if=-yes _ _ _ _ c.in-2.is), omega arith)

pub returns-in_default-clause-unnamed : goal.returns-in_default-clause-unnamed
unfolding layout_top
returns-in_default-clause-unnamed c = if=-no _ _ _ _ (omega arith) ∙ if=-no _ _ _ _ (omega arith)
