-- bins::find_on meets its contract, by the tests on the bin that was found before.
use Rattle.bins.specs.Find.{find_on}
use Rattle.words.specs.Choice.{if=-yes, if=-no}
use mathlib.Core.Path.{sym, ◌∙◌}
use Rattle.bins.proofs.chain.find_on.Goals as goal
use Rattle.bins.proofs.chain.find_on.Goals.{then-level-eq1+else-bin-eq0, else-level-eq1}

pub returns-then-bin-eq0 : goal.returns-then-bin-eq0
unfolding find_on
returns-then-bin-eq0 c = sym (if=-yes _ _ _ _ c.if-level-eq1.true ∙ if=-yes _ _ _ _ c.if-bin-eq0.true)

pub returns : goal.returns
unfolding find_on
returns c =
    elim c.if-level-eq1.branch [
      | then-level-eq1+else-bin-eq0 w ↦ c.search.ensures ∙ sym (if=-yes _ _ _ _ w.if-level-eq1.true ∙ if=-no _ _ _ _ w.if-bin-eq0.false)
      | else-level-eq1 w ↦ c.search.ensures ∙ sym (if=-no _ _ _ _ w.if-level-eq1.false)
    ]
