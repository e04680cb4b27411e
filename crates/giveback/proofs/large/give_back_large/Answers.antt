-- giveback::give_back_large meets its contract, by the test on the remainder.
use Rattle.giveback.specs.Large.{give_back_large}
use Rattle.words.specs.Choice.{if=-yes, if=-no}
use mathlib.Core.Path.{sym, ◌∙◌}
use Rattle.giveback.proofs.large.give_back_large.Goals as goal

pub returns-then-top-get : goal.returns-then-top-get
unfolding give_back_large
returns-then-top-get c =
    rw (
      ← c.plus-top.ensures,
      if=-yes _ _ _ _ (c.if-top-get.true ∙ c.get.ensures),
    ) (cc)

pub returns : goal.returns
unfolding give_back_large
returns c =
    rw (
      ← c.plus-top.ensures,
      if=-no _ _ _ _ (λ e. c.if-top-get.false (e ∙ sym c.get.ensures)),
    ) (cc)
