-- giveback::give_back_small meets its contract: at E by going home, elsewhere by the front of the bin.
use Rattle.giveback.specs.Small.{give_back_small}
use Rattle.homing.specs.Homing.{homed}
use Rattle.words.specs.Choice.{if=-no, if=-yes}
use mathlib.Core.Path.{◌∙◌, ap, sym}
use Rattle.giveback.proofs.small.give_back_small.Goals as goal

pub returns-then-q-get : goal.returns-then-q-get
unfolding give_back_small
returns-then-q-get c =
    c.go_home.ensures.0 ∙ ap (homed _) c.plus.ensures
    ∙ sym (if=-yes _ _ _ _ (c.if-q-get.true ∙ c.get.ensures))

pub returns : goal.returns
unfolding give_back_small
returns c =
    c.at_front.ensures
    ∙ sym (if=-no _ _ _ _ (λ e. c.if-q-get.false (e ∙ sym c.get.ensures)))
