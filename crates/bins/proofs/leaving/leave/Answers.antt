-- bins::leave meets its contract, by the test on the previous block.
use Rattle.bins.specs.Leave.{leave}
use Rattle.words.specs.Choice.{if=-yes, if=-no}
use mathlib.Core.Path.{sym, ◌∙◌}
use Rattle.bins.proofs.leaving.leave.Goals as goal

pub returns-then-previous-ne0 : goal.returns-then-previous-ne0
unfolding leave
returns-then-previous-ne0 c = rw (if=-no _ _ _ _ (λ e. c.if-previous-ne0.true (c.linked-previous.ensures ∙ e)), ← c.linked-previous.ensures) c.leave_later.ensures

pub returns : goal.returns
unfolding leave
returns c =
    rw (
      if=-yes _ _ _ _ (sym c.linked-previous.ensures ∙ c.if-previous-ne0.false),
      c.leave_first.ensures,
      c.exact-bin.ensures,
      c.size_of-size.ensures,
    )
