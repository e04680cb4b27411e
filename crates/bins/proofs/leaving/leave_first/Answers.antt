-- bins::leave_first meets its contract, by the test on the second block.
use Rattle.bins.specs.Leave.{leave_first}
use Rattle.words.specs.Choice.{if=-yes, if=-no}
use mathlib.Core.Path.{sym, ◌∙◌}
use Rattle.bins.proofs.leaving.leave_first.Goals as goal

pub returns-then-second-eq0 : goal.returns-then-second-eq0
unfolding leave_first
returns-then-second-eq0 c = rw (if=-yes _ _ _ _ (sym c.linked-second.ensures ∙ c.if-second-eq0.true)) c.rehead.ensures

pub returns : goal.returns
unfolding leave_first
returns c =
    rw (
      if=-no _ _ _ _ (λ e. c.if-second-eq0.false (c.linked-second.ensures ∙ e)),
      c.rehead-2.ensures,
      c.put_field-2.ensures,
      c.put_field.ensures,
      c.linked-second.ensures,
    )
