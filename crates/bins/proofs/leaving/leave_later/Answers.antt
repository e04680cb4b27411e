-- bins::leave_later meets its contract, by the test on the next block.
use Rattle.bins.specs.Leave.{leave_later}
use Rattle.words.specs.Choice.{if=-yes, if=-no}
use mathlib.Core.Path.{sym, ◌∙◌}
use Rattle.bins.proofs.leaving.leave_later.Goals as goal

pub returns-then-next-eq0 : goal.returns-then-next-eq0
unfolding leave_later
returns-then-next-eq0 c = rw (if=-yes _ _ _ _ (sym c.linked-next.ensures ∙ c.if-next-eq0.true)) c.put_field.ensures

pub returns : goal.returns
unfolding leave_later
returns c =
    rw (
      if=-no _ _ _ _ (λ e. c.if-next-eq0.false (c.linked-next.ensures ∙ e)),
      c.put_field-3.ensures,
      c.put_field-2.ensures,
      ← c.linked-next.ensures,
      ← c.both_ways-link.ensures.0,
      ← c.both_ways-link.ensures.1,
    )
