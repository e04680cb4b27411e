-- bins::enter_second meets its contract, by the test on the next block.
use Rattle.bins.specs.Enter.{between, enter_second}
use Rattle.words.specs.Choice.{if=-yes, if=-no}
use mathlib.Core.Path.{sym, ◌∙◌}
use Rattle.bins.proofs.entering.enter_second.Goals as goal

pub returns-then-next-eq0 : goal.returns-then-next-eq0
unfolding enter_second between
returns-then-next-eq0 c =
    rw (
      if=-yes _ _ _ _ (sym c.linked-next.ensures ∙ c.if-next-eq0.true),
      c.put_field-then-next-eq0.ensures,
      c.put_field-2.ensures,
      c.put_field.ensures,
      c.both_ways-link.ensures.0,
      c.both_ways-link.ensures.1,
    )

pub returns : goal.returns
unfolding enter_second between
returns c =
    rw (
      if=-no _ _ _ _ (λ e. c.if-next-eq0.false (c.linked-next.ensures ∙ e)),
      c.put_field-4.ensures,
      c.put_field-3.ensures,
      c.both_ways-on.ensures.0,
      c.both_ways-on.ensures.1,
      c.put_field-2.ensures,
      c.put_field.ensures,
      c.both_ways-link.ensures.0,
      c.both_ways-link.ensures.1,
      c.linked-next.ensures,
    )
