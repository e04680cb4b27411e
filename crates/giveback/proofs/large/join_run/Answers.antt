-- giveback::join_run meets its contract, by the block above and the one below.
use Rattle.giveback.specs.Large.{join_run}
use Rattle.words.specs.Choice.{if=-yes, if=-no, when-yes, when-no}
use Rattle.giveback.proofs.large.join_run.Goals as goal

pub returns-then-above : goal.returns-then-above
unfolding join_run
returns-then-above c =
    rw (
      ← c.get-word.ensures,
      ← c.from-above.ensures,
      when-yes _ _ _ c.if-above.true,
      c.settle.ensures,
      c.put.ensures,
      c.with_p.ensures,
      c.leave_below.ensures,
    )

pub returns-then-start-q : goal.returns-then-start-q
unfolding join_run
returns-then-start-q c =
    rw (
      ← c.get-word.ensures,
      ← c.from-above.ensures,
      when-no _ _ _ c.if-above.false,
      if=-yes _ _ _ _ c.if-start-q.true,
    ) (cc)

pub returns : goal.returns
unfolding join_run
returns c =
    rw (
      ← c.get-word.ensures,
      ← c.from-above.ensures,
      when-no _ _ _ c.if-above.false,
      if=-no _ _ _ _ c.if-start-q.false,
      c.settle-2.ensures,
      c.leave_both.ensures,
      c.plus-end.ensures,
    )
