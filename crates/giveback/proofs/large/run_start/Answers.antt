-- giveback::run_start meets its contract, by the flag P.
use Rattle.giveback.specs.Large.{run_start}
use Rattle.words.specs.Choice.{when-yes, when-no}
use Rattle.giveback.proofs.large.run_start.Goals as goal

pub returns-then-head : goal.returns-then-head
unfolding run_start
returns-then-head c = rw (← c.get.ensures, ← c.from-head.ensures, when-yes _ _ _ c.if-head.true)

pub returns : goal.returns
unfolding run_start
returns c =
    rw (
      ← c.get.ensures,
      ← c.from-head.ensures,
      when-no _ _ _ c.if-head.false,
      c.minus-2.ensures,
      c.from.ensures,
      c.get-foot.ensures,
      c.minus.ensures,
    )
