-- bins::pass_over meets its contract, by the test on the level where the bin was found.
use Rattle.bins.specs.Leave.{pass_over}
use Rattle.words.specs.Choice.{if=-yes, if=-no}
use Rattle.bins.proofs.leaving.pass_over.Goals as goal

pub returns-then-bin-height : goal.returns-then-bin-height
unfolding pass_over
returns-then-bin-height c = rw (← c.top.ensures, ← c.height.ensures, if=-yes _ _ _ _ c.if-bin-height.true) c.rehead.ensures

pub returns : goal.returns
unfolding pass_over
returns c =
    rw (
      ← c.top.ensures,
      ← c.height.ensures,
      if=-no _ _ _ _ c.if-bin-height.false,
      c.rehead-2.ensures,
      c.exact-again.ensures,
    )
