-- bins::enter_bin meets its contract, by the test on the bin that was found.
use Rattle.bins.specs.Enter.{enter_at, enter_bin}
use Rattle.words.specs.Choice.{if=-yes, if=-no}
use Rattle.bins.proofs.entering.enter_bin.Goals as goal

pub returns-then-bin-size : goal.returns-then-bin-size
unfolding enter_bin enter_at
returns-then-bin-size c = rw (← c.exact-bin.ensures, if=-yes _ _ _ _ c.if-bin-size.true) c.enter_second.ensures

pub returns : goal.returns
unfolding enter_bin enter_at
returns c = rw (← c.exact-bin.ensures, if=-no _ _ _ _ c.if-bin-size.false) c.enter_only.ensures
