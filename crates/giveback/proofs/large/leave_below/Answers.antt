-- giveback::leave_below meets its contract, by the test on the run.
use Rattle.giveback.specs.Large.{leave_below}
use Rattle.words.specs.Choice.{if=-yes, if=-no}
use Rattle.giveback.proofs.large.leave_below.Goals as goal

pub returns-then-start-q : goal.returns-then-start-q
unfolding leave_below
returns-then-start-q c = rw (if=-yes _ _ _ _ c.if-start-q.true)

pub returns : goal.returns
unfolding leave_below
returns c = rw (if=-no _ _ _ _ c.if-start-q.false) c.leave.ensures
