-- walk::found_at meets its contract, by the flag of the head.
use Rattle.walk.specs.LookUp as model
use Rattle.words.specs.Choice.{when-yes, when-no}
use Rattle.walk.proofs.looking_up.found_at.Goals as goal

pub returns-then-head : goal.returns-then-head
unfolding model.found_at
returns-then-head c = rw (when-yes _ _ _ c.if-head.true)

pub returns : goal.returns
unfolding model.found_at
returns c = rw (when-no _ _ _ c.if-head.false)
