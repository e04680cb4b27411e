-- `ended_ok`: one level has no others.
use Rattle.lists.proofs.Awaiting.{all-ended, one_ended}
use Rattle.lists.proofs.index.ended_ok.Goals as goal

pub returns-then-top-eq1 : goal.returns-then-top-eq1
returns-then-top-eq1 c = one_ended _ _ c.if-top-eq1.true

pub returns : goal.returns
returns c = all-ended _ _ c.if-top-eq1.false c.none_awaited.ensures
