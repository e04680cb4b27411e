-- bank::release meets its contract, by whether there is an old block.
use Rattle.bank.proofs.Outcomes.{released-none, released-old}
use Rattle.bank.proofs.release.Goals as goal

pub returns-then-old-ne0 : goal.returns-then-old-ne0
returns-then-old-ne0 c = released-old _ _ c.if-old-ne0.true _ _ c.give_back.ensures

pub returns-else-old-ne0 : goal.returns-else-old-ne0
returns-else-old-ne0 c = released-none _ _ c.if-old-ne0.false
