-- bins::linked meets its contract, by its text.
use Rattle.bins.specs.Find.{linked_at}
use Rattle.bins.proofs.chain.linked.Goals as goal

pub returns : goal.returns
unfolding linked_at
returns c = rw (c.follow.ensures, c.field.ensures)
