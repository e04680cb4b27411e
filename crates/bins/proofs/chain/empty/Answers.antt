-- bins::empty meets its contract, by its text.
use Rattle.bins.specs.Find.{empty}
use Rattle.bins.proofs.chain.empty.Goals as goal

pub returns : goal.returns
unfolding empty
returns c = rw (← c.linked.ensures)
