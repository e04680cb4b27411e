-- bins::size_of meets its contract, by its text.
use Rattle.bins.specs.Find.{size_at}
use Rattle.bins.proofs.chain.size_of.Goals as goal

pub returns : goal.returns
unfolding size_at
returns c = rw (c.from.ensures, c.get.ensures)
