-- bins::exact meets its contract, by its text.
use Rattle.bins.specs.Find.{exact}
use Rattle.bins.proofs.chain.exact.Goals as goal

pub returns : goal.returns
unfolding exact
returns c = rw (c.search.ensures, c.height.ensures, c.start.ensures, c.top-top.ensures)
