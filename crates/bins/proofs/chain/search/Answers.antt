-- bins::search meets its contract, by its text.
use Rattle.bins.specs.Find.{search as search-of}
use Rattle.bins.proofs.chain.search.Goals as goal

pub returns : goal.returns
unfolding search-of
returns c = rw (c.down.ensures, c.along-at.ensures, c.bare.ensures)
