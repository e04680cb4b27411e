-- bins::Bin::size meets its contract, by its text.
use Rattle.bins.specs.Find.{size}
use Rattle.bins.proofs.chain.Bin.size.Goals as goal

pub returns : goal.returns
unfolding size
returns c = cc
