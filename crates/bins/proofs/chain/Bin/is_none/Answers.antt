-- bins::Bin::is_none meets its contract, by its text.
use Rattle.bins.specs.Find.{none}
use Rattle.bins.proofs.chain.Bin.is_none.Goals as goal

pub returns : goal.returns
unfolding none
returns c = cc
