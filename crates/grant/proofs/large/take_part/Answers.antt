-- grant::take_part meets its contract, by its text.
use Rattle.grant.specs.Large.{take_part}
use Rattle.grant.proofs.large.take_part.Goals as goal

pub returns : goal.returns
unfolding take_part
returns c = cc
