-- grant::take_whole meets its contract, by its text.
use Rattle.grant.specs.Large.{take_whole}
use Rattle.grant.proofs.large.take_whole.Goals as goal

pub returns : goal.returns
unfolding take_whole
returns c = rw (← c.granted.ensures, c.hold.ensures, c.take_out-q.ensures.after, c.take_out-q.ensures.block)
