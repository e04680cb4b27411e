-- grant::split meets its contract, by its text.
use Rattle.grant.specs.Large.{split}
use Rattle.grant.proofs.large.split.Goals as goal

pub returns : goal.returns
unfolding split
returns c = rw (c.enter.ensures, c.put.ensures, c.held_head.ensures, c.minus-size.ensures, c.plus-rest.ensures)
