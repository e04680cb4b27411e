-- grant::granted meets its contract, by its text.
use Rattle.grant.specs.Granted.{granted, spent}
use Rattle.grant.proofs.granted.granted.Goals as goal

pub returns : goal.returns
unfolding granted spent
returns c = rw (c.plus.ensures, c.put.ensures, c.minus.ensures, c.get-free.ensures)
