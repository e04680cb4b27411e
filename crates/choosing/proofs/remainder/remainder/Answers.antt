-- choosing::remainder meets its contract, by its text.
use Rattle.choosing.specs.Remainder.{remainder}
use Rattle.choosing.proofs.remainder.remainder.Goals as goal

pub returns : goal.returns
unfolding remainder
returns c = rw (c.minus.ensures, c.get-end.ensures, c.get-start.ensures)
