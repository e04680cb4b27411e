-- giveback::settle meets its contract, by its text.
use Rattle.giveback.specs.Large.{settle}
use Rattle.giveback.proofs.large.settle.Goals as goal

pub returns : goal.returns
unfolding settle
returns c = rw (c.enter.ensures, c.minus.ensures)
