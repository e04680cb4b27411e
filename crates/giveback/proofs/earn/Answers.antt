-- giveback::earn meets its contract, by its text.
use Rattle.giveback.specs.GiveBack.{earned}
use Rattle.giveback.proofs.earn.Goals as goal

pub returns : goal.returns
unfolding earned
returns c = rw (c.put.ensures, c.plus.ensures, c.get-free.ensures)
