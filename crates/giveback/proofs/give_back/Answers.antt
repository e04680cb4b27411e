-- giveback::give_back meets its contract, by its text.
use Rattle.giveback.specs.GiveBack.{give_back}
use Rattle.giveback.proofs.give_back.Goals as goal

pub returns : goal.returns
unfolding give_back
returns c = rw (c.earn.ensures, c.put_back.ensures)
