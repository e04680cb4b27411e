-- board::bank_set meets its contract: it tells what the bank's call answers, and leaves what that leaves.
use Rattle.board.proofs.Told.{told-both}
use Rattle.board.proofs.pistons.bank_set.Goals as goal

pub returns : goal.returns
returns c = told-both _ c.set.ensures c.of.ensures
