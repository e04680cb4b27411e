-- board::bank_clear meets its contract: it tells what the bank's call answers, and leaves what that leaves.
use Rattle.board.proofs.Told.{told-both}
use Rattle.board.proofs.pistons.bank_clear.Goals as goal

pub returns : goal.returns
returns c = told-both _ c.clear.ensures c.of.ensures
