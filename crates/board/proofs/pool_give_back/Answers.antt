-- board::pool_give_back meets its contract: it tells what the pool's call answers, and leaves what that leaves.
use Rattle.board.proofs.Told.{told}
use Rattle.board.proofs.pool_give_back.Goals as goal

pub returns : goal.returns
returns c = told _ c.give_back.ensures c.of.ensures
