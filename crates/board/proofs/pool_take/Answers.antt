-- board::pool_take meets its contract: it tells what the pool's call answers, and leaves what that leaves.
use Rattle.board.proofs.Told.{told}
use Rattle.board.proofs.pool_take.Goals as goal

pub returns : goal.returns
returns c = told _ c.take.ensures c.of.ensures
