-- board::pool_class_count meets its contract: it tells what the pool's call answers, and leaves what that leaves.
use Rattle.board.proofs.Told.{told}
use Rattle.board.proofs.pool_class_count.Goals as goal

pub returns : goal.returns
returns c = told _ c.class_count.ensures c.of.ensures
