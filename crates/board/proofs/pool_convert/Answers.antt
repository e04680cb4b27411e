-- board::pool_convert meets its contract: it tells what the call answers, and leaves what that leaves.
use Rattle.board.proofs.Told.{told}
use Rattle.board.proofs.pool_convert.Goals as goal

pub returns : goal.returns
returns c = told _ c.convert.ensures c.of.ensures
