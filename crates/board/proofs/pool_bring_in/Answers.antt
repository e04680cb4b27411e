-- board::pool_bring_in meets its contract: it tells what the call answers, and leaves what that leaves.
use Rattle.board.proofs.Told.{told}
use Rattle.board.proofs.pool_bring_in.Goals as goal

pub returns : goal.returns
returns c = told _ c.bring_in.ensures c.of.ensures
