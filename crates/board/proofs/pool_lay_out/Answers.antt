-- board::pool_lay_out meets its contract: it tells what the pool's call answers, and leaves what that leaves.
use Rattle.board.proofs.Told.{told}
use Rattle.board.proofs.pool_lay_out.Goals as goal

pub returns : goal.returns
returns c = told _ c.lay_out.ensures c.of.ensures
