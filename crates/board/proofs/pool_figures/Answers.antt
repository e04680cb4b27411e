-- board::pool_figures meets its contract: it tells the pool's figures, put into the list.
use Rattle.board.proofs.Told.{told, figures-told}
use Rattle.board.proofs.pool_figures.Goals as goal

pub returns : goal.returns
returns c = told _ (figures-told _ c.args.figures.now c.figures.ensures c.tallied.ensures) c.of.ensures
