-- board::pool_ask meets its contract: it tells what the pool's call answers.
use mathlib.Core.Path.{ap, sym, ◌∙◌}
use Rattle.board.specs.Heard.{heard}
use Rattle.board.proofs.pool_ask.Goals as goal

pub returns : goal.returns
returns c = ap heard (sym c.ask.ensures) ∙ c.of.ensures
