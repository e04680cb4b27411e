-- board::bank_recall meets its contract: it tells what the bank's call answers.
use mathlib.Core.Path.{ap, sym, ◌∙◌}
use Rattle.board.specs.Heard.{heard}
use Rattle.board.proofs.pistons.bank_recall.Goals as goal

pub returns : goal.returns
returns c = ap heard (sym c.ask.ensures) ∙ c.of.ensures
