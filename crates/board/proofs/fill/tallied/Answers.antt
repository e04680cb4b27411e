-- board::fill::tallied meets its contract: refused as the figures are, or the list is filled.
use borrow.Author.Rules.{rules}
use Rattle.board.proofs.fill.tallied.Goals as goal

pub returns-in_err-t : goal.returns-in_err-t
returns-in_err-t c = rw c.in_err-t.was (search rules)

pub returns : goal.returns
returns c = rw c.in_ok-t.was c.counted.ensures
