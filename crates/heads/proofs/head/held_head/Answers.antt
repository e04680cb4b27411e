-- heads::held_head meets its contract, by its text.
use Rattle.heads.specs.Heads.{held_head}
use borrow.Author.Rules.{rules}
use Rattle.heads.proofs.head.held_head.Goals as goal

pub returns : goal.returns
unfolding held_head
returns c = search rules
