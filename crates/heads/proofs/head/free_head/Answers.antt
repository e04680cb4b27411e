-- heads::free_head meets its contract, by its text.
use Rattle.heads.specs.Heads.{free_head}
use borrow.Author.Rules.{rules}
use Rattle.heads.proofs.head.free_head.Goals as goal

pub returns : goal.returns
unfolding free_head
returns c = search rules
