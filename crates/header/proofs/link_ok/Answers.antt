-- `link_ok`: where the word leads decides.
use borrow.Author.Rules.{rules}
use Rattle.header.proofs.Laws.{no-link, linked}
use Rattle.header.proofs.link_ok.Goals as goal

pub returns-then-w-eq0 : goal.returns-then-w-eq0
returns-then-w-eq0 c = no-link _ _ c.if-w-eq0.true

pub returns : goal.returns
returns c = linked _ _ (search rules) (search rules) c.if-w-eq0.false c.follow.ensures
