-- `next` of large blocks: the link in the word that was read.
use Rattle.std.proofs.Common.{ap, ◌∙◌}
use Rattle.heads.specs.Links.{followed}
use Rattle.lists.proofs.LargeBin.next.Goals as goal

pub returns : goal.returns
returns c = c.follow.ensures ∙ ap (followed _) c.field.ensures
