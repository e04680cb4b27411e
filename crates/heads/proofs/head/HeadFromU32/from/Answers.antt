-- Head::from meets its contract: shifts and masks take the head apart.
use Rattle.heads.proofs.HeadLaws.{split}
use Rattle.heads.proofs.head.HeadFromU32.from.Goals as goal

pub returns : goal.returns
returns c = split _
