-- u32::from meets its contract: shifts and ors put the head together.
use Rattle.heads.proofs.HeadLaws.{made}
use Rattle.heads.proofs.head.U32FromHead.from.Goals as goal

pub returns : goal.returns
returns c = made _
