-- `has` of large blocks: their least size.
use Rattle.runs.proofs.Laws.{large-is}
use Rattle.runs.proofs.LargeKind.has.Goals as goal

pub returns : goal.returns
returns c = large-is _
