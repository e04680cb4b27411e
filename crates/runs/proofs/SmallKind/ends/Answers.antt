-- `ends` of small blocks: they have no footer.
use Rattle.runs.proofs.Laws.{small-ends}
use Rattle.runs.proofs.SmallKind.ends.Goals as goal

pub returns : goal.returns
returns c = λ k. small-ends _ _ _ k
