-- heads::with_p meets its contract: the parts of the old head, and another P.
use Rattle.heads.specs.Heads.{with_p}
use Rattle.heads.proofs.head.with_p.Goals as goal

pub returns : goal.returns
unfolding with_p
returns c = cc
