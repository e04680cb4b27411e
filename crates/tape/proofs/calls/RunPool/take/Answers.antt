-- tape::calls::RunPool::take meets its contract: it is the pool's call on the first n bytes.
use Rattle.std.proofs.Common.{refl}
use Rattle.tape.proofs.calls.RunPool.take.Goals as goal

pub returns : goal.returns
returns c = record { same_bytes = refl; leaves = c.take.ensures; size = refl }
