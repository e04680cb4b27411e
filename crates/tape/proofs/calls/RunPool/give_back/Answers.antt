-- tape::calls::RunPool::give_back meets its contract: it is the pool's call on the first n bytes.
use Rattle.std.proofs.Common.{refl}
use Rattle.tape.proofs.calls.RunPool.give_back.Goals as goal

pub returns : goal.returns
returns c = record { same_bytes = refl; leaves = c.give_back.ensures; size = refl }
