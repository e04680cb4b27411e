-- tape::calls::RunPool::lay_out meets its contract: it is the pool's call on the first n bytes.
use Rattle.std.proofs.Common.{refl}
use Rattle.tape.proofs.calls.RunPool.lay_out.Goals as goal

pub returns-in-Ok : goal.returns-in-Ok
returns-in-Ok c = record { same_bytes = refl; leaves = c.lay_out-answer.ensures; size = rw c.in-Ok.is refl }

pub returns-in-Err : goal.returns-in-Err
returns-in-Err c = record { same_bytes = refl; leaves = c.lay_out-answer.ensures; size = rw c.in-Err.is refl }
