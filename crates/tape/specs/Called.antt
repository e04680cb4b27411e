-- A call on the run's pool, as the code has it.
use Rattle.std.specs.Prelude.{◌≡◌, ℕ}
use Rattle.paper.specs.Answers.{Answer, Out, out}
use Rattle.tape.specs.declared.calls.RunPool.{RunPool}
use Rattle.tape.specs.Serve.{Pool, pool}

abbrev pub held : RunPool → Pool
held p = pool p.n p.buffer.now

-- the call's answer and the buffer after it are `o`, and the pool is then the first n bytes of the same buffer
pub record Called (before : RunPool) (o : Out) (n : ℕ) (answer : Answer) (after : RunPool) : Type 0 where
  pub same_bytes : after.buffer.ghost_name ≡ before.buffer.ghost_name
  pub leaves : o ≡ out answer after.buffer.now
  pub size : after.n ≡ n
