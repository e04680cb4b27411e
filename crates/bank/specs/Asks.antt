-- What the code asks of the pool for a call, at one reading.
use Rattle.std.specs.Prelude.{◌≡◌, List, ℕ, get_or}
use Rattle.words.specs.Choice.{if=}
use Rattle.pool.specs.Calls.{ask}
use Rattle.bank.specs.Calls.{refusal, refused}
use Rattle.std.specs.declared.result.Result.TheVariants.{Ok}
use Rattle.paper.specs.Answers.{Answer}

-- the first refusal; where there is none, the bytes of the payload that the piston names, 0 where it is empty
pub record Asks (bs bank : List ℕ) (piston : ℕ) (r : Answer) : Type 0 where
  pub first : refused r ≡ refusal bs bank piston
  pub told : (long : ℕ) → r ≡ Ok long → if= (get_or bank piston 0) 0 (Ok 0) (ask bs (get_or bank piston 0)) ≡ Ok long
