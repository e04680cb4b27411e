-- The models of the calls on a pool that is known to be sound, on a list of bytes: laying out, taking, asking about a list of offsets and the
-- figures as they are below, and those that look an offset up or ask how long a list is.
use Rattle.std.specs.Prelude.{List, ℕ, length}
use Rattle.words.specs.Choice.{if=}
use Rattle.words.specs.Sums.{minus}
use Rattle.paper.specs.declared.Found.{Found}
use Rattle.paper.specs.Calls.{unchanged}
use Rattle.paper.specs.LookingUp.{by_offset}
use Rattle.giveback.specs.GiveBack as giveback
use Rattle.walk.specs.LookUp as walk
use Rattle.walk.specs.Classes.{class_counts}
unfoldable pub use Rattle.asking.specs.AllHeld.{all_held}
unfoldable pub use Rattle.grant.specs.Take.{take}
unfoldable pub use Rattle.walk.specs.Tallies.{tally as figures}
unfoldable pub use Rattle.laying.specs.LayingOut.{lay_out}
use Rattle.std.specs.declared.result.Result.TheVariants.{Ok, Err}
use Rattle.paper.specs.declared.Refusal.TheVariants.{ListLength}
use Rattle.paper.specs.Answers.{Answer, out, Out}
use Rattle.paper.specs.declared.Refusal.{Refusal}

-- the size of the held block whose payload starts at the offset, by the block that the offset is in; or the refusal
unfoldable pub held_there : Found → ℕ → Answer
held_there x offset = by_offset x offset Err (λ q z. Ok z)

module _ {A : Type 0} where
  abbrev pub by_answer : Answer → (refused : Refusal → A) → (done : ℕ → A) → A
  by_answer (Ok z) refused done = done z
  by_answer (Err k) refused done = refused k

unfoldable pub give_back : List ℕ → ℕ → Out
give_back bs offset =
    by_answer (held_there (walk.look_up bs offset) offset)
    (unchanged bs)
    (λ z. out (Ok (minus z 4)) (giveback.give_back bs (minus offset 4) z))

unfoldable pub ask : List ℕ → ℕ → Answer
ask bs offset = by_answer (held_there (walk.look_up bs offset) offset) Err (λ z. Ok (minus z 4))

-- what is answered, and the counters afterwards
unfoldable pub class_count : List ℕ → List ℕ → Out
class_count bs cs =
    if= (length cs) 53 (out (Ok (class_counts bs cs).held) (class_counts bs cs).each) (unchanged cs ListLength)
