-- What C hears of a call: one number of 64 bits, with the refusal's number in its upper half and the value in its lower half; and what is left
-- in the lent buffer or list. The calls' meaning is the pool's own (crate pool, specs/Calls); only the list of seven figures is added here.
use Rattle.std.specs.Prelude.{List, ℕ, ◌/◌, ◌%◌, length}
use Rattle.words.specs.Choice.{if=}
use Rattle.paper.specs.declared.Figures.{Figures}
use Rattle.pool.specs.Calls as call
use Rattle.std.specs.declared.result.Result.TheVariants.{Ok, Err}
use Rattle.paper.specs.declared.Refusal.TheVariants.{ListLength}
use Rattle.paper.specs.Answers.{Answer, number, out, Out, seven_of, Tally, value}

-- ---- one number

pub record Halves : Type 0 where
  pub upper : ℕ
  pub lower : ℕ

-- the two halves of a number of 64 bits
abbrev pub halves : ℕ → Halves
halves r = record { upper = r / 4294967296; lower = r % 4294967296 }

-- "A refusal returns 0 beside its number."
abbrev pub heard : Answer → Halves
heard a = record { upper = number a; lower = value a }

-- ---- and what is left

pub record Left : Type 0 where
  pub hears : Halves
  pub after : List ℕ

abbrev pub left : Halves → List ℕ → Left
left h s = record { hears = h; after = s }

abbrev pub leaves : Out → Left
leaves o = left (heard o.answer) o.after

-- ---- the figures in a list

-- a list of another length is refused as the class count refuses one that has not 53 counters
unfoldable pub counted : Figures → List ℕ → Out
counted f xs = if= (length xs) 7 (out (Ok f.held_blocks) (seven_of f)) (out (Err ListLength) xs)

abbrev pub tallied : Tally → List ℕ → Out
tallied (Ok f) xs = counted f xs
tallied (Err k) xs = out (Err k) xs

unfoldable pub figures : List ℕ → List ℕ → Out
figures bs xs = tallied (call.figures bs) xs
