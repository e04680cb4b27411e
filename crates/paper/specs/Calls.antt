-- "What the board hears": the answer of every public call and every lent byte afterwards. "Tests run in the order 1, 2, then the call's own."
-- "After a call each governed byte has the value that the new blocks and lists give it; every other byte of the pool keeps its old value."
use Rattle.std.specs.Prelude.{◌≡◌, List, ℕ, ◌+◌, ◌-◌, get_or, length}
use Rattle.words.specs.Choice.{if=, when}
use Rattle.paper.specs.Allowed.{Allowed, allowed}
use Rattle.paper.specs.Blocks.{State, blocks}
use Rattle.paper.specs.Runs.{sum_of}
use Rattle.paper.specs.Sheet.{write}
use Rattle.paper.specs.Governed.{sheet}
use Rattle.paper.specs.Sound.{Edge, SoundBy}
use Rattle.paper.specs.Fresh.{fresh, layout_top}
use Rattle.paper.specs.Granting.{Result, take}
use Rattle.paper.specs.GivingBack.{ask, give_back}
use Rattle.paper.specs.AskingAll.{all_held, ask_one}
use Rattle.paper.specs.LookingUp.{look_up, by_offset}
use Rattle.paper.specs.Counting.{held_one, figures, class_counters}
use Rattle.std.specs.declared.result.Result.TheVariants.{Ok, Err}
use Rattle.paper.specs.declared.Refusal.TheVariants.{ListLength, NoLayout, NotAllowed, NotHeld, NotSound}
use Rattle.paper.specs.Answers.{Answer, out, Out, Tally}
use Rattle.paper.specs.declared.Refusal.{Refusal}

-- ---- what a call finds when it reads the pool

pub data Reading : Type 0 where
  misfit broken : Reading
  sound : State → Reading

-- exactly one of them is what the bytes are: n is not allowed; it is and the pool is not sound; or it is sound, with these blocks and lists
abbrev pub ReadsBy : (State → Type 0) → List ℕ → Reading → Type 0
ReadsBy Rule bs misfit = Allowed (length bs) → ⊥
ReadsBy Rule bs broken = Allowed (length bs) × (SoundBy Rule bs → ⊥)
ReadsBy Rule bs (sound s) = (S : SoundBy Rule bs) × (S.state ≡ s)

-- by the rule in force; every call but bring-in reads so
abbrev pub Reads : List ℕ → Reading → Type 0
Reads bs r = ReadsBy Edge bs r

-- "Tests run in the order 1, 2, then the call's own": refused with the reading's number, or served from the blocks and lists that were read
module _ {A : Type 0} where
  abbrev pub by_reading : Reading → (refused : Refusal → A) → (served : State → A) → A
  by_reading misfit refused served = refused NotAllowed
  by_reading broken refused served = refused NotSound
  by_reading (sound s) refused served = served s

-- ---- the calls

-- "A refusal returns 0 beside its number and changes nothing."
abbrev pub unchanged : List ℕ → Refusal → Out
unchanged bs k = out (Err k) bs

-- the new blocks and lists over the old bytes
abbrev pub leaves : Result → List ℕ → Out
leaves r bs = out r.answer (write (sheet r.state) bs)

-- "Laying out returns n", and reads nothing. "Refusals: 8 for a layout number other than 1 or 2, after 1." (request 2026-04)
unfoldable pub laying_out : List ℕ → ℕ → Out
laying_out bs t = if= t 0 (unchanged bs NoLayout) (out (Ok (length bs)) (write (sheet (fresh t (length bs))) bs))

unfoldable pub lay_out_call : List ℕ → ℕ → Out
lay_out_call bs layout = when (allowed (length bs)) (laying_out bs (layout_top layout)) (unchanged bs NotAllowed)

abbrev pub inspect_call : Reading → List ℕ → Answer
inspect_call r bs = by_reading r Err (λ s. Ok (length bs))

abbrev pub take_call : Reading → List ℕ → ℕ → Out
take_call r bs size = by_reading r (unchanged bs) (λ s. leaves (take s size) bs)

abbrev pub give_back_call : Reading → List ℕ → ℕ → Out
give_back_call r bs offset = by_reading r (unchanged bs) (λ s. leaves (give_back s offset) bs)

abbrev pub ask_call : Reading → ℕ → Answer
ask_call r offset = by_reading r Err (λ s. ask s offset)

-- about the offset at a place of a list, 0 past its end: refused as asking about any of them would be, also where one stands there twice
abbrev pub ask_all_call : Reading → List ℕ → ℕ → Answer
ask_all_call r offsets place = by_reading r Err (λ s. when (all_held s offsets) (ask_one s (get_or offsets place 0)) (Err NotHeld))

-- "A refused lend returns the empty part at the pool's end.": where the part starts and where it ends
abbrev pub lend_from : Reading → List ℕ → ℕ → ℕ
lend_from r bs offset = by_reading r (λ k. length bs) (λ s. by_offset (look_up s offset) offset (λ k. length bs) (λ q z. offset))

abbrev pub lend_to : Reading → List ℕ → ℕ → ℕ
lend_to r bs offset = by_reading r (λ k. length bs) (λ s. by_offset (look_up s offset) offset (λ k. length bs) (λ q z. offset + (z - 4)))

abbrev pub figures_call : Reading → Tally
figures_call r = by_reading r Err (λ s. Ok (figures s))

-- "The class count returns the number of held blocks", and "the count fills a lent list of 53 numbers"
unfoldable pub class_count : State → List ℕ → Out
class_count s cs = if= (length cs) 53 (out (Ok (sum_of held_one (blocks s))) (class_counters s)) (unchanged cs ListLength)

abbrev pub class_count_call : Reading → List ℕ → Out
class_count_call r cs = by_reading r (unchanged cs) (λ s. class_count s cs)
