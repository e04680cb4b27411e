-- The public calls, by the paper: what each answers and every lent byte afterwards, as a function of its arguments and the bytes before.
use Rattle.std.specs.Prelude.{◌≡◌, List, ℕ, ◌+◌, ◌-◌, take as firsts, drop}
use Rattle.std.specs.Borrow.{Bor, MutBor}
use Rattle.paper.specs.Calls.{lay_out_call, inspect_call, take_call, give_back_call, ask_call, ask_all_call, lend_from, lend_to, figures_call, class_count_call}
use Rattle.reading.specs.Read.{read}
use Rattle.paper.specs.Answers.{Answer, Out, Tally}

unfoldable pub lay_out : List ℕ → ℕ → Out
lay_out bs layout = lay_out_call bs layout

unfoldable pub inspect : List ℕ → Answer
inspect bs = inspect_call (read bs) bs

unfoldable pub take : List ℕ → ℕ → Out
take bs size = take_call (read bs) bs size

unfoldable pub give_back : List ℕ → ℕ → Out
give_back bs offset = give_back_call (read bs) bs offset

unfoldable pub ask : List ℕ → ℕ → Answer
ask bs offset = ask_call (read bs) offset

-- about the offset at a place of a list, which is asked as a whole at one reading
unfoldable pub ask_all : List ℕ → List ℕ → ℕ → Answer
ask_all bs offsets place = ask_all_call (read bs) offsets place

-- the part that is lent: where it starts and ends, and its bytes
unfoldable pub part_from : List ℕ → ℕ → ℕ
part_from bs offset = lend_from (read bs) bs offset

unfoldable pub part_to : List ℕ → ℕ → ℕ
part_to bs offset = lend_to (read bs) bs offset

abbrev pub part : List ℕ → ℕ → List ℕ
part bs offset = firsts (part_to bs offset - part_from bs offset) (drop (part_from bs offset) bs)

-- a reference to it: its bytes, and its place, which is a block of memory and an offset there
pub record Lent (r pool : Bor (List ℕ)) (offset : ℕ) : Type 0 where
  pub bytes : r.now ≡ part pool.now offset
  pub place : r.ref_ptr ≡ (pool.ref_ptr.0, pool.ref_ptr.1 + part_from pool.now offset)

-- the same of a reference for writing
pub record LentMut (r pool : MutBor (List ℕ)) (offset : ℕ) : Type 0 where
  pub bytes : r.now ≡ part pool.now offset
  pub place : r.ref_ptr ≡ (pool.ref_ptr.0, pool.ref_ptr.1 + part_from pool.now offset)

unfoldable pub figures : List ℕ → Tally
figures bs = figures_call (read bs)

-- what is answered, and the counters afterwards
unfoldable pub class_count : List ℕ → List ℕ → Out
class_count bs cs = class_count_call (read bs) cs
