-- What a request does to the run's pool, and which numbers it prints.
-- "Before the first accepted L the pool is empty (n = 0). A refused L keeps the old pool. Its buffer starts as zeros."
-- "Tape kind 5 lays out layout 2" (request 2026-04).
use Rattle.std.specs.Prelude.{List, ◌++◌, ℕ, length, take as first_of, drop}
use Rattle.words.specs.Choice.{if<}
use Rattle.pool.specs.Calls.{lay_out, take, give_back, figures}
use Rattle.records.specs.declared.request.Request.{Request}
use Rattle.records.specs.declared.request.Request.TheVariants.{LayOut, LayOutIndexed, Take, GiveBack, Figures}
use Rattle.lines.specs.Lines.{answered, tallied}
use Rattle.std.specs.declared.result.Result.TheVariants.{Ok, Err}
use Rattle.paper.specs.declared.Refusal.TheVariants.{NotAllowed}
use Rattle.paper.specs.Answers.{Answer, out, Out, Tally}

-- the run's pool is the first n bytes of its buffer
pub record Pool : Type 0 where
  pub n : ℕ
  pub buffer : List ℕ

abbrev pub pool : ℕ → List ℕ → Pool
pool n buffer = record { n = n; buffer = buffer }

-- what a call on the first n bytes answers, and the whole buffer after it
abbrev pub before : ℕ → List ℕ → Out → Out
before n buffer o = out o.answer (o.after ++ drop n buffer)

-- a call on the first n bytes of the buffer. An n that the buffer does not have is not allowed
unfoldable pub on_first : (List ℕ → Out) → ℕ → List ℕ → Out
on_first call n buffer = if< (length buffer) n (out (Err NotAllowed) buffer) (before n buffer (call (first_of n buffer)))

unfoldable pub figures_first : ℕ → List ℕ → Tally
figures_first n buffer = if< (length buffer) n (Err NotAllowed) (figures (first_of n buffer))

-- the pool's size after a lay out
abbrev pub accepted : Answer → (new old : ℕ) → ℕ
accepted (Ok v) new old = new
accepted (Err k) new old = old

-- after a request: the pool, and the numbers that it prints
pub record Outcome : Type 0 where
  pub after : Pool
  pub numbers : List ℕ

abbrev pub answers : ℕ → Out → Outcome
answers n o = record { after = pool n o.after; numbers = answered o.answer }

abbrev pub laying_out : (new old : ℕ) → Out → Outcome
laying_out new old o = answers (accepted o.answer new old) o

unfoldable pub serve : Pool → Request → Outcome
serve p (LayOut new) = laying_out new p.n (on_first (λ s. lay_out s 1) new p.buffer)
serve p (LayOutIndexed new) = laying_out new p.n (on_first (λ s. lay_out s 2) new p.buffer)
serve p (Take size) = answers p.n (on_first (λ s. take s size) p.n p.buffer)
serve p (GiveBack offset) = answers p.n (on_first (λ s. give_back s offset) p.n p.buffer)
serve p Figures = record { after = p; numbers = tallied (figures_first p.n p.buffer) }
