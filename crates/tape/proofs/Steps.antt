-- A request is served: one law for each kind, from the call's equation and the line that was printed.
use mathlib.Core.Path.{◌≡◌, refl, sym, ap, ◌∙◌}
use Prim.Native.Nat.{ℕ}
use Rattle.paper.specs.Answers.{Answer, Out, Tally}
use Rattle.text.specs.declared.Page.{Page as Lent}
use Rattle.pool.specs.Calls.{lay_out, take, give_back}
use Rattle.records.specs.declared.request.Request.TheVariants.{LayOut, LayOutIndexed, Take, GiveBack, Figures}
use Rattle.lines.specs.Lines.{line_of, answered, tallied, letter_of}
use Rattle.lines.specs.Printed.{Printed}
use Rattle.tape.specs.declared.calls.RunPool.{RunPool}
use Rattle.tape.specs.Serve.{pool, on_first, figures_first, accepted, serve}
use Rattle.tape.specs.Called.{Called, held}
use Rattle.tape.specs.Step.{Stepped}

-- the pool after a lay out, in either layout
kept-pool : {before after : RunPool} {a : Answer} (new : ℕ) {o : Out} → Called before o (accepted a new before.n) a after
    → pool (accepted o.answer new before.n) o.after ≡ held after
kept-pool {before} {after} new h =
    ap (λ (o : Out). pool (accepted o.answer new before.n) o.after) h.leaves ∙ ap (λ (k : ℕ). pool k after.buffer.now) (sym h.size)

-- and after a call that keeps its size
kept-same : {before after : RunPool} {a : Answer} {o : Out} → Called before o before.n a after → pool before.n o.after ≡ held after
kept-same {before} {after} h = ap (λ (o : Out). pool before.n o.after) h.leaves ∙ ap (λ (k : ℕ). pool k after.buffer.now) (sym h.size)

module _ {nth : ℕ} {before after : RunPool} {lines lines' : Lent} where
  pub laid_out : {a : Answer} (new : ℕ)
      → Called before (on_first (λ s. lay_out s 1) new before.buffer.now) (accepted a new before.n) a after
      → Printed lines (line_of nth (letter_of (LayOut new)) (answered a)) lines'
      → Stepped before (LayOut new) nth lines after lines'
  unfolding serve
  laid_out new h p = record { same_bytes = h.same_bytes; kept = kept-pool new h; printed = rw h.leaves p }

  pub laid-out-indexed : {a : Answer} (new : ℕ)
      → Called before (on_first (λ s. lay_out s 2) new before.buffer.now) (accepted a new before.n) a after
      → Printed lines (line_of nth (letter_of (LayOutIndexed new)) (answered a)) lines'
      → Stepped before (LayOutIndexed new) nth lines after lines'
  unfolding serve
  laid-out-indexed new h p = record { same_bytes = h.same_bytes; kept = kept-pool new h; printed = rw h.leaves p }

  pub taken : {a : Answer} (size : ℕ) → Called before (on_first (λ s. take s size) before.n before.buffer.now) before.n a after
      → Printed lines (line_of nth (letter_of (Take size)) (answered a)) lines'
      → Stepped before (Take size) nth lines after lines'
  unfolding serve
  taken size h p = record { same_bytes = h.same_bytes; kept = kept-same h; printed = rw h.leaves p }

  pub given_back : {a : Answer} (offset : ℕ)
      → Called before (on_first (λ s. give_back s offset) before.n before.buffer.now) before.n a after
      → Printed lines (line_of nth (letter_of (GiveBack offset)) (answered a)) lines'
      → Stepped before (GiveBack offset) nth lines after lines'
  unfolding serve
  given_back offset h p = record { same_bytes = h.same_bytes; kept = kept-same h; printed = rw h.leaves p }

pub counted : {nth : ℕ} {p : RunPool} {lines lines' : Lent} {t : Tally} → t ≡ figures_first p.n p.buffer.now
    → Printed lines (line_of nth (letter_of Figures) (tallied t)) lines'
    → Stepped p Figures nth lines p lines'
unfolding serve
counted e h = record { same_bytes = refl; kept = refl; printed = rw (← e) h }
