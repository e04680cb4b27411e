-- A run depends on blocks and lists alone: the same run over states prints its lines and has the state of its last pool, whatever else stands
-- in the buffer. The pool of a run is empty or stands for a state, and each request keeps that.
use mathlib.Core.Bool.{Bool, true, false}
use mathlib.Core.List.{List, [], ◌∷◌, ◌++◌, append-nil}
use mathlib.Core.Logic.{◌≢◌, ◌⊎◌, inl, inr}
use mathlib.Core.Option.{Option, none, some}
use mathlib.Core.Path.{◌≡◌, refl, sym, ap, ap₂, ◌∙◌, subst}
use Prim.Native.Nat.{ℕ, zero, suc, ◌+◌, ◌-◌, ◌≤◌}
use native.Mathlib.Omega.{arith}
use lib.ListN.{get_or-append, get_or-eq_default, get_or, length, take as first_of, drop, length-append, length-drop, take-append-drop}
use lib.Seq.{get_or-append-add, get_or-drop, get_or-take, length-take-le, take_at}
use Rattle.words.specs.Choice.{if<, if<-yes, if<-no, if=, if=-no, when-yes, when-no, by<}
use Rattle.words.specs.Words.{Bytes}
use Rattle.paper.specs.Allowed.{Allowed, allowed}
use Rattle.paper.specs.Blocks.{State}
use Rattle.paper.specs.Calls.{Reading, Reads, misfit, sound, lay_out_call, take_call, give_back_call, figures_call, leaves, laying_out as laid_out_call}
use Rattle.paper.specs.Counting.{figures as figures_of}
use Rattle.paper.specs.Fresh.{fresh, layout_top}
use Rattle.paper.specs.GivingBack.{give_back as give_back_of}
use Rattle.paper.specs.Governed.{sheet}
use Rattle.paper.specs.Granting.{Result, take as take_of}
use Rattle.paper.specs.Sheet.{write}
use Rattle.paper.proofs.keeps.BackKeeps.{give_back-keeps}
use Rattle.paper.proofs.keeps.FreshSound.{fresh-edge, fresh-ends, fresh-well-formed}
use Rattle.paper.proofs.keeps.Kept.{Kept}
use Rattle.paper.proofs.keeps.KeptStands.{kept-stands}
use Rattle.paper.proofs.keeps.TakeKeeps.{take-keeps}
use Rattle.paper.proofs.reads.Allowed.{allowed-inv}
use Rattle.paper.proofs.reads.RoundTrip.{write-stands}
use Rattle.paper.proofs.reads.Standing.{stands-sound}
use Rattle.paper.proofs.reads.Stands.{Stands}
use Rattle.paper.proofs.sheet.Written.{length-write}
use Rattle.paper.proofs.sheet.WrittenBytes.{write_bytes}
use Rattle.pool.specs.Calls.{lay_out, take, give_back, figures}
use Rattle.reading.specs.Read.{read}
use Rattle.reading.proofs.Readings.{reads, reading-unique}
use Rattle.records.specs.declared.request.Request.{Request}
use Rattle.records.specs.declared.request.Request.TheVariants.{LayOut, LayOutIndexed, Take, GiveBack, Figures}
use Rattle.std.specs.Prelude.{None, Some}
use Rattle.records.specs.Records.{Record, read_at}
use Rattle.lines.specs.Lines.{line_of, answered, tallied, letter_of}
use Rattle.tape.specs.Alike.{Line, line, printed}
use Rattle.tape.specs.Run.{Run, by_record, longest, run, run_from, run_of, then, x_line}
use Rattle.tape.proofs.First.{in-the-buffer, past-the-buffer}
use Rattle.tape.specs.Serve.{Pool, Outcome, answers, figures_first, laying_out, on_first, pool, serve}
use Rattle.std.specs.declared.result.Result.TheVariants.{Ok, Err}
use Rattle.paper.specs.declared.Refusal.TheVariants.{NotAllowed, Unreadable}
use Rattle.paper.specs.declared.Refusal.{Refusal}
use Rattle.paper.specs.Answers.{code, out, Out, seven_of, Tally}

-- ---- a run over states, in a buffer of `room` bytes

-- "Before the first accepted L the pool is empty": none
pub record Step : Type 0 where
  pub after : Option State
  pub numbers : List ℕ

abbrev pub result : Result → Step
result r = record { after = some r.state; numbers = answered r.answer }

abbrev refused_by : Refusal → Option State → Step
refused_by k m = record { after = m; numbers = code k ∷ 0 ∷ [] }

-- with an index t high
abbrev pub lay_state : ℕ → Bool → ℕ → Option State → Step
lay_state t true new m = record { after = some (fresh t new); numbers = 0 ∷ new ∷ [] }
lay_state t false new m = refused_by NotAllowed m

unfoldable pub laid_state : ℕ → ℕ → ℕ → Option State → Step
laid_state room t new m = if< room new (refused_by NotAllowed m) (lay_state t (allowed new) new m)

unfoldable pub serve_state : ℕ → Option State → Request → Step
serve_state room m (LayOut new) = laid_state room 1 new m
serve_state room m (LayOutIndexed new) = laid_state room 13 new m
serve_state room none (Take size) = refused_by NotAllowed none
serve_state room (some s) (Take size) = result (take_of s size)
serve_state room none (GiveBack offset) = refused_by NotAllowed none
serve_state room (some s) (GiveBack offset) = result (give_back_of s offset)
serve_state room none Figures = refused_by NotAllowed none
serve_state room (some s) Figures = record { after = some s; numbers = 0 ∷ seven_of (figures_of s) }

-- the lines, and what the pool stands for in the end
pub record States : Type 0 where
  pub lines : List Line
  pub last : Option State

abbrev pub states : List Line → Option State → States
states lines last = record { lines = lines; last = last }

abbrev pub states_of : Record → (Request → ℕ → States) → States → States
states_of (Some (request, next)) served stopped = served request next
states_of None served stopped = stopped

-- a line, and what comes after it
abbrev pub then_states : Line → States → States
then_states l r = states (l ∷ r.lines) r.last

unfoldable pub states_from : (room left : ℕ) (tape : List ℕ) (at : ℕ) → Option State → States
states_from room zero tape at m = states [] m
states_from room (suc left) tape at m =
    if< at (length tape)
    (states_of (read_at tape at)
    (λ request next.
    then_states (line (letter_of request) (serve_state room m request).numbers) (states_from room left tape next (serve_state room m request).after))
    (states (line 88 (code Unreadable ∷ 0 ∷ []) ∷ []) m))
    (states [] m)

-- ---- the pool of a run stands for what the run over states has

abbrev For : Pool → Option State → Type 0
For p none = p.n ≡ 0
For p (some s) = (p.n ≤ length p.buffer) × Stands s (first_of p.n p.buffer)

pub record StandsFor (room : ℕ) (p : Pool) (m : Option State) : Type 0 where
  pub bytes : Bytes p.buffer
  pub long : length p.buffer ≡ room
  pub for : For p m

-- ---- bytes of parts

first-bytes : (n : ℕ) (l : List ℕ) → n ≤ length l → Bytes l → Bytes (first_of n l)
first-bytes n l m h i =
    by< i n (λ b. omega (arith, get_or-take n l i 0 b, h i))
    (λ b. omega (arith, get_or-eq_default (first_of n l) 0 {n = i} (omega (arith, length-take-le n l m))))

front_bytes : (new : List ℕ) (n : ℕ) (l : List ℕ) → length new ≡ n → Bytes new → Bytes l → Bytes (new ++ drop n l)
front_bytes new n l e g h i =
    by< i n (λ b. omega (arith, get_or-append new (drop n l) 0 i (omega arith), g i))
    (λ b. let k : i ≡ length new + (i - n) = omega arith in
    omega (
      arith,
      ap (λ (j : ℕ). get_or (new ++ drop n l) j 0) k,
      get_or-append-add new (drop n l) (i - n) 0,
      get_or-drop n l (i - n) 0,
      h (n + (i - n)),
    ))

-- ---- a request

-- what a request prints, and what the pool then stands for
pub record Agrees (room : ℕ) (p : Pool) (m : Option State) (request : Request) : Type 0 where
  pub same : (serve p request).numbers ≡ (serve_state room m request).numbers
  pub kept : StandsFor room (serve p request).after (serve_state room m request).after

-- the state s' over the first n bytes of a buffer
written-for : (room n : ℕ) (buffer : List ℕ) (s' : State) → Bytes buffer → length buffer ≡ room → n ≤ length buffer
    → Stands s' (write (sheet s') (first_of n buffer))
    → StandsFor room (pool n (write (sheet s') (first_of n buffer) ++ drop n buffer)) (some s')
written-for room n buffer s' h l m S =
    let bs : List ℕ = first_of n buffer in
    let k : length (write (sheet s') bs) ≡ n = length-write (sheet s') bs ∙ length-take-le n buffer m in
    let whole : length (write (sheet s') bs ++ drop n buffer) ≡ length buffer =
    omega (arith, length-append (write (sheet s') bs) (drop n buffer), length-drop n buffer) in
    record {
      bytes = front_bytes (write (sheet s') bs) n buffer k (write_bytes (sheet s') bs (first-bytes n buffer m h)) h;
      long = whole ∙ l;
      for = (omega arith, subst (Stands s') (sym (take_at (write (sheet s') bs) (drop n buffer) n k)) S);
    }

no-pool : Reads [] misfit
no-pool a = omega (arith, a.least)

-- before the first accepted L
empty-reads : read [] ≡ misfit
empty-reads = reading-unique [] (read []) misfit (reads [] (λ i. omega arith)) no-pool

module _ (room : ℕ) (p : Pool) where
  abbrev first : List ℕ
  first = first_of p.n p.buffer

  -- ---- of an empty pool

  refused-empty : (call : List ℕ → Out) → p.n ≡ 0 → call [] ≡ out (Err NotAllowed) []
      → on_first call p.n p.buffer ≡ out (Err NotAllowed) p.buffer
  refused-empty call e f = ap (λ (k : ℕ). on_first call k p.buffer) e ∙ in-the-buffer call 0 p.buffer (omega arith) f

  -- ---- of a pool that stands for s

  module _ (s : State) (S : StandsFor room p (some s)) where
    reads-state : read first ≡ sound s
    reads-state =
        reading-unique first (read first) (sound s) (reads first (first-bytes p.n p.buffer S.for.0 S.bytes))
        (stands-sound s first S.for.1)

    -- a call that leaves the result r of a rule on states
    left_by : (call : List ℕ → Out) (r : Result) → call first ≡ leaves r first
        → on_first call p.n p.buffer ≡ out r.answer (write (sheet r.state) first ++ drop p.n p.buffer)
    left_by call r e = in-the-buffer call p.n p.buffer S.for.0 e

    kept_for : (s' : State) → Kept s s' → StandsFor room (pool p.n (write (sheet s') first ++ drop p.n p.buffer)) (some s')
    kept_for s' k =
        written-for room p.n p.buffer s' S.bytes S.long S.for.0
        (kept-stands s s' first S.for.1 k)

-- ---- each kind of request

agrees-by : (room : ℕ) (p : Pool) (m : Option State) (request : Request) (o : Outcome) (t : Step) → serve p request ≡ o
    → serve_state room m request ≡ t
    → o.numbers ≡ t.numbers
    → StandsFor room o.after t.after
    → Agrees room p m request
agrees-by room p m request o t e f g h =
    record { same = ap (λ (x : Outcome). x.numbers) e ∙ g ∙ sym (ap (λ (x : Step). x.numbers) f); kept = rw (e, f) h }

-- a lay out, in either layout
module _ (room : ℕ) (p : Pool) (m : Option State) (S : StandsFor room p m) (layout t : ℕ) (is-t : layout_top layout ≡ t) (tops : (t ≡ 1) ⊎ (t ≡ 13))
    (request : Request) (new : ℕ) (served : serve p request ≡ laying_out new p.n (on_first (λ s. lay_out s layout) new p.buffer))
    (stated : serve_state room m request ≡ laid_state room t new m) where
  abbrev lay : List ℕ → Out
  lay s = lay_out s layout

  -- "A refused L keeps the old pool."
  lay-out-refused : on_first lay new p.buffer ≡ out (Err NotAllowed) p.buffer → laid_state room t new m ≡ refused_by NotAllowed m
      → Agrees room p m request
  lay-out-refused e f =
      agrees-by room p m request (answers p.n (out (Err NotAllowed) p.buffer)) (refused_by NotAllowed m)
      (served ∙ ap (laying_out new p.n) e) (stated ∙ f) refl S

  some-top : (t ≡ 1) ⊎ (t ≡ 13) → layout_top layout ≢ 0
  some-top (inl e) = omega arith
  some-top (inr e) = omega arith

  lay-out-agrees : Agrees room p m request
  unfolding laid_state lay_out lay_out_call laid_out_call
  lay-out-agrees =
      by< room new
      (λ l. lay-out-refused (past-the-buffer lay new p.buffer (omega (arith, S.long))) (if<-yes room new _ _ l))
      (λ l. go (allowed new) refl (omega (arith, S.long)) (if<-no room new _ _ l))
    where
      go : (b : Bool) → allowed new ≡ b → new ≤ length p.buffer → laid_state room t new m ≡ lay_state t (allowed new) new m → Agrees room p m request
      go false e l f =
          let k : length (first_of new p.buffer) ≡ new = length-take-le new p.buffer l in
          lay-out-refused
          (in-the-buffer lay new p.buffer l (when-no (allowed (length (first_of new p.buffer))) _ _ (ap allowed k ∙ e))
          ∙ ap (out (Err NotAllowed)) (take-append-drop new p.buffer))
          (f ∙ ap (λ (b : Bool). lay_state t b new m) e)
      go true e l f =
          let bs : List ℕ = first_of new p.buffer in
          let k : length bs ≡ new = length-take-le new p.buffer l in
          let a : Allowed new = allowed-inv new e in
          let g : lay bs ≡ out (Ok new) (write (sheet (fresh t new)) bs) =
          when-yes (allowed (length bs)) _ _ (ap allowed k ∙ e) ∙ if=-no (layout_top layout) 0 _ _ (some-top tops)
          ∙ ap (λ (u : ℕ). out (Ok (length bs)) (write (sheet (fresh u (length bs))) bs)) is-t
          ∙ ap (λ (j : ℕ). out (Ok j) (write (sheet (fresh t j)) bs)) k in
          agrees-by room p m request
          (answers new (out (Ok new) (write (sheet (fresh t new)) bs ++ drop new p.buffer))) (lay_state t true new m)
          (served ∙ ap (laying_out new p.n) (in-the-buffer lay new p.buffer l g)) (stated ∙ f ∙ ap (λ (b : Bool). lay_state t b new m) e) refl
          (written-for room new p.buffer (fresh t new) S.bytes S.long l
          (write-stands (fresh t new) (fresh-well-formed t new a tops) (fresh-edge t new) bs (fresh-ends t new a ∙ sym k)))

-- of an empty pool
module _ (room : ℕ) (p : Pool) (S : StandsFor room p none) where
  take_none : (size : ℕ) → Agrees room p none (Take size)
  unfolding serve serve_state take
  take_none size =
      agrees-by room p none (Take size) (answers p.n (out (Err NotAllowed) p.buffer)) (refused_by NotAllowed none)
      (ap (answers p.n) (refused-empty room p (λ b. take b size) S.for (ap (λ (x : Reading). take_call x [] size) empty-reads))) refl refl S

  give-back-none : (offset : ℕ) → Agrees room p none (GiveBack offset)
  unfolding serve serve_state give_back
  give-back-none offset =
      agrees-by room p none (GiveBack offset) (answers p.n (out (Err NotAllowed) p.buffer)) (refused_by NotAllowed none)
      (ap (answers p.n) (refused-empty room p (λ b. give_back b offset) S.for (ap (λ (x : Reading). give_back_call x [] offset) empty-reads)))
      refl refl S

  figures-none : Agrees room p none Figures
  unfolding serve serve_state figures figures_first
  figures-none =
      agrees-by room p none Figures (record { after = p; numbers = code NotAllowed ∷ 0 ∷ [] }) (refused_by NotAllowed none)
      (ap (λ (t : Tally). record { after = p; numbers = tallied t })
      (ap (λ (k : ℕ). figures_first k p.buffer) S.for ∙ if<-no (length p.buffer) 0 _ _ (omega arith) ∙ ap figures_call empty-reads))
      refl refl S

-- of a pool that stands for s
module _ (room : ℕ) (p : Pool) (s : State) (S : StandsFor room p (some s)) where
  take-some : (size : ℕ) → Agrees room p (some s) (Take size)
  unfolding serve serve_state take
  take-some size =
      agrees-by room p (some s) (Take size)
      (answers p.n (out (take_of s size).answer (write (sheet (take_of s size).state) (first_of p.n p.buffer) ++ drop p.n p.buffer)))
      (result (take_of s size))
      (ap (answers p.n)
      (left_by room p s S (λ b. take b size) (take_of s size)
      (ap (λ (x : Reading). take_call x (first_of p.n p.buffer) size) (reads-state room p s S))))
      refl refl (kept_for room p s S (take_of s size).state (take-keeps s S.for.1.well_formed size))

  give-back-some : (offset : ℕ) → Agrees room p (some s) (GiveBack offset)
  unfolding serve serve_state give_back
  give-back-some offset =
      agrees-by room p (some s) (GiveBack offset)
      (answers p.n
      (out (give_back_of s offset).answer (write (sheet (give_back_of s offset).state) (first_of p.n p.buffer) ++ drop p.n p.buffer)))
      (result (give_back_of s offset))
      (ap (answers p.n)
      (left_by room p s S (λ b. give_back b offset) (give_back_of s offset)
      (ap (λ (x : Reading). give_back_call x (first_of p.n p.buffer) offset) (reads-state room p s S))))
      refl refl (kept_for room p s S (give_back_of s offset).state (give_back-keeps s S.for.1.well_formed offset))

  figures-some : Agrees room p (some s) Figures
  unfolding serve serve_state figures figures_first
  figures-some =
      agrees-by room p (some s) Figures (record { after = p; numbers = 0 ∷ seven_of (figures_of s) })
      (record { after = some s; numbers = 0 ∷ seven_of (figures_of s) })
      (ap (λ (t : Tally). record { after = p; numbers = tallied t })
      (if<-no (length p.buffer) p.n _ _ S.for.0 ∙ ap figures_call (reads-state room p s S)))
      refl refl S

pub agrees : (room : ℕ) (p : Pool) (m : Option State) → StandsFor room p m → (request : Request) → Agrees room p m request
unfolding serve serve_state layout_top if=
agrees room p m S (LayOut new) = lay-out-agrees room p m S 1 1 refl (inl refl) (LayOut new) new refl refl
agrees room p m S (LayOutIndexed new) = lay-out-agrees room p m S 2 13 refl (inr refl) (LayOutIndexed new) new refl refl
agrees room p none S (Take size) = take_none room p S size
agrees room p (some s) S (Take size) = take-some room p s S size
agrees room p none S (GiveBack offset) = give-back-none room p S offset
agrees room p (some s) S (GiveBack offset) = give-back-some room p s S offset
agrees room p none S Figures = figures-none room p S
agrees room p (some s) S Figures = figures-some room p s S

-- ---- a run

-- a run prints the lines of the run over states, numbered from nth on, and ends in a pool that stands for its last state
pub record RunAgrees (room nth : ℕ) (r : Run) (q : States) : Type 0 where
  pub same : r.text ≡ printed nth q.lines
  pub stands : StandsFor room r.last q.last

run-agrees-by : (room nth : ℕ) (r r' : Run) (q q' : States) → r ≡ r' → q ≡ q' → RunAgrees room nth r' q' → RunAgrees room nth r q
run-agrees-by room nth r r' q q' e f a = subst (λ (x : Run). RunAgrees room nth x q) (sym e) (subst (RunAgrees room nth r') (sym f) a)

-- one record, where the run agrees from the next place on
record-agrees : (room left : ℕ) (tape : List ℕ) (nth : ℕ) (p : Pool) (m : Option State) → StandsFor room p m
    → ((at nth : ℕ) (p : Pool) (m : Option State) → StandsFor room p m → RunAgrees room nth (run_from left tape at nth p) (states_from room left tape at m))
    → (x : Record)
    → RunAgrees room nth
    (by_record x
    (λ request next. then (line_of nth (letter_of request) (serve p request).numbers) (run_from left tape next (nth + 1) (serve p request).after))
    (run (x_line nth) p))
    (states_of x
    (λ request next.
    then_states (line (letter_of request) (serve_state room m request).numbers) (states_from room left tape next (serve_state room m request).after))
    (states (line 88 (code Unreadable ∷ 0 ∷ []) ∷ []) m))
unfolding printed
record-agrees room left tape nth p m S on None = record { same = sym (append-nil (x_line nth)); stands = S }
record-agrees room left tape nth p m S on (Some (request, next)) =
    let g = agrees room p m S request in
    let r = on next (nth + 1) (serve p request).after (serve_state room m request).after g.kept in
    record { same = ap₂ (λ (a b : List ℕ). a ++ b) (ap (line_of nth (letter_of request)) g.same) r.same; stands = r.stands }

pub run-by-states : (room left : ℕ) (tape : List ℕ) (at nth : ℕ) (p : Pool) (m : Option State) → StandsFor room p m
    → RunAgrees room nth (run_from left tape at nth p) (states_from room left tape at m)
unfolding run_from states_from printed
run-by-states room zero tape at nth p m S = record { same = refl; stands = S }
run-by-states room (suc left) tape at nth p m S =
    let on = record-agrees room left tape nth p m S (run-by-states room left tape) (read_at tape at) in
    by< at (length tape)
    (λ l. run-agrees-by room nth _ _ _ _ (if<-yes at (length tape) _ _ l) (if<-yes at (length tape) _ _ l) on)
    (λ l. run-agrees-by room nth _ _ _ _ (if<-no at (length tape) _ _ l) (if<-no at (length tape) _ _ l) (record { same = refl; stands = S }))

-- a whole tape that is not too long, whatever stands in the buffer
pub tape-by-states : (tape buffer : List ℕ) → Bytes buffer → length tape ≤ longest
    → RunAgrees (length buffer) 1 (run_of tape buffer) (states_from (length buffer) (length tape) tape 0 none)
unfolding run_of
tape-by-states tape buffer h l =
    run-agrees-by (length buffer) 1 _ _ _ _ (if<-no longest (length tape) _ _ l) refl
    (run-by-states (length buffer) (length tape) tape 0 1 (pool 0 buffer) none (record { bytes = h; long = refl; for = refl }))
