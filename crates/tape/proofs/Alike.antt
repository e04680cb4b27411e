-- One tape answers alike on both layouts, but for the letter of each lay out: the run over states keeps the same blocks and lists, since no
-- rule looks at the layout, and the run on bytes is that of states.
use mathlib.Core.Bool.{Bool, true, false}
use mathlib.Core.List.{List, [], ◌∷◌, append-nil, map}
use mathlib.Core.Logic.{◌⊎◌, inl, inr}
use mathlib.Core.Option.{Option, none, some}
use mathlib.Core.Path.{◌≡◌, refl, sym, ap, ◌∙◌, subst}
use Prim.Native.Nat.{ℕ, zero, suc}
use native.Mathlib.Omega.{arith}
use lib.ListN.{length, take as first_of}
use lib.Seq.{length-take-le}
use Rattle.words.specs.Choice.{if<-yes, if<-no, if=, by<}
use Rattle.words.specs.Words.{Bytes}
use Rattle.paper.proofs.keeps.AnyLayout.{figures-any, give-back-any, give-back-top, retopped, take-any, take-top}
use Rattle.paper.proofs.reads.Standing.{stands-sound}
use Rattle.paper.specs.declared.Figures.{Figures as FiguresOf}
use Rattle.paper.specs.Allowed.{allowed}
use Rattle.paper.specs.Answers.{code, seven_of}
use Rattle.paper.specs.declared.Refusal.TheVariants.{Unreadable}
use Rattle.paper.specs.Blocks.{State, with_top}
use Rattle.paper.specs.Fresh.{fresh}
use Rattle.paper.specs.Granting.{Result, take as take_of}
use Rattle.paper.specs.GivingBack.{give_back as give_back_of}
use Rattle.records.proofs.Alike.{Alike, other_record, turned-alike, turned-long}
use Rattle.records.specs.Records.{Record, whole, read_at}
use Rattle.records.specs.Turned.{other, turned}
use Rattle.std.specs.Prelude.{None, Some}
use Rattle.records.specs.declared.request.Request.{Request}
use Rattle.records.specs.declared.request.Request.TheVariants.{LayOut, LayOutIndexed, Take, GiveBack, Figures}
use Rattle.lines.specs.Lines.{answered, letter_of}
use Rattle.tape.specs.Alike.{AlikeRuns, SamePools, last_pool, line, other_letter, other_top, printed, relettered}
use Rattle.tape.specs.Run.{Run, longest, run, run_of, x_line}
use Rattle.tape.specs.Serve.{pool}
use Rattle.tape.proofs.States.{StandsFor, States, Step, laid_state, lay_state, result, serve_state, states, states_from, states_of, tape-by-states, then_states}

-- ---- states of the two layouts

-- a state of a run: its index is 1 or 13 high
abbrev Topped : Option State → Type 0
Topped none = Unit {0}
Topped (some s) = (s.top ≡ 1) ⊎ (s.top ≡ 13)

abbrev mirrored : Option State → Option State
mirrored none = none
mirrored (some s) = some (with_top (other_top s.top) s)

abbrev mirrored_step : Step → Step
mirrored_step t = record { after = mirrored t.after; numbers = t.numbers }

topped-by : (s s' : State) → s'.top ≡ s.top → Topped (some s) → Topped (some s')
topped-by s s' e (inl t) = inl (e ∙ t)
topped-by s s' e (inr t) = inr (e ∙ t)

-- a lay out: fresh in the one layout and in the other
laid-mirrored : (room new : ℕ) (m : Option State) → Topped m → (t t' : ℕ) → with_top (other_top t) (fresh t new) ≡ fresh t' new → Topped (some (fresh t new))
    → (laid_state room t' new (mirrored m) ≡ mirrored_step (laid_state room t new m)) × Topped (laid_state room t new m).after
unfolding laid_state fresh
laid-mirrored room new m T t t' e F =
    by< room new
    (λ l. (if<-yes room new _ _ l ∙ ap mirrored_step (sym (if<-yes room new _ _ l)), subst (λ (x : Step). Topped x.after) (sym (if<-yes room new _ _ l)) T))
    (λ l. go (allowed new) (if<-no room new _ _ l) (if<-no room new _ _ l))
  where
    go : (b : Bool) → laid_state room t' new (mirrored m) ≡ lay_state t' b new (mirrored m) → laid_state room t new m ≡ lay_state t b new m
        → (laid_state room t' new (mirrored m) ≡ mirrored_step (laid_state room t new m)) × Topped (laid_state room t new m).after
    go true f g = (
      f ∙ ap (λ (s : State). record { after = some s; numbers = 0 ∷ new ∷ [] }) (sym e) ∙ ap mirrored_step (sym g),
      subst (λ (x : Step). Topped x.after) (sym g) F,
    )
    go false f g = (f ∙ ap mirrored_step (sym g), subst (λ (x : Step). Topped x.after) (sym g) T)

-- a rule that does not look at the layout
result-mirrored : (s : State) (r r' : Result) → r' ≡ retopped (other_top s.top) r → r.state.top ≡ s.top → result r' ≡ mirrored_step (result r)
result-mirrored s r r' e t =
    ap result e ∙ ap (λ (k : ℕ). record { after = some (with_top (other_top k) r.state); numbers = answered r.answer }) (sym t)

serve-mirrored : (room : ℕ) (m : Option State) → Topped m → (request : Request)
    → (serve_state room (mirrored m) (other request) ≡ mirrored_step (serve_state room m request)) × Topped (serve_state room m request).after
unfolding serve_state fresh other_top if=
serve-mirrored room m T (LayOut new) = laid-mirrored room new m T 1 13 refl (inl refl)
serve-mirrored room m T (LayOutIndexed new) = laid-mirrored room new m T 13 1 refl (inr refl)
serve-mirrored room none T (Take size) = (refl, tt)
serve-mirrored room (some s) T (Take size) = (
  result-mirrored s (take_of s size) _ (take-any (other_top s.top) s size) (take-top s size),
  topped-by s (take_of s size).state (take-top s size) T,
)
serve-mirrored room none T (GiveBack offset) = (refl, tt)
serve-mirrored room (some s) T (GiveBack offset) = (
  result-mirrored s (give_back_of s offset) _ (give-back-any (other_top s.top) s offset) (give-back-top s offset),
  topped-by s (give_back_of s offset).state (give-back-top s offset) T,
)
serve-mirrored room none T Figures = (refl, tt)
serve-mirrored room (some s) T Figures = (
  ap (λ (f : FiguresOf). record { after = mirrored (some s); numbers = 0 ∷ seven_of f }) (figures-any (other_top s.top) s),
  T,
)

-- ---- a run over states

other-letter : (request : Request) → letter_of (other request) ≡ other_letter (letter_of request)
unfolding other_letter if=
other-letter (LayOut n) = refl
other-letter (LayOutIndexed n) = refl
other-letter (Take size) = refl
other-letter (GiveBack offset) = refl
other-letter Figures = refl

abbrev mirrored_states : States → States
mirrored_states q = record { lines = map relettered q.lines; last = mirrored q.last }

abbrev StatesAlike : (room left : ℕ) (tape tape' : List ℕ) → Type 0
StatesAlike room left tape tape' = (at : ℕ) → Alike left tape tape' at → (m : Option State) → Topped m
    → states_from room left tape' at (mirrored m) ≡ mirrored_states (states_from room left tape at m)

states-mirrored : (room left : ℕ) (tape tape' : List ℕ) → length tape' ≡ length tape → StatesAlike room left tape tape'
unfolding states_from other_letter if=
states-mirrored room zero tape tape' l at a m T = refl
states-mirrored room (suc left) tape tape' l at a m T =
    by< at (length tape)
    (λ h. if<-yes at (length tape') _ _ (omega arith) ∙ go (states-mirrored room left tape tape' l) (read_at tape at) refl a.0 a.1
    ∙ ap mirrored_states (sym (if<-yes at (length tape) _ _ h)))
    (λ h. if<-no at (length tape') _ _ (omega arith) ∙ ap mirrored_states (sym (if<-no at (length tape) _ _ h)))
  where
    go : StatesAlike room left tape tape' → (x : Record) → read_at tape at ≡ x → read_at tape' at ≡ other_record (read_at tape at)
        → ((request : Request) (next : ℕ) → read_at tape at ≡ whole request next → Alike left tape tape' next)
        → states_of (read_at tape' at)
        (λ request next.
        then_states (line (letter_of request) (serve_state room (mirrored m) request).numbers) (states_from room left tape' next (serve_state room (mirrored m) request).after))
        (states (line 88 (code Unreadable ∷ 0 ∷ []) ∷ []) (mirrored m))
        ≡ mirrored_states (states_of (read_at tape at)
        (λ request next.
        then_states (line (letter_of request) (serve_state room m request).numbers) (states_from room left tape next (serve_state room m request).after))
        (states (line 88 (code Unreadable ∷ 0 ∷ []) ∷ []) m))
    go on None e f g = rw (f, e)
    go on (Some (request, next)) e f g =
        let k = serve-mirrored room m T request in
        let r = on next (g request next e) (serve_state room m request).after k.1 in
        rw (f, e)
        (ap (λ (x : Step). then_states (line (letter_of (other request)) x.numbers) (states_from room left tape' next x.after)) k.0
        ∙ (λ i. then_states (line (other-letter request i) (serve_state room m request).numbers) (r i)))

-- ---- the theorem

module _ (room : ℕ) (r r' : Run) (m : Option State) where
  ends-alike : StandsFor room r.last m → StandsFor room r'.last (mirrored m) → (r'.last.n ≡ r.last.n) × SamePools (last_pool r) (last_pool r')
  ends-alike S S' = go m S S'
    where
      empty : (n : ℕ) (l : List ℕ) → n ≡ 0 → first_of n l ≡ []
      empty n l e = ap (λ (k : ℕ). first_of k l) e

      go : (m : Option State) → StandsFor room r.last m → StandsFor room r'.last (mirrored m)
          → (r'.last.n ≡ r.last.n) × SamePools (last_pool r) (last_pool r')
      go none S S' = (S'.for ∙ sym S.for, inl (empty _ _ S.for, empty _ _ S'.for))
      go (some s) S S' =
          let x = stands-sound s (last_pool r) S.for.1 in
          let y = stands-sound (with_top (other_top s.top) s) (last_pool r') S'.for.1 in (
            omega (
              arith,
              length-take-le r.last.n r.last.buffer S.for.0,
              length-take-le r'.last.n r'.last.buffer S'.for.0,
              S.for.1.ends,
              S'.for.1.ends,
            ),
            inr (x.0, y.0, y.1 ∙ ap (λ (u : State). with_top (other_top u.top) u) (sym x.1)),
          )

-- the tape with each lay-out record turned into the other kind, in any buffer as long. A tape may end after any record, so its pool has the
-- same blocks and lists after each.
pub alike : (tape buffer buffer' : List ℕ) → Bytes buffer → Bytes buffer' → length buffer' ≡ length buffer
    → AlikeRuns (run_of tape buffer) (run_of (turned tape) buffer')
unfolding run_of printed other_letter if= turned
alike tape buffer buffer' h h' l =
    by< longest (length tape)
    (λ k. let a : run_of tape buffer ≡ run (x_line 0) (pool 0 buffer) = if<-yes longest (length tape) _ _ k in
    let b : run_of (turned tape) buffer' ≡ run (x_line 0) (pool 0 buffer') = if<-yes longest (length (turned tape)) _ _ (omega (arith, long)) in
    record {
      nth = 0;
      lines = line 88 (code Unreadable ∷ 0 ∷ []) ∷ [];
      prints = ap (λ (r : Run). r.text) a ∙ sym (append-nil (x_line 0));
      prints' = ap (λ (r : Run). r.text) b ∙ sym (append-nil (x_line 0));
      same_size = ap (λ (r : Run). r.last.n) b ∙ sym (ap (λ (r : Run). r.last.n) a);
      same_pools = inl (ap last_pool a, ap last_pool b);
    })
    (λ k. let R = tape-by-states tape buffer h k in
    let R' = tape-by-states (turned tape) buffer' h' (omega (arith, long)) in
    let q : States = states_from (length buffer) (length tape) tape 0 none in
    let e : states_from (length buffer') (length (turned tape)) (turned tape) 0 none ≡ mirrored_states q =
    (λ i. states_from (l i) (long i) (turned tape) 0 none)
    ∙ states-mirrored (length buffer) (length tape) tape (turned tape) long 0 (turned-alike (length tape) tape 0) none tt in
    let E = ends-alike (length buffer) (run_of tape buffer) (run_of (turned tape) buffer') q.last R.stands
    (subst (λ (room : ℕ). StandsFor room (run_of (turned tape) buffer').last (mirrored q.last)) l
    (subst (λ (x : States). StandsFor (length buffer') (run_of (turned tape) buffer').last x.last) e R'.stands)) in
    record {
      nth = 1;
      lines = q.lines;
      prints = R.same;
      prints' = R'.same ∙ ap (λ (x : States). printed 1 x.lines) e;
      same_size = E.0;
      same_pools = E.1;
    })
  where
    long : length (turned tape) ≡ length tape
    long = turned-long (length tape) tape 0
