-- What an accepted conversion leaves: "Held payloads, blocks and the order of every bin stay". The pool has the same blocks and lists in the other layout, is
-- accepted and honest there, and every question that does not name the layout has the answer that it had.
use mathlib.Core.List.{List, ◌∷◌}
use mathlib.Core.Logic.{◌⊎◌, inl, inr}
use mathlib.Core.Path.{◌≡◌, refl, sym, ap, ◌∙◌, subst}
use Prim.Native.Nat.{ℕ, zero, suc, ◌+◌, ◌≤◌}
use lib.ListN.{length}
use Rattle.words.specs.Choice.{by=, if=, if=-no, if=-yes}
use Rattle.words.specs.Words.{Bytes}
use Rattle.moving.proofs.Relaid.{formed}
use Rattle.paper.proofs.honest.Accepted.{sound-level}
use Rattle.paper.proofs.keeps.AnyLayout.{figures-any, give-back-any, take-any}
use Rattle.paper.proofs.reads.PayloadWrites.{written-payload}
use Rattle.paper.proofs.reads.RoundTrip.{write-stands}
use Rattle.paper.proofs.reads.Standing.{sound-same, stands-sound}
use Rattle.paper.proofs.reads.Stands.{Stands}
use Rattle.paper.proofs.runs.HeldPlaces.{held_at}
use Rattle.paper.proofs.sheet.Written.{length-write}
use Rattle.paper.proofs.sheet.WrittenBytes.{write_bytes}
use Rattle.paper.specs.Blocks.{State, blocks, with_top}
use Rattle.paper.specs.Calls.{Reading, Reads, sound, ask_call, class_count as class_count_of, class_count_call, figures_call, give_back_call, take_call, unchanged}
use Rattle.paper.specs.Counting.{class_counters, counters_from, held_one, in_class}
use Rattle.paper.specs.Fresh.{layout_top}
use Rattle.paper.specs.GivingBack.{ask as ask_state}
use Rattle.paper.specs.Governed.{sheet}
use Rattle.paper.specs.Granting.{Result}
use Rattle.paper.specs.Honest.{Honest}
use Rattle.paper.specs.LookingUp.{look_up}
use Rattle.paper.specs.Runs.{sum_of}
use Rattle.paper.specs.Sheet.{write}
use Rattle.paper.specs.Sound.{Sound, level_word}
use Rattle.pool.proofs.Demand3.{accepted-is-honest, accepted-sound-pools}
use Rattle.pool.proofs.Holding.{Held, HeldBy, by-held, held_by, payload_of, read_is}
use Rattle.pool.specs.Calls.{ask, class_count, figures, give_back, inspect, take}
use Rattle.reading.specs.Read.{read}
use Rattle.convert.specs.Converting.{convert, other, checked, said, relaid}
use Rattle.convert.proofs.Outcomes.{Served, other-top, served}
use Rattle.std.specs.declared.result.Result.TheVariants.{Ok}
use Rattle.paper.specs.declared.Refusal.TheVariants.{ListLength}
use Rattle.paper.specs.Answers.{Answer, out, Out}

other-named : (old : ℕ) → (other old ≡ 1) ⊎ (other old ≡ 2)
unfolding other
other-named old = by= old 1 (λ e. inr (if=-yes old 1 2 1 e)) (λ n. inl (if=-no old 1 2 1 n))

-- no counter looks at the layout
counters-any : (t : ℕ) (s : State) (c k : ℕ) → counters_from c k (with_top t s) ≡ counters_from c k s
unfolding counters_from
counters-any t s zero k = refl
counters-any t s (suc c) k = ap (λ (l : List ℕ). sum_of (in_class k) (blocks s) ∷ l) (counters-any t s c (k + 1))

-- an accepted conversion, of bytes
module _ (bs : List ℕ) (bytes : Bytes bs) (old v : ℕ) (done : (convert bs old).answer ≡ Ok v) where
  abbrev after : List ℕ
  after = (convert bs old).after

  pub was-served : Served bs old
  unfolding checked
  was-served = served bs old (ap said done)

  pub after_is : after ≡ write (sheet (relaid was-served.state old)) bs
  after_is = ap (λ (o : Out). o.after) was-served.by-paper

  -- it answers n, which stays
  pub answers-n : v ≡ length bs
  answers-n = value_same (sym done ∙ ap (λ (o : Out). o.answer) was-served.by-paper)
    where
      value_same : ◌≡◌ {A = Answer} (Ok v) (Ok (length bs)) → v ≡ length bs
      value_same e = cc

  pub as_long : length after ≡ length bs
  as_long = ap length after_is ∙ length-write _ bs

  after-bytes : Bytes after
  after-bytes = subst Bytes (sym after_is) (write_bytes _ bs bytes)

  -- the same blocks and lists, in the other layout
  pub after-stands : Stands (relaid was-served.state old) after
  after-stands =
      subst (Stands (relaid was-served.state old)) (sym after_is)
      (write-stands _ (formed was-served.state was-served.stands.well_formed _ (other-top old)) was-served.stands.edge bs was-served.stands.ends)

  pub converted-state : (S : Sound bs) (T : Sound after) → T.state ≡ relaid S.state old
  converted-state S T =
      sound-same (relaid was-served.state old) after after-stands T
      ∙ ap (λ (u : State). relaid u old) (sym (sound-same was-served.state bs was-served.stands S))

  pub converted-sound : Sound after
  converted-sound = (stands-sound (relaid was-served.state old) after after-stands).0

  pub converted-accepted : inspect after ≡ Ok (length after)
  converted-accepted = accepted-sound-pools after after-bytes converted-sound

  pub converted-layout : level_word after ≡ layout_top (other old)
  converted-layout =
      sound-level after converted-sound
      ∙ ap (λ (u : State). u.top) (sound-same (relaid was-served.state old) after after-stands converted-sound)

  pub converted-honest : Honest (other old) after
  converted-honest = accepted-is-honest after after-bytes (other old) (other-named old) converted-accepted converted-layout

  -- ---- what is read of it
  reads-after : Reads after (sound (relaid was-served.state old))
  reads-after = stands-sound (relaid was-served.state old) after after-stands

  read-after : read after ≡ sound (relaid was-served.state old)
  read-after = read_is after after-bytes (relaid was-served.state old) reads-after

  -- every offset that the coil side remembers still asks the same
  pub asks-the-same : (offset : ℕ) → ask after offset ≡ ask bs offset
  unfolding ask ask_state look_up
  asks-the-same offset =
      ap (λ (x : Reading). ask_call x offset) read-after ∙ sym (ap (λ (x : Reading). ask_call x offset) was-served.reading)

  -- and every held payload keeps its offset, its length and its bytes
  pub keeps-held : (offset : ℕ) (payload : List ℕ) → Held bs offset payload → Held after offset payload
  unfolding held_at
  keeps-held offset payload h = subst (Held after offset) payload_same (by-held after offset after-bytes (relaid u old) reads-after one)
    where
      u : State
      u = was-served.state

      b : (t : State) × HeldBy bs offset t payload
      b = held_by bs offset bytes payload h

      same : b.0 ≡ u
      same = let e : sound b.0 ≡ sound u = sym (read_is bs bytes b.0 b.1.reading) ∙ was-served.reading in cc

      one : 1 ≤ held_at u offset
      one = subst (λ (t : State). 1 ≤ held_at t offset) same b.1.one

      payload_same : payload_of (relaid u old) after offset ≡ payload
      payload_same =
          ap (λ (l : List ℕ). payload_of (relaid u old) l offset) after_is
          ∙ written-payload (relaid u old) after-stands.well_formed bs was-served.stands.ends offset one
          ∙ sym (b.1.bytes_of ∙ ap (λ (t : State). payload_of t bs offset) same)

  pub same-figures : figures after ≡ figures bs
  unfolding figures
  same-figures =
      ap figures_call read-after ∙ ap Ok (figures-any (layout_top (other old)) was-served.state) ∙ sym (ap figures_call was-served.reading)

  pub same-classes : (cs : List ℕ) → class_count after cs ≡ class_count bs cs
  unfolding class_count class_count_of class_counters
  same-classes cs =
      ap (λ (x : Reading). class_count_call x cs) read-after
      ∙ ap (λ (l : List ℕ). if= (length cs) 53 (out (Ok (sum_of held_one (blocks was-served.state))) l) (unchanged cs ListLength))
      (counters-any (layout_top (other old)) was-served.state 53 0)
      ∙ sym (ap (λ (x : Reading). class_count_call x cs) was-served.reading)

  -- the next take and give-back answer the same
  pub takes-alike : (size : ℕ) → (take after size).answer ≡ (take bs size).answer
  unfolding take
  takes-alike size =
      ap (λ (x : Reading). (take_call x after size).answer) read-after
      ∙ ap (λ (r : Result). r.answer) (take-any (layout_top (other old)) was-served.state size)
      ∙ sym (ap (λ (x : Reading). (take_call x bs size).answer) was-served.reading)

  pub gives-alike : (offset : ℕ) → (give_back after offset).answer ≡ (give_back bs offset).answer
  unfolding give_back
  gives-alike offset =
      ap (λ (x : Reading). (give_back_call x after offset).answer) read-after
      ∙ ap (λ (r : Result). r.answer) (give-back-any (layout_top (other old)) was-served.state offset)
      ∙ sym (ap (λ (x : Reading). (give_back_call x bs offset).answer) was-served.reading)
