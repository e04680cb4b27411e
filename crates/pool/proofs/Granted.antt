-- Of a granted take: the payload is held from then on, is as long as was asked for, and was not held before. One that is refused on an accepted
-- pool, though its size is not 0, is refused for want of room.
use mathlib.Core.Path.{◌≡◌, refl, ap, ◌∙◌, sym, subst}
use mathlib.Core.List.{List}
use Prim.Native.Nat.{ℕ, ◌≤◌}
use native.Mathlib.Omega.{arith}
use lib.ListN.{length}
use Rattle.paper.proofs.keeps.KeptStands.{kept-stands}
use Rattle.paper.proofs.keeps.TakeGrants.{take-long-enough}
use Rattle.paper.proofs.keeps.TakeKeeps.{take-keeps, take-refused-for-room}
use Rattle.paper.proofs.keeps.TakeThenHeld.{take-was-none}
use Rattle.paper.proofs.reads.Standing.{stands-sound}
use Rattle.paper.proofs.reads.Stands.{Stands}
use Rattle.paper.proofs.runs.HeldPlaces.{held_at}
use Rattle.paper.proofs.sheet.WrittenBytes.{write_bytes}
use Rattle.paper.specs.Blocks.{State}
use Rattle.paper.specs.Calls.{Reading, Reads, sound, take_call}
use Rattle.paper.specs.Governed.{sheet}
use Rattle.paper.specs.Granting.{take as take_state}
use Rattle.paper.specs.Sheet.{write}
use Rattle.pool.specs.Calls.{take}
use Rattle.pool.proofs.Accepting.{Accepted, accepted-sound}
use Rattle.pool.proofs.Holding.{Held, payload_of, by-held, held_by, payload-long, read_is, reads-stands}
use Rattle.reading.proofs.Readings.{reading-unique}
use Rattle.std.specs.declared.result.Result.TheVariants.{Ok, Err}
use Rattle.paper.specs.declared.Refusal.TheVariants.{NoRoom}
use Rattle.paper.specs.Answers.{Out}
use Rattle.paper.specs.declared.Refusal.{Refusal}

module _ (bs : List ℕ) (A : Accepted bs) (size : ℕ) where
  s : State
  s = (accepted-sound bs A).state

  sound-reads : Reads bs (sound s)
  unfolding s
  sound-reads = (accepted-sound bs A, refl)

  stands : Stands s bs
  stands = reads-stands bs s sound-reads

  taken : take bs size ≡ take_call (sound s) bs size
  unfolding take
  taken = ap (λ (x : Reading). take_call x bs size) (read_is bs A.bytes s sound-reads)

  module _ (q : ℕ) (e : (take bs size).answer ≡ Ok q) where
    granted : (take_state s size).answer ≡ Ok q
    granted = ap (λ (o : Out). o.answer) (sym taken) ∙ e

    pub record Granted : Type 0 where
      pub payload : List ℕ
      pub held : Held (take bs size).after q payload
      pub long-enough : size ≤ length payload

    pub granted-held : Granted
    granted-held =
        let after : (take bs size).after ≡ write (sheet (take_state s size).state) bs = ap (λ (o : Out). o.after) taken in
        let z = take-long-enough s stands.well_formed size q granted in
        let one : 1 ≤ held_at (take_state s size).state q = omega arith in
        let r = stands-sound _ _ (kept-stands s (take_state s size).state bs stands (take-keeps s stands.well_formed size)) in
        let b = write_bytes (sheet (take_state s size).state) bs A.bytes in
        let payload : List ℕ = payload_of (take_state s size).state (write (sheet (take_state s size).state) bs) q in
        record {
          payload = payload;
          held = subst (λ (l : List ℕ). Held l q payload) (sym after) (by-held _ q b (take_state s size).state r one);
          long-enough = omega (arith, payload-long _ q b (take_state s size).state r one);
        }

    pub granted-new : (payload : List ℕ) → Held bs q payload → ⊥
    granted-new payload h =
        let k = held_by bs q A.bytes payload h in
        let x : sound k.0 ≡ sound s = reading-unique bs (sound k.0) (sound s) k.1.reading sound-reads in
        let f : k.0 ≡ s = cc in
        omega (arith, k.1.one, ap (λ (t : State). held_at t q) f, take-was-none s stands.well_formed size q granted)

  -- a refusal of a size that is not 0
  pub refused-for-room : 1 ≤ size → (k : Refusal) → (take bs size).answer ≡ Err k → k ≡ NoRoom
  refused-for-room one k e = take-refused-for-room s size k (λ z. omega arith) (ap (λ (o : Out). o.answer) (sym taken) ∙ e)
