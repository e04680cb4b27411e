-- What a call keeps: a take, a give-back, refused or not, and a write inside one held payload leave every other held payload as it is, its
-- offset, its size and its bytes. Whoever stands above the pool needs nothing else of it: a held block governs its head alone, and no
-- call moves or frees a held block but the one given back.
use mathlib.Core.Path.{◌≡◌, refl, ap, ◌∙◌, sym, subst}
use mathlib.Core.Logic.{◌≢◌, ◌⊎◌, inl, inr}
use mathlib.Core.List.{List}
use Prim.Native.Nat.{ℕ, ◌+◌, ◌-◌, ◌≤◌, ◌<◌}
use native.Mathlib.Omega.{arith}
use lib.ListN.{get_or, length, take as firsts, drop, length-drop}
use lib.Seq.{length-take-le}
use Rattle.words.specs.Words.{Bytes}
use Rattle.paper.specs.Blocks.{State, end}
use Rattle.paper.specs.Calls.{Reading, Reads, misfit, broken, sound, take_call, give_back_call, ask_call, lend_from, lend_to}
use Rattle.paper.specs.GivingBack.{ask as ask_state, give_back as give_back_state}
use Rattle.paper.specs.Governed.{sheet}
use Rattle.paper.specs.Granting.{take as take_state}
use Rattle.paper.specs.Sheet.{write}
use Rattle.paper.specs.Sound.{Sound}
use Rattle.paper.proofs.keeps.BackKeeps.{give_back-keeps}
use Rattle.paper.proofs.keeps.BackThenHeld.{give_back-then-others}
use Rattle.paper.proofs.keeps.Kept.{Kept}
use Rattle.paper.proofs.keeps.KeptStands.{kept-stands}
use Rattle.paper.proofs.keeps.TakeKeeps.{take-keeps}
use Rattle.paper.proofs.keeps.TakeThenHeld.{take-keeps-held as take-keeps-held-state}
use Rattle.paper.proofs.reads.PayloadWrites.{payloads-apart, stands-payload-replaced, written-payload}
use Rattle.paper.proofs.reads.Standing.{sound-stands, stands-sound}
use Rattle.paper.proofs.reads.Stands.{Stands}
use Rattle.paper.proofs.runs.Asking.{ask-done}
use Rattle.paper.proofs.runs.HeldPlaces.{held_at}
use Rattle.paper.proofs.runs.HeldWalk.{held-within}
use Rattle.paper.proofs.runs.LookedUp.{look_up-held}
use Rattle.words.proofs.Parts.{part-replaced, part_same, replaced-below, replaced-bytes, replaced-length, replaced-past}
use Rattle.words.specs.Parts.{replaced_part}
use Rattle.paper.proofs.sheet.WrittenBytes.{write_bytes}
use Rattle.pool.specs.Calls.{take, give_back, ask, part, part_from, part_to}
use Rattle.reading.specs.Read.{read}
use Rattle.reading.proofs.Readings.{reads, reading-unique}
use Rattle.std.specs.declared.result.Result.TheVariants.{Ok, Err}
use Rattle.paper.specs.declared.Refusal.{Refusal}

-- the pool holds a payload at an offset: asking tells its length, and lending gives its bytes
pub record Held (bs : List ℕ) (offset : ℕ) (payload : List ℕ) : Type 0 where
  pub asked : ask bs offset ≡ Ok (length payload)
  pub lent : part bs offset ≡ payload

-- ---- by the state

-- the bytes of the payload that the state s holds at an offset
abbrev pub payload_of : State → List ℕ → ℕ → List ℕ
payload_of s bs offset = firsts (held_at s offset - 4) (drop offset bs)

pub read_is : (bs : List ℕ) → Bytes bs → (s : State) → Reads bs (sound s) → read bs ≡ sound s
read_is bs bytes s r = reading-unique bs (read bs) (sound s) (reads bs bytes) r

pub reads-stands : (bs : List ℕ) (s : State) → Reads bs (sound s) → Stands s bs
reads-stands bs s r = subst (λ (t : State). Stands t bs) r.1 (sound-stands bs r.0)

module _ (bs : List ℕ) (offset : ℕ) where
  part_by : (s : State) → Stands s bs → read bs ≡ sound s → 1 ≤ held_at s offset → part bs offset ≡ payload_of s bs offset
  unfolding part_from part_to
  part_by s S e l =
      let from : part_from bs offset ≡ offset = ap (λ (x : Reading). lend_from x bs offset) e ∙ look_up-held offset _ _ s S.well_formed.sized (omega arith) in
      let to : part_to bs offset ≡ offset + (held_at s offset - 4) = ap (λ (x : Reading). lend_to x bs offset) e ∙ look_up-held offset _ _ s S.well_formed.sized (omega arith) in
      let k : part_to bs offset - part_from bs offset ≡ held_at s offset - 4 = omega arith in
      rw (k, from)

  -- a payload that is held is held by the state that the pool reads
  pub record HeldBy (s : State) (payload : List ℕ) : Type 0 where
    pub reading : Reads bs (sound s)
    pub one : 1 ≤ held_at s offset
    pub bytes_of : payload ≡ payload_of s bs offset

  module _ (bytes : Bytes bs) where
    pub held_by : (payload : List ℕ) → Held bs offset payload → (s : State) × HeldBy s payload
    unfolding ask ask_state
    held_by payload h = go (read bs) refl (reads bs bytes) h.asked
      where
        never : {A : Type 0} (k : Refusal) (v : ℕ) → Err k ≡ Ok v → A
        never k v e = absurd (let z : ◌≡◌ {A = ℕ} 0 1 = cc in omega arith)

        go : (x : Reading) → read bs ≡ x → Reads bs x → ask_call x offset ≡ Ok (length payload) → (s : State) × HeldBy s payload
        go misfit e r a = never _ _ a
        go broken e r a = never _ _ a
        go (sound s) e r a =
            let S = reads-stands bs s r in
            let one : 1 ≤ held_at s offset = omega (arith, (ask-done s S.well_formed offset (length payload) a).0) in
            (s, record { reading = r; one = one; bytes_of = sym h.lent ∙ part_by s S e one })

    pub payload-long : (s : State) → Reads bs (sound s) → 1 ≤ held_at s offset → length (payload_of s bs offset) ≡ held_at s offset - 4
    payload-long s r l =
        let S = reads-stands bs s r in
        length-take-le (held_at s offset - 4) (drop offset bs)
        (omega (arith, length-drop offset bs, (held-within s S.well_formed offset (omega arith)).ends, S.ends))

    pub by-held : (s : State) → Reads bs (sound s) → 1 ≤ held_at s offset → Held bs offset (payload_of s bs offset)
    unfolding ask ask_state
    by-held s r l =
        let S = reads-stands bs s r in
        record {
          asked =
              ap (λ (x : Reading). ask_call x offset) (read_is bs bytes s r) ∙ look_up-held offset _ _ s S.well_formed.sized (omega arith)
              ∙ ap Ok (sym (payload-long s r l));
          lent = part_by s S (read_is bs bytes s r) l;
        }

-- ---- a take and a give-back

-- the state after a call, over the old bytes, holds what both states hold
kept-held : (bs : List ℕ) → Bytes bs → (s s' : State) → Reads bs (sound s) → Kept s s' → (offset : ℕ) → 1 ≤ held_at s offset
    → held_at s' offset ≡ held_at s offset
    → Held (write (sheet s') bs) offset (payload_of s bs offset)
kept-held bs bytes s s' r k offset l e =
    let S = reads-stands bs s r in
    let ends : end s' ≡ length bs = k.ends ∙ S.ends in
    let S' = kept-stands s s' bs S k in
    subst (Held (write (sheet s') bs) offset)
    (written-payload s' k.well_formed bs ends offset (omega arith) ∙ ap (λ (z : ℕ). firsts (z - 4) (drop offset bs)) e)
    (by-held (write (sheet s') bs) offset (write_bytes (sheet s') bs bytes) s' (stands-sound s' (write (sheet s') bs) S') (omega arith))

module _ (bs : List ℕ) (bytes : Bytes bs) (offset : ℕ) (payload : List ℕ) (h : Held bs offset payload) where
  s : State
  s = (held_by bs offset bytes payload h).0

  by : HeldBy bs offset s payload
  unfolding s
  by = (held_by bs offset bytes payload h).1

  stands : Stands s bs
  stands = reads-stands bs s by.reading

  in-pool : offset + (held_at s offset - 4) ≤ end s
  in-pool = (held-within s stands.well_formed offset (λ e. omega (arith, by.one))).ends

  long : length payload ≡ held_at s offset - 4
  long = ap length by.bytes_of ∙ payload-long bs offset bytes s by.reading by.one

  -- where it stands: 0 is no offset, and the payload is the part that starts there
  pub record Stands-there : Type 0 where
    pub not-zero : offset ≢ 0
    pub within : offset + length payload ≤ length bs
    pub from-there : firsts (length payload) (drop offset bs) ≡ payload

  pub held-there : Stands-there
  held-there =
      record {
        not-zero = λ e. omega (arith, (held-within s stands.well_formed offset (λ z. omega (arith, by.one))).starts);
        within = omega (arith, long, in-pool, stands.ends);
        from-there = ap (λ (k : ℕ). firsts k (drop offset bs)) long ∙ sym by.bytes_of;
      }

  -- what a call leaves that keeps this block held
  left-held : (after : List ℕ) (s' : State) → after ≡ write (sheet s') bs → Kept s s' → held_at s' offset ≡ held_at s offset → Held after offset payload
  left-held after s' e k g =
      subst (λ (l : List ℕ). Held l offset payload) (sym e)
      (subst (Held (write (sheet s') bs) offset) (sym by.bytes_of) (kept-held bs bytes s s' by.reading k offset by.one g))

  pub take-keeps-held : (size : ℕ) → Held (take bs size).after offset payload
  unfolding take
  take-keeps-held size =
      left-held (take bs size).after (take_state s size).state
      (ap (λ (x : Reading). (take_call x bs size).after) (read_is bs bytes s by.reading)) (take-keeps s stands.well_formed size)
      (take-keeps-held-state s stands.well_formed size offset by.one)

  pub give-back-keeps-held : (other : ℕ) → offset ≢ other → Held (give_back bs other).after offset payload
  unfolding give_back
  give-back-keeps-held other n =
      left-held (give_back bs other).after (give_back_state s other).state
      (ap (λ (x : Reading). (give_back_call x bs other).after) (read_is bs bytes s by.reading)) (give_back-keeps s stands.well_formed other)
      (give_back-then-others s stands.well_formed other offset n)

  -- ---- a write inside this payload: `part` from place a on

  module _ (a : ℕ) (part : List ℕ) (is-bytes : Bytes part) (from : offset ≤ a) (to : a + length part ≤ offset + length payload) where
    pub payload-inside : a + length part ≤ length bs
    payload-inside = omega (arith, long, in-pool, stands.ends)

    written-reads : Reads (replaced_part bs a part) (sound s)
    written-reads =
        stands-sound s (replaced_part bs a part) (stands-payload-replaced s bs stands offset by.one a part from (omega (arith, long)))

    pub written-sound : Sound (replaced_part bs a part)
    written-sound = written-reads.0

    -- any other payload stays
    pub write-keeps-held : (other : ℕ) (old : List ℕ) → Held bs other old → other ≢ offset → Held (replaced_part bs a part) other old
    write-keeps-held other old g n =
        let k = same-state other old g in
        subst (Held (replaced_part bs a part) other)
        (part_same other (held_at s other - 4) bs (replaced_part bs a part) (replaced-length bs a part payload-inside)
        (omega (arith, (held-within s stands.well_formed other (λ e. omega (arith, k.one))).ends, stands.ends))
        (λ i b. elsewhere i b (payloads-apart s stands.well_formed other offset k.one by.one n))
        ∙ sym k.bytes_of)
        (by-held (replaced_part bs a part) other (replaced-bytes bs a part payload-inside bytes is-bytes) s written-reads k.one)
      where
        same-state : (other : ℕ) (old : List ℕ) → Held bs other old → HeldBy bs other s old
        same-state other old g =
            let k = held_by bs other bytes old g in
            let e : sound k.0 ≡ sound s = reading-unique bs (sound k.0) (sound s) k.1.reading by.reading in
            let f : k.0 ≡ s = cc in
            subst (λ (t : State). HeldBy bs other t old) f k.1

        elsewhere : (i : ℕ) → i < held_at s other - 4 → (other + (held_at s other - 4) ≤ offset) ⊎ (offset + (held_at s offset - 4) ≤ other)
            → get_or (replaced_part bs a part) (other + i) 0 ≡ get_or bs (other + i) 0
        elsewhere i b (inl l) = replaced-below bs a part payload-inside (other + i) (omega arith)
        elsewhere i b (inr l) = replaced-past bs a part payload-inside (other + i) (omega (arith, long))

    -- and this one has the part in its place
    pub write-held : Held (replaced_part bs a part) offset (replaced_part payload (a - offset) part)
    write-held =
        subst (Held (replaced_part bs a part) offset)
        (part-replaced bs offset (held_at s offset - 4) a part from (omega (arith, long))
        (omega (arith, in-pool, stands.ends))
        ∙ ap (λ (l : List ℕ). replaced_part l (a - offset) part) (sym by.bytes_of))
        (by-held (replaced_part bs a part) offset (replaced-bytes bs a part payload-inside bytes is-bytes) s written-reads by.one)
