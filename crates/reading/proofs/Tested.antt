-- A pool of bytes has exactly one reading by a rule; and where a test decides the rule, it is the one that is read by that test.
use mathlib.Core.Bool.{Bool, true, false}
use mathlib.Core.Path.{◌≡◌, refl, sym, ap, ◌∙◌, subst}
use mathlib.Core.List.{List}
use Prim.Native.Nat.{ℕ}
use native.Mathlib.Omega.{arith}
use lib.ListN.{length}
use Rattle.words.specs.Words.{Bytes}
use Rattle.paper.specs.Allowed.{Allowed, allowed}
use Rattle.paper.specs.Blocks.{State}
use Rattle.paper.specs.Calls.{Reading, ReadsBy, misfit, broken, sound, by_reading}
use Rattle.paper.specs.Sound.{SoundBy}
use Rattle.paper.proofs.reads.Allowed.{allowed-inv, allowed-yes}
use Rattle.paper.proofs.reads.Standing.{sound-stands}
use Rattle.paper.proofs.reads.Stands.{StandsBy}
use Rattle.guards.proofs.Guards.{no_both}
use Rattle.inspect.proofs.Decide.{one_state}
use Rattle.reading.specs.Read.{bytes?, read_tested, read_allowed, read_by}
use Rattle.paper.specs.declared.Refusal.{Refusal}

never : {s : State} → broken ≡ sound s → ⊥
never e = let z : ◌≡◌ {A = ℕ} 0 1 = cc in omega arith

pub unique-by : (Rule : State → Type 0) (bs : List ℕ) (x y : Reading) → ReadsBy Rule bs x → ReadsBy Rule bs y → x ≡ y
unique-by Rule bs misfit misfit h k = refl
unique-by Rule bs misfit broken h k = absurd (h k.0)
unique-by Rule bs misfit (sound s) h k = absurd (h k.0.length_allowed)
unique-by Rule bs broken misfit h k = absurd (k h.0)
unique-by Rule bs broken broken h k = refl
unique-by Rule bs broken (sound s) h k = absurd (h.1 k.0)
unique-by Rule bs (sound s) misfit h k = absurd (k h.0.length_allowed)
unique-by Rule bs (sound s) broken h k = absurd (k.1 h.0)
unique-by Rule bs (sound s) (sound t) h k = ap sound (sym h.1 ∙ one_state bs h.0 k.0 ∙ k.1)

-- what is read as sound stands for the state that was read, and is bytes
pub record ReadSoundBy (Rule : State → Type 0) (bs : List ℕ) (s : State) : Type 0 where
  pub stands : StandsBy Rule s bs
  pub bytes : Bytes bs

module _ {Rule : State → Type 0} (test : List ℕ → Bool) (only : (bs : List ℕ) → Bytes bs → test bs ≡ true → SoundBy Rule bs) (bs : List ℕ) where
  tested-sound : (d : Dec (Bytes bs)) (b : Bool) (e : test bs ≡ b) (s : State) → read_tested test only bs d b e ≡ sound s → ReadSoundBy Rule bs s
  tested-sound (yes k) true e s h =
      let same : (only bs k e).state ≡ s = cc in
      record { stands = subst (λ (t : State). StandsBy Rule t bs) same (sound-stands bs (only bs k e)); bytes = k }
  tested-sound (no k) true e s h = absurd (never h)
  tested-sound (yes k) false e s h = absurd (never h)
  tested-sound (no k) false e s h = absurd (never h)

  allowed-sound : (b : Bool) (s : State) → read_allowed test only bs b ≡ sound s → ReadSoundBy Rule bs s
  allowed-sound true s h = tested-sound (bytes? bs) (test bs) refl s h
  allowed-sound false s h = absurd (let z : ◌≡◌ {A = ℕ} 0 1 = cc in omega arith)

  pub read-sound-by : (s : State) → read_by test only bs ≡ sound s → ReadSoundBy Rule bs s
  read-sound-by s h = allowed-sound (allowed (length bs)) s h

  -- where every sound pool passes the test
  module _ (every : SoundBy Rule bs → test bs ≡ true) (bytes : Bytes bs) where
    reads-tested : (d : Dec (Bytes bs)) (b : Bool) (e : test bs ≡ b) → Allowed (length bs) → ReadsBy Rule bs (read_tested test only bs d b e)
    reads-tested (yes k) true e a = (only bs k e, refl)
    reads-tested (no k) true e a = absurd (k bytes)
    reads-tested (yes k) false e a = (a, λ S. no_both (sym e ∙ every S))
    reads-tested (no k) false e a = absurd (k bytes)

    reads-allowed : (b : Bool) → allowed (length bs) ≡ b → ReadsBy Rule bs (read_allowed test only bs b)
    reads-allowed true e = reads-tested (bytes? bs) (test bs) refl (allowed-inv (length bs) e)
    reads-allowed false e = λ a. no_both (sym e ∙ allowed-yes (length bs) a)

    pub reads-by : ReadsBy Rule bs (read_by test only bs)
    reads-by = reads-allowed (allowed (length bs)) refl

    -- so what a call answers goes by any reading that the pool has
    pub by-any : {A : Type 0} (f : Refusal → A) (g : State → A) (x : Reading) → ReadsBy Rule bs x → by_reading (read_by test only bs) f g ≡ by_reading x f g
    by-any f g x k = ap (λ (y : Reading). by_reading y f g) (unique-by Rule bs (read_by test only bs) x reads-by k)
