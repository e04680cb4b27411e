-- An accepted pool stays accepted, and keeps its layout: after a take and a give-back, refused or not, and after a write inside a held payload; and a buffer that is
-- laid out is accepted. With `Holding` this is all that a user above the pool needs to know of its calls.
use mathlib.Core.Path.{◌∙◌, ◌≡◌, refl, sym}
use mathlib.Core.List.{List}
use mathlib.Core.Logic.{◌⊎◌}
use Prim.Native.Nat.{ℕ, ◌+◌, ◌≤◌}
use native.Mathlib.Omega.{arith}
use lib.ListN.{length}
use Rattle.words.proofs.Parts.{replaced-bytes}
use Rattle.words.specs.Parts.{replaced_part}
use Rattle.words.specs.Words.{Bytes}
use Rattle.paper.specs.Allowed.{Allowed}
use Rattle.paper.specs.Calls.{Reading, Reads, misfit, broken, sound, inspect_call, take_call, give_back_call}
use Rattle.paper.specs.Fresh.{layout_top}
use Rattle.paper.specs.Honest.{takes, gives}
use Rattle.paper.specs.Sound.{Sound, level_word}
use Rattle.paper.proofs.honest.Accepted.{sound-level}
use Rattle.paper.proofs.honest.HonestSound.{SoundBytes, call-sound, laid-out-sound}
use Rattle.paper.proofs.sheet.Written.{length-write}
use Rattle.pool.specs.Calls.{inspect, lay_out, take, give_back}
use Rattle.pool.proofs.Demand3.{accepted-sound-pools}
use Rattle.pool.proofs.Holding.{Held, payload-inside, written-sound}
use Rattle.reading.specs.Read.{read}
use Rattle.reading.proofs.Readings.{reads}
use Rattle.std.specs.declared.result.Result.TheVariants.{Ok, Err}
use Rattle.paper.specs.declared.Refusal.{Refusal}

-- bytes that inspection accepts
pub record Accepted (bs : List ℕ) : Type 0 where
  pub bytes : Bytes bs
  pub inspected : inspect bs ≡ Ok (length bs)

by-sound : (bs : List ℕ) → Bytes bs → Sound bs → Accepted bs
by-sound bs h S = record { bytes = h; inspected = accepted-sound-pools bs h S }

by_layout : (t : ℕ) (bs : List ℕ) → SoundBytes t bs → Accepted bs
by_layout t bs S = by-sound bs S.bytes S.is_sound.is_sound

level-word : (t : ℕ) (bs : List ℕ) → SoundBytes t bs → level_word bs ≡ t
level-word t bs S = sound-level bs S.is_sound.is_sound ∙ S.is_sound.is_top

module _ (bs : List ℕ) (A : Accepted bs) where
  pub accepted-sound : Sound bs
  unfolding inspect
  accepted-sound = go (read bs) (reads bs A.bytes) A.inspected
    where
      never : {k : Refusal} → Err k ≡ Ok (length bs) → ⊥
      never e = let z : ◌≡◌ {A = ℕ} 0 1 = cc in omega arith

      go : (x : Reading) → Reads bs x → inspect_call x bs ≡ Ok (length bs) → Sound bs
      go misfit r e = absurd (never e)
      go broken r e = absurd (never e)
      go (sound s) r e = r.0

  pub accepted-allowed : Allowed (length bs)
  accepted-allowed = accepted-sound.length_allowed

  abbrev top : ℕ
  top = accepted-sound.state.top

  sound-bytes : SoundBytes top bs
  sound-bytes = record { is_sound = record { is_sound = accepted-sound; is_top = refl }; bytes = A.bytes }

  taken : (size : ℕ) → SoundBytes top (take bs size).after
  unfolding take
  taken size = call-sound top bs (read bs) (takes size) (reads bs A.bytes) sound-bytes

  given : (offset : ℕ) → SoundBytes top (give_back bs offset).after
  unfolding give_back
  given offset = call-sound top bs (read bs) (gives offset) (reads bs A.bytes) sound-bytes

  pub take-accepted : (size : ℕ) → Accepted (take bs size).after
  take-accepted size = by_layout top _ (taken size)

  pub give-back-accepted : (offset : ℕ) → Accepted (give_back bs offset).after
  give-back-accepted offset = by_layout top _ (given offset)

  pub take-same-layout : (size : ℕ) → level_word (take bs size).after ≡ level_word bs
  take-same-layout size = level-word top _ (taken size) ∙ sym (level-word top bs sound-bytes)

  pub give-back-same-layout : (offset : ℕ) → level_word (give_back bs offset).after ≡ level_word bs
  give-back-same-layout offset = level-word top _ (given offset) ∙ sym (level-word top bs sound-bytes)

  pub write-accepted : (offset : ℕ) (payload : List ℕ) → Held bs offset payload → (a : ℕ) (part : List ℕ) → Bytes part → offset ≤ a
      → a + length part ≤ offset + length payload → Accepted (replaced_part bs a part)
  write-accepted offset payload h a part is-bytes from to =
      by-sound _ (replaced-bytes bs a part (payload-inside bs A.bytes offset payload h a part is-bytes from to) A.bytes is-bytes)
      (written-sound bs A.bytes offset payload h a part is-bytes from to)

pub laid-out-accepted : (bs : List ℕ) → Bytes bs → Allowed (length bs) → (layout : ℕ) → (layout ≡ 1) ⊎ (layout ≡ 2)
    → Accepted (lay_out bs layout).after
unfolding lay_out
laid-out-accepted bs bytes a layout named = by_layout (layout_top layout) _ (laid-out-sound bs a bytes layout named)

-- ---- the pool is as long as it was, accepted or not

pub take_long : (bs : List ℕ) (size : ℕ) → length (take bs size).after ≡ length bs
unfolding take
take_long bs size = go (read bs)
  where
    go : (x : Reading) → length (take_call x bs size).after ≡ length bs
    go misfit = refl
    go broken = refl
    go (sound s) = length-write _ bs

pub give-back-long : (bs : List ℕ) (offset : ℕ) → length (give_back bs offset).after ≡ length bs
unfolding give_back
give-back-long bs offset = go (read bs)
  where
    go : (x : Reading) → length (give_back_call x bs offset).after ≡ length bs
    go misfit = refl
    go broken = refl
    go (sound s) = length-write _ bs
