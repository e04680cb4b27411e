-- A pool of one layout is sound exactly if it could have come about honestly in that layout, and so inspection accepts just the honest ones.
use mathlib.Core.List.{List}
use mathlib.Core.Logic.{◌⊎◌, inl, inr}
use mathlib.Core.Path.{◌∙◌, ◌≡◌, refl, sym}
use Prim.Native.Nat.{ℕ}
use native.Mathlib.Omega.{arith}
use lib.ListN.{length}
use Rattle.paper.proofs.honest.HonestSound.{honest-sound}
use Rattle.paper.proofs.honest.SoundHonest.{sound-honest}
use Rattle.paper.proofs.reads.Readings.{top-reads}
use Rattle.paper.specs.Calls.{Reading, Reads, broken, inspect_call, misfit, sound}
use Rattle.paper.specs.Fresh.{layout_top}
use Rattle.paper.specs.Honest.{Honest}
use Rattle.paper.specs.Sound.{Sound, SoundTo, level_word}
use Rattle.words.specs.Words.{Bytes}
use Rattle.std.specs.declared.result.Result.TheVariants.{Ok, Err}
use Rattle.paper.specs.declared.Refusal.{Refusal}
use Rattle.paper.specs.declared.Refusal.TheVariants.{NotAllowed, NotSound}

refused-is-not-done : (k : Refusal) (n : ℕ) → Err k ≡ Ok n → ⊥
refused-is-not-done k n e = let z : ◌≡◌ {A = ℕ} 0 1 = cc in omega arith

-- the level word is the height of the index
pub sound-level : (p : List ℕ) (S : Sound p) → level_word p ≡ S.state.top
sound-level p S = top-reads p S.state S.well_formed (sym S.ends) S.holds

module _ (p : List ℕ) (bytes : Bytes p) (layout : ℕ) where
  pub sound-iff-honest : (layout ≡ 1) ⊎ (layout ≡ 2) → (SoundTo (layout_top layout) p → Honest layout p) × (Honest layout p → SoundTo (layout_top layout) p)
  sound-iff-honest named = (sound-honest layout named p bytes, λ h. (honest-sound layout p h).is_sound)

  pub accepted-honest : (layout ≡ 1) ⊎ (layout ≡ 2) → (r : Reading) → Reads p r → inspect_call r p ≡ Ok (length p) → level_word p ≡ layout_top layout
      → Honest layout p
  accepted-honest named misfit k e t = absurd (refused-is-not-done NotAllowed (length p) e)
  accepted-honest named broken k e t = absurd (refused-is-not-done NotSound (length p) e)
  accepted-honest named (sound s) k e t =
      sound-honest layout named p bytes (record { is_sound = k.0; is_top = sym (sound-level p k.0) ∙ t })

  pub honest-accepted : (r : Reading) → Reads p r → Honest layout p → (inspect_call r p ≡ Ok (length p)) × (level_word p ≡ layout_top layout)
  honest-accepted r k h = (go r k, sound-level p S.is_sound ∙ S.is_top)
    where
      S : SoundTo (layout_top layout) p
      S = (honest-sound layout p h).is_sound

      go : (r : Reading) → Reads p r → inspect_call r p ≡ Ok (length p)
      go misfit k = absurd (k S.is_sound.length_allowed)
      go broken k = absurd (k.1 S.is_sound)
      go (sound s) k = refl

-- an accepted pool has one of the two layouts
pub accepted-layout : (p : List ℕ) (r : Reading) → Reads p r → inspect_call r p ≡ Ok (length p) → (level_word p ≡ 1) ⊎ (level_word p ≡ 13)
accepted-layout p misfit k e = absurd (refused-is-not-done NotAllowed (length p) e)
accepted-layout p broken k e = absurd (refused-is-not-done NotSound (length p) e)
accepted-layout p (sound s) k e = go k.0.well_formed.layout
  where
    go : (k.0.state.top ≡ 1) ⊎ (k.0.state.top ≡ 13) → (level_word p ≡ 1) ⊎ (level_word p ≡ 13)
    go (inl t) = inl (sound-level p k.0 ∙ t)
    go (inr t) = inr (sound-level p k.0 ∙ t)
