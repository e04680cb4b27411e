-- What every call does with what it asks first: refused as that says, or served, on a pool that stands for the state that was read.
use mathlib.Core.Path.{◌≡◌, refl, sym, ap, ◌∙◌}
use mathlib.Core.List.{List}
use Prim.Native.Nat.{ℕ}
use native.Mathlib.Omega.{arith}
use lib.ListN.{length}
use Rattle.words.specs.Words.{Bytes}
use Rattle.paper.specs.Allowed.{Allowed}
use Rattle.paper.specs.Blocks.{State}
use Rattle.paper.specs.Calls.{Reading, misfit, broken, sound, by_reading}
use Rattle.paper.specs.Sound.{Edge, OldEdge}
use Rattle.paper.proofs.reads.Stands.{OldStands, Stands, StandsBy}
use Rattle.paper.proofs.reads.Standing.{stands-allowed}
use Rattle.inspect.specs.Inspection.{inspected, old_inspected}
use Rattle.inspect.proofs.Decide.{accepted-sound, old-accepted-sound}
use Rattle.reading.proofs.Tested.{ReadSoundBy, read-sound-by}
use Rattle.reading.specs.Read.{checked, old_checked, old_read, read, said}
use Rattle.paper.specs.declared.Refusal.{Refusal}
use Rattle.paper.specs.declared.Refusal.TheVariants.{NotAllowed, NotSound}
use Rattle.std.specs.declared.result.Result.{Result}
use Rattle.std.specs.declared.result.Result.TheVariants.{Ok, Err}

pub read-sound : (bs : List ℕ) (s : State) → read bs ≡ sound s → ReadSoundBy Edge bs s
unfolding read
read-sound bs s h = read-sound-by inspected accepted-sound bs s h

pub old-read-sound : (bs : List ℕ) (s : State) → old_read bs ≡ sound s → ReadSoundBy OldEdge bs s
unfolding old_read
old-read-sound bs s h = read-sound-by old_inspected old-accepted-sound bs s h

-- ---- the two ways of a call, by whatever rule it reads

said-refused : {A : Type 0} (f : Refusal → A) (g : State → A) (x : Reading) (k : Refusal) → said x ≡ Err k → by_reading x f g ≡ f k
said-refused f g misfit k e = let d : NotAllowed ≡ k = cc in ap f d
said-refused f g broken k e = let d : NotSound ≡ k = cc in ap f d
said-refused f g (sound s) k e = absurd (let z : ◌≡◌ {A = ℕ} 0 1 = cc in omega arith)

said-served : (x : Reading) (v : Unit {0}) → said x ≡ Ok v → (s : State) × (x ≡ sound s)
said-served misfit v e = absurd (let z : ◌≡◌ {A = ℕ} 0 1 = cc in omega arith)
said-served broken v e = absurd (let z : ◌≡◌ {A = ℕ} 0 1 = cc in omega arith)
said-served (sound s) v e = (s, refl)

module _ {Rule : State → Type 0} (bs : List ℕ) (x : Reading) (found : (s : State) → x ≡ sound s → ReadSoundBy Rule bs s)
    {r : Result (Unit {0}) Refusal} (asked : r ≡ said x) {A : Type 0} (f : Refusal → A) (g : State → A) where
  refused-by : {k : Refusal} → r ≡ Err k → by_reading x f g ≡ f k
  refused-by e = said-refused f g x _ (sym asked ∙ e)

  served-by : {v : Unit {0}} → r ≡ Ok v → {a : A} → ((s : State) → StandsBy Rule s bs → Bytes bs → g s ≡ a) → by_reading x f g ≡ a
  served-by e h =
      let y = said-served x _ (sym asked ∙ e) in
      let k = found y.0 y.1 in
      ap (λ (z : Reading). by_reading z f g) y.1 ∙ h y.0 k.stands k.bytes

-- ---- by the rule in force

module _ (bs : List ℕ) {r : Result (Unit {0}) Refusal} (asked : r ≡ checked bs) where
  pub served-allowed : {v : Unit {0}} → r ≡ Ok v → Allowed (length bs)
  unfolding checked
  served-allowed e = let y = said-served (read bs) _ (sym asked ∙ e) in stands-allowed y.0 bs (read-sound bs y.0 y.1).stands

  module _ {A : Type 0} (f : Refusal → A) (g : State → A) where
    pub refused : {k : Refusal} → r ≡ Err k → by_reading (read bs) f g ≡ f k
    unfolding checked
    refused e = refused-by bs (read bs) (read-sound bs) asked f g e

    pub served : {v : Unit {0}} → r ≡ Ok v → {a : A} → ((s : State) → Stands s bs → Bytes bs → g s ≡ a) → by_reading (read bs) f g ≡ a
    unfolding checked
    served e h = served-by bs (read bs) (read-sound bs) asked f g e h

-- ---- by the old rule

module _ (bs : List ℕ) {r : Result (Unit {0}) Refusal} (asked : r ≡ old_checked bs) {A : Type 0} (f : Refusal → A) (g : State → A) where
  pub old-refused : {k : Refusal} → r ≡ Err k → by_reading (old_read bs) f g ≡ f k
  unfolding old_checked
  old-refused e = refused-by bs (old_read bs) (old-read-sound bs) asked f g e

  pub old-served : {v : Unit {0}} → r ≡ Ok v → {a : A} → ((s : State) → OldStands s bs → Bytes bs → g s ≡ a) → by_reading (old_read bs) f g ≡ a
  unfolding old_checked
  old-served e h = served-by bs (old_read bs) (old-read-sound bs) asked f g e h
