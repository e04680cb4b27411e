-- A free large block leaves its bin, wherever it stands in the list: one step from sheet to sheet.
use mathlib.Core.List.{List, [], ◌++◌, ◌∷◌}
use mathlib.Core.Path.{◌≡◌, refl}
use Prim.Native.Nat.{◌≤◌, ℕ}
use Rattle.paper.proofs.steps.First.{Pred, first_frame, first_good, first-puts}
use Rattle.paper.proofs.steps.Leaving.{later-frame, later-good, later-puts, leaving-loose, rebinned}
use Rattle.paper.proofs.bins.Listed.{Loose}
use Rattle.paper.proofs.sheet.Phases.{Step}
use Rattle.paper.specs.Blocks.{State, end}
use Rattle.paper.specs.Governed.{height, sheet}
use Rattle.paper.specs.Layout.{large}

unfoldable pub leave-puts : State → ℕ → (ℕ → ℕ) → List ℕ → List ℕ → List (ℕ × ℕ)
leave-puts s z w [] vs = first-puts s z w vs
leave-puts s z w (u ∷ us) vs = later-puts u us vs

pub leave-step : (s : State) (W : Loose s) (z p : ℕ) (us vs : List ℕ) (is-in : s.bins z ≡ us ++ p ∷ vs) (is-large : large ≤ z) (y₀ w : ℕ → ℕ)
    → ((j : ℕ) → 1 ≤ j → j ≤ height s.top z → Pred s z j (y₀ j) (w j))
    → Step (end s) (sheet s) (sheet (rebinned s z (us ++ vs))) (leave-puts s z w us vs)
unfolding leave-puts
leave-step s W z p [] vs is-in is-large y₀ w preds =
    record {
      good = first_good s W z p vs is-in is-large y₀ w preds (rebinned s z vs) (leaving-loose s W z p [] vs is-in is-large) refl refl refl;
      frame = λ a al _ o. first_frame s W z p vs is-in is-large y₀ w preds a al o;
    }
leave-step s W z p (u ∷ us) vs is-in is-large y₀ w preds =
    record {
      good = later-good s z u us vs W p is-in is-large (rebinned s z (u ∷ us ++ vs)) (leaving-loose s W z p (u ∷ us) vs is-in is-large) refl;
      frame = λ a al _ o. later-frame s z u us vs W p is-in is-large a al o;
    }
