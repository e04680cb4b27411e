-- What is asked first, by either rule: refused or not, by what the tests say.
use mathlib.Core.Bool.{Bool, false, true}
use mathlib.Core.Path.{◌≡◌, refl, sym, ◌∙◌}
use mathlib.Core.List.{List}
use Prim.Native.Nat.{ℕ}
use lib.ListN.{length}
use Rattle.words.specs.Words.{Bytes}
use Rattle.paper.specs.Allowed.{Allowed}
use Rattle.paper.specs.Calls.{broken, misfit, sound}
use Rattle.paper.specs.Sound.{OldSound}
use Rattle.guards.proofs.Guards.{no_both}
use Rattle.inspect.proofs.AtEdge.{edge-every, edge-only}
use Rattle.inspect.proofs.Decide.{less, more}
use Rattle.inspect.specs.Inspection.{edge_held}
use Rattle.reading.proofs.Readings.{by-old-reading, by-reading}
use Rattle.reading.specs.Read.{checked, checked_by, edge_ok, old_checked}
use Rattle.paper.specs.declared.Refusal.TheVariants.{NotAllowed, NotSound}
use Rattle.std.specs.declared.result.Result.TheVariants.{Ok, Err}

module _ (bs : List ℕ) (bytes : Bytes bs) where
  pub not_as_long : (old : Bool) → (Allowed (length bs) → ⊥) → Err NotAllowed ≡ checked_by old bs
  unfolding checked old_checked checked_by
  not_as_long true k = sym (by-old-reading bs bytes Err (λ s. Ok tt) misfit k)
  not_as_long false k = sym (by-reading bs bytes Err (λ s. Ok tt) misfit k)

  pub fails-tests : (old : Bool) → Allowed (length bs) → (OldSound bs → ⊥) → Err NotSound ≡ checked_by old bs
  unfolding checked old_checked checked_by
  fails-tests true a k = sym (by-old-reading bs bytes Err (λ s. Ok tt) broken (a, k))
  fails-tests false a k = sym (by-reading bs bytes Err (λ s. Ok tt) broken (a, λ S. k (less bs S)))

  pub free-at-edge : (old : Bool) → Allowed (length bs) → edge_ok old bs ≡ false → Err NotSound ≡ checked_by old bs
  unfolding checked checked_by edge_ok
  free-at-edge true a h = absurd (no_both (sym h))
  free-at-edge false a h =
      sym (by-reading bs bytes Err (λ s. Ok tt) broken (a, λ S. no_both (sym h ∙ edge-every bs (less bs S) S.edge)))

  pub passes : (old : Bool) → edge_ok old bs ≡ true → OldSound bs → Ok tt ≡ checked_by old bs
  unfolding checked old_checked checked_by edge_ok
  passes true h S = sym (by-old-reading bs bytes Err (λ s. Ok tt) (sound S.state) (S, refl))
  passes false h S =
      sym (by-reading bs bytes Err (λ s. Ok tt) (sound S.state) (more bs S (edge-only bs S h), refl))

-- the test, as the code asks it
pub edge-asked : (bs : List ℕ) (old : Bool) → old ≡ true → true ≡ edge_ok old bs
unfolding edge_ok
edge-asked bs true e = refl
edge-asked bs false e = absurd (no_both e)

pub edge-passed-on : (bs : List ℕ) (old : Bool) → old ≡ false → {r : Bool} → r ≡ edge_held bs → r ≡ edge_ok old bs
unfolding edge_ok
edge-passed-on bs true e h = absurd (no_both (sym e))
edge-passed-on bs false e h = h
