-- The first words of a buffer are cleared one after the other, for the loop of laying out.
use mathlib.Core.Path.{◌≡◌, refl, sym, ap, ◌∙◌}
use mathlib.Core.List.{List}
use Prim.Native.Nat.{ℕ, ◌+◌, ◌*◌, ◌≤◌, ◌<◌}
use native.Mathlib.Numerals.{add-one}
use native.Mathlib.Omega.{arith}
use lib.ListN.{length}
use Rattle.words.specs.Words.{put_at}
use Rattle.words.proofs.Laws.{put-length}
use Rattle.laying.specs.LayingOut.{cleared_to}

pub record Clearing (old new : List ℕ) (k : ℕ) : Type 0 where
  pub within : k ≤ 42
  pub long : length new ≡ length old
  pub same : new ≡ cleared_to k old

pub begins : (old : List ℕ) → Clearing old old 0
unfolding cleared_to
begins old = record { within = omega arith; long = refl; same = refl }

pub one_more : {old new next : List ℕ} {k : ℕ} → Clearing old new k → k < 42 → next ≡ put_at 4 new (4 * k) 0 → Clearing old next (k + 1)
unfolding cleared_to
one_more {old} {new} {next} {k} C l e =
    record {
      within = omega arith;
      long = ap length e ∙ put-length 4 new (4 * k) 0 ∙ C.long;
      same = e ∙ ap (λ (t : List ℕ). put_at 4 t (4 * k) 0) C.same ∙ ap (λ (i : ℕ). cleared_to i old) (sym (add-one k));
    }

pub all : {old new : List ℕ} {k : ℕ} → Clearing old new k → 42 ≤ k → new ≡ cleared_to 42 old
all {old} {new} {k} C l = let e : k ≡ 42 = omega (arith, C.within) in C.same ∙ ap (λ (i : ℕ). cleared_to i old) e
