-- Offsets that use up their marks, for the loop of asking::used_up: the whole list is the list from here, and each way out or on is one law.
use mathlib.Core.Bool.{Bool, true, false, not}
use mathlib.Core.List.{List}
use mathlib.Core.Logic.{◌≢◌}
use mathlib.Core.Path.{◌≡◌, refl, sym, ap, ◌∙◌}
use Prim.Native.Nat.{ℕ, ◌+◌, ◌/◌, ◌≤◌, ◌<◌}
use native.Mathlib.Numerals.{add-one}
use native.Mathlib.Omega.{arith}
use lib.Dec.{ltb}
use lib.ListN.{drop, drop_of_length-le, get_or, length}
use lib.Seq.{drop-cons}
use borrow.Author.Tests.{not-true, not-false}
use Rattle.asking.specs.AllHeld.{used_up}
use Rattle.marks.proofs.Laws.{length-put}
use Rattle.marks.specs.MarkSets.{bit_marks, mark_at}
use Rattle.words.specs.Choice.{if=, if=-yes, if=-no, when, when-yes, when-no}
use Rattle.words.specs.Sums.{minus}

-- of the marks m₀ those are left that the first i offsets did not use up
pub record Using (m₀ offsets m : List ℕ) (i : ℕ) : Type 0 where
  pub within : i ≤ length offsets
  pub long : length m ≡ length m₀
  pub same : used_up m₀ offsets ≡ used_up m (drop i offsets)

pub begins : (m offsets : List ℕ) → Using m offsets m 0
begins m offsets = record { within = omega arith; long = refl; same = refl }

module _ {m₀ offsets m : List ℕ} {i : ℕ} (U : Using m₀ offsets m i) where
  pub ends : length offsets ≤ i → used_up m₀ offsets ≡ true
  unfolding used_up
  ends l = U.same ∙ ap (used_up m) (drop_of_length-le offsets l)

  module _ (l : i < length offsets) where
    opened : used_up m₀ offsets
        ≡ if= (get_or offsets i 0) 0 (used_up m (drop (i + 1) offsets))
        (when (ltb 0 (mark_at m (minus (get_or offsets i 0) 4)))
        (used_up (bit_marks.drop m (minus (get_or offsets i 0) 4)) (drop (i + 1) offsets)) false)
    unfolding used_up
    opened = rw add-one (U.same ∙ ap (used_up m) (drop-cons offsets i 0 l))

    pub skips : get_or offsets i 0 ≡ 0 → Using m₀ offsets m (i + 1)
    skips z = record { within = omega arith; long = U.long; same = opened ∙ if=-yes (get_or offsets i 0) 0 _ _ z }

    module _ (n : get_or offsets i 0 ≢ 0) {q : ℕ} (e : q ≡ minus (get_or offsets i 0) 4) {b : Bool} (f : b ≡ ltb 0 (mark_at m q)) where
      asked : used_up m₀ offsets ≡ when b (used_up (bit_marks.drop m q) (drop (i + 1) offsets)) false
      asked = rw (f, e) (opened ∙ if=-no (get_or offsets i 0) 0 _ _ n)

      pub unmarked : not b ≡ true → used_up m₀ offsets ≡ false
      unmarked k = asked ∙ when-no b _ _ (not-true b k)

      pub goes_on : not b ≡ false → {m' : List ℕ} → m' ≡ bit_marks.drop m q → Using m₀ offsets m' (i + 1)
      goes_on k {m'} g =
          record {
            within = omega arith;
            long = ap length g ∙ length-put m (q / 8) 0 ∙ U.long;
            same = asked ∙ when-yes b _ _ (not-false b k) ∙ ap (λ (w : List ℕ). used_up w (drop (i + 1) offsets)) (sym g);
          }
