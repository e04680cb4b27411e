-- The loop over the eight small bins: where each way out leads, and that it goes on.
use mathlib.Core.List.{List}
use mathlib.Core.Path.{◌∙◌, ◌≡◌, ap, refl, sym}
use Prim.Native.Nat.{◌*◌, ◌+◌, ◌-◌, ◌<◌, ◌≤◌, suc, zero, ℕ}
use native.Mathlib.Omega.{arith}
use lib.ListN.{length}
use Rattle.std.proofs.Common.{Option, Some, None}
use Rattle.lists.specs.Contract.{to_left}
use Rattle.lists.specs.Lists.{Left, follow, if_left, left, lost, next_small, small_tests, smalls}
use Rattle.marks.specs.MarkSets.{bit_marks}
use Rattle.paper.specs.Layout.{large, small_bins}
use Rattle.words.specs.Words.{word_at}

pub record Bins (s m₀ : List ℕ) (k : ℕ) (m : List ℕ) (n z : ℕ) : Type 0 where
  pub long : length m ≡ length m₀
  pub fuel : ℕ
  pub due : z + 8 * fuel ≡ large
  pub all : smalls bit_marks s 8 8 k m₀ ≡ smalls bit_marks s fuel z n m

pub bins-start : (s m : List ℕ) (k : ℕ) → Bins s m k m k 8
bins-start s m k = record { long = refl; fuel = 8; due = refl; all = refl }

bins-end : (s m : List ℕ) (c z n : ℕ) → c ≡ 0 → smalls bit_marks s c z n m ≡ left n m
unfolding smalls
bins-end s m zero z n e = refl
bins-end s m (suc c) z n e = absurd (omega arith)

bins-next : (s m : List ℕ) (c z n f : ℕ) → f ≡ word_at 4 s (z + small_bins) → (x : Left (List ℕ)) → x ≡ follow bit_marks (small_tests s z) (next_small s) n m 0 f
    → smalls bit_marks s (suc c) z n m ≡ if_left x lost (λ k' ms'. smalls bit_marks s c (z + 8) k' ms')
unfolding smalls
bins-next s m c z n f e x h =
    ap (λ (v : Left (List ℕ)). if_left v lost (λ k' ms'. smalls bit_marks s c (z + 8) k' ms'))
    (ap (follow bit_marks (small_tests s z) (next_small s) n m 0) (sym e) ∙ sym h)

module _ {s m₀ : List ℕ} {k : ℕ} {m : List ℕ} {n z : ℕ} (g : Bins s m₀ k m n z) where
  pub bins-done : large ≤ z → left n m ≡ smalls bit_marks s 8 8 k m₀
  bins-done e = sym (g.all ∙ bins-end s m g.fuel z n (omega (arith, g.due)))

  module _ (lt : z < large) {f : ℕ} (ef : f ≡ word_at 4 s (z + small_bins)) (r : Option ℕ) (m' : List ℕ)
      (ex : to_left r m' ≡ follow bit_marks (small_tests s z) (next_small s) n m 0 f) where
    abbrev on : Left (List ℕ) → Left (List ℕ)
    on v = if_left v lost (λ k' ms'. smalls bit_marks s (g.fuel - 1) (z + 8) k' ms')

    bins-step : smalls bit_marks s 8 8 k m₀ ≡ on (to_left r m')
    bins-step =
        g.all ∙ ap (λ (v : ℕ). smalls bit_marks s v z n m) (omega (arith, g.due)) ∙ bins-next s m (g.fuel - 1) z n f ef (to_left r m') ex

    pub bins-lost : r ≡ None → lost ≡ smalls bit_marks s 8 8 k m₀
    bins-lost h = sym (bins-step ∙ ap (λ (v : Option ℕ). on (to_left v m')) h)

    pub bins-on : {left' : ℕ} → r ≡ Some left' → length m' ≡ length m → Bins s m₀ k m' left' (z + 8)
    bins-on h lm =
        record {
          long = lm ∙ g.long;
          fuel = g.fuel - 1;
          due = omega (arith, g.due);
          all = bins-step ∙ ap (λ (v : Option ℕ). on (to_left v m')) h;
        }
