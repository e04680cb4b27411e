-- The sizes of the classes: the table has them, there are four to each power of two, and they rise.
use mathlib.Core.Path.{◌≡◌, refl, ◌∙◌, ap, ap₂}
use mathlib.Core.Logic.{◌⊎◌, inl, inr}
use Prim.Native.Nat.{ℕ, suc, ◌+◌, ◌-◌, ◌*◌, ◌/◌, ◌%◌, ◌^◌, ◌≤◌, ◌<◌}
use native.Mathlib.Decide.{le_ind}
use native.Mathlib.Nat.{eq-or-lt_of_le, le_refl, pow-suc}
use native.Mathlib.Numerals.{add-one}
use native.Mathlib.Omega.{arith}
use lib.Dec.{eqb, eqb→eq}
use lib.ListN.{length, get_or}
use lib.Pow.{pow_pos}
use Rattle.classes.specs.Class.{size}
use Rattle.classes.specs.Sizes.{sizes}
use Rattle.classes.proofs.Table.{every-at}

pub table-length : length sizes ≡ 53
table-length = refl

-- each entry is its class's size: one computed test over all 53
pub table-size : (k : ℕ) → k < 53 → get_or sizes k 0 ≡ size k
unfolding size
table-size k h = eqb→eq (get_or sizes k 0) (size k) (every-at (λ i x. eqb x (size i)) sizes tt k h)

-- class 4 s + t - 8 has t × 2^s bytes, four classes to each power of two; t = 8 is the first of the next four
pub size-by-bits : (s t : ℕ) → 1 ≤ s → 4 ≤ t → t ≤ 8 → size (4 * s + t - 8) ≡ t * 2 ^ s
unfolding size
size-by-bits s t a b c = by_cases (eq-or-lt_of_le c)
  where
    parts : (x y : ℕ) → 4 + (4 * s + t - 8) % 4 ≡ x → (4 * s + t - 8) / 4 + 1 ≡ y → size (4 * s + t - 8) ≡ x * 2 ^ y
    parts x y d e = ap₂ (λ (u v : ℕ). u * 2 ^ v) d e

    by_cases : (t ≡ 8) ⊎ (t < 8) → size (4 * s + t - 8) ≡ t * 2 ^ s
    by_cases (inl e) = parts 4 (suc s) (omega arith) (omega arith) ∙ rw e (omega (arith, pow-suc 2 s))
    by_cases (inr l) = parts t s (omega arith) (omega arith)

-- a class is smaller than the next
pub size-rises : (k : ℕ) → size k < size (k + 1)
size-rises k =
    let s : ℕ = k / 4 + 1 in
    let t : ℕ = k % 4 + 4 in
    let this : size k ≡ t * 2 ^ s = ap size (omega arith) ∙ size-by-bits s t (omega arith) (omega arith) (omega arith) in
    let next : size (k + 1) ≡ (t + 1) * 2 ^ s = ap size (omega arith) ∙ size-by-bits s (t + 1) (omega arith) (omega arith) (omega arith) in
    omega (arith, this, next, pow_pos s)

pub size-at-most : (j k : ℕ) → j ≤ k → size j ≤ size k
size-at-most j k h =
    le_ind (λ (m : ℕ). size j ≤ size m) (le_refl (size j)) (λ m l s. rw (← add-one m) (omega (arith, size-rises m))) k h
