-- The class by bits: the three top bits of payload - 1 and their place name a class that is just too small, and the next one holds the payload.
use mathlib.Core.Path.{◌≡◌, ap, ◌∙◌}
use Prim.Native.Nat.{ℕ, suc, ◌+◌, ◌-◌, ◌*◌, ◌/◌, ◌%◌, ◌^◌, ◌≤◌, ◌<◌}
use native.Mathlib.Nat.{le-div_iff_mul-le, lt_of_not-le, mod-lt, not-le_of_lt}
use native.Mathlib.Omega.{arith}
use lib.Count.{count_leading_zeros, leading_top}
use lib.Pow.{pow-add, pow_mono, pow_pos, shr_lt, split}
use Rattle.classes.specs.Class.{size, class_of}
use Rattle.classes.proofs.Sizes.{size-by-bits}
use Rattle.classes.proofs.Class.{class-between}

-- of a number of w bits: how many stand below its three top ones, and these three as a number
abbrev pub place : (w m : ℕ) → ℕ
place w m = w - 3 - count_leading_zeros w m

abbrev pub top : (w m : ℕ) → ℕ
top w m = m / 2 ^ place w m

-- what is known of them, where the number has three bits at least
pub record TopBits (w m : ℕ) : Type 0 where
  pub long : count_leading_zeros w m + 3 ≤ w
  pub from : 2 ^ (2 + place w m) ≤ m
  pub below : m < 2 ^ (3 + place w m)
  pub from-4 : 4 ≤ top w m
  pub to-7 : top w m ≤ 7

shorter : {i j : ℕ} → 2 ^ i < 2 ^ j → i < j
shorter h = lt_of_not-le (λ g. not-le_of_lt h (pow_mono g))

pub top-bits : (w m : ℕ) → 4 ≤ m → m < 2 ^ w → TopBits w m
top-bits w m l h =
    let highest = leading_top w m (omega arith) h in
    let three : 2 < suc highest.0 = shorter (omega (arith, highest.3)) in
    let at : 2 + place w m ≡ highest.0 = omega (arith, highest.1) in
    let past : 3 + place w m ≡ suc highest.0 = omega arith in
    let from : 2 ^ (2 + place w m) ≤ m = rw at highest.2 in
    let below : m < 2 ^ (3 + place w m) = rw past highest.3 in
    record {
      long = omega (arith, highest.1);
      from = from;
      below = below;
      from-4 = (le-div_iff_mul-le (pow_pos (place w m))).1 (omega (arith, pow-add 2 2 (place w m)));
      to-7 = omega (arith, shr_lt 3 (place w m) below);
    }

-- for any s and t that stand to the payload as the place and the top bits do
by_bits : (s t p : ℕ) → 1 ≤ s → s ≤ 13 → 4 ≤ t → t ≤ 7 → t * 2 ^ s < p → p ≤ (t + 1) * 2 ^ s → class_of p + 7 ≡ 4 * s + t
by_bits s t p s≥1 s≤13 t≥4 t≤7 l h =
    let small : size (4 * s + t - 8) ≡ t * 2 ^ s = size-by-bits s t s≥1 t≥4 (omega arith) in
    let enough : size (4 * s + t - 8 + 1) ≡ (t + 1) * 2 ^ s = ap size (omega arith) ∙ size-by-bits s (t + 1) s≥1 (omega arith) (omega arith) in
    omega (arith, class-between (4 * s + t - 8) p (omega arith) (rw small l) (rw enough h))

-- the class of a payload is the one past that of the top bits of the number before it
pub class-by-bits : (w p : ℕ) → 8 < p → p ≤ 65536 → p ≤ 2 ^ w → class_of p + 7 ≡ 4 * place w (p - 1) + top w (p - 1)
class-by-bits w p l h fits =
    let m : ℕ = p - 1 in
    let b = top-bits w m (omega arith) (omega arith) in
    let long : 3 < 3 + place w m = shorter (omega (arith, b.below)) in
    let short : 2 + place w m < 16 = shorter (omega (arith, b.from)) in
    let parts : top w m * 2 ^ place w m + m % 2 ^ place w m ≡ m = split m (place w m) in
    let rest : m % 2 ^ place w m < 2 ^ place w m = mod-lt m (pow_pos (place w m)) in
    by_bits (place w m) (top w m) p (omega arith) (omega arith) b.from-4 b.to-7 (omega arith) (omega arith)
