-- Where a search may begin: no bin of that size stands above that level. (No smaller one does either, so little is lost; no proof needs that.)
use mathlib.Core.List.{List}
use mathlib.Core.Logic.{◌≢◌, ◌⊎◌, inl, inr, ⊎_elim}
use mathlib.Core.Path.{◌≡◌, ap, refl, subst, sym, ◌∙◌}
use Prim.Native.Nat.{ℕ, zero, suc, ◌/◌, ◌%◌, ◌^◌, ◌≤◌, ◌<◌, min}
use native.Mathlib.Nat.{le_trans, lt_of_not-le, not-le_of_lt, pow-suc}
use native.Mathlib.Omega.{arith}
use lib.Count.{count_leading_zeros, leading_length, leading_of_zero, count_trailing_zeros, under}
use lib.Pow.{pow_mono}
use Rattle.paper.specs.Governed.{height}
use Rattle.levels.specs.Levels.{bits, start_of, top_of}
use Rattle.words.specs.Choice.{by=, if=-no, if=-yes}
use Rattle.words.specs.Words.{word_at}

-- a number that is not 0 is at least the power of two that its trailing zeros make
zeros-low : (k n : ℕ) → 1 ≤ n → 2 ^ count_trailing_zeros k n ≤ n
unfolding count_trailing_zeros
zeros-low zero n l = l
zeros-low (suc k) n l = go (n % 2) refl (λ h. zeros-low k (n / 2) h)
  where
    go : (r : ℕ) → n % 2 ≡ r → (1 ≤ n / 2 → 2 ^ count_trailing_zeros k (n / 2) ≤ n / 2) → 2 ^ under r (count_trailing_zeros k (n / 2)) ≤ n
    go zero e on = omega (arith, pow-suc 2 (count_trailing_zeros k (n / 2)), on (omega arith))
    go (suc r) e on = l

-- and below that of its bits
bits-high : (size : ℕ) → size < 2 ^ 32 → size / 8 < 2 ^ bits size
bits-high size m =
    let s = leading_length 32 (size / 8) (omega arith) in
    let e : s.0 ≡ bits size = omega (arith, s.1) in
    subst (λ (k : ℕ). size / 8 < 2 ^ k) e s.2

-- so where the power of two is that of level j, there are that many bits
reaches : (size j : ℕ) → size < 2 ^ 32 → 2 ^ j ≤ size / 8 → suc j ≤ bits size
reaches size j m h = lt_of_not-le (λ g. not-le_of_lt (bits-high size m) (le_trans (pow_mono g) h))

-- 0 has none
no_bits : (size : ℕ) → size / 8 ≡ 0 → bits size ≡ 0
no_bits size e = let l : count_leading_zeros 32 (size / 8) ≡ 32 = ap (count_leading_zeros 32) e ∙ leading_of_zero 32 in omega arith

module _ (t size : ℕ) (m : size < 2 ^ 32) where
  -- the three cases of where a search begins
  starts : (P : ℕ → Type 0) → (t ≡ 1 → P 1) → (size / 8 ≡ 0 → P t) → (size / 8 ≢ 0 → P (min t (bits size))) → P (start_of t size)
  unfolding start_of
  starts P one none some =
      by= t 1 (λ e. subst P (sym (if=-yes t 1 _ _ e)) (one e))
      (λ n. subst P (sym (if=-no t 1 _ _ n))
      (by= (bits size) 0
      (λ e. subst P (sym (if=-yes (bits size) 0 _ _ e)) (none (by= (size / 8) 0 (λ z. z) (λ z. absurd (omega (arith, e, reaches size 0 m (omega arith)))))))
      (λ e. subst P (sym (if=-no (bits size) 0 _ _ e)) (some (λ z. e (no_bits size z))))))

  pub start-le : start_of t size ≤ t
  start-le = starts (λ (k : ℕ). k ≤ t) (λ e. omega arith) (λ e. omega arith) (λ e. omega arith)

  -- a bin of that size stands no higher
  pub height-start : height t size ≤ start_of t size
  unfolding height
  height-start =
      starts (λ (k : ℕ). height t size ≤ k) (λ e. omega arith) (λ e. omega arith)
      (λ e. omega (arith, reaches size (count_trailing_zeros 32 (size / 8)) m (zeros-low 32 (size / 8) (omega arith))))

-- the index of a pool is 1 or 13 high
pub top-cases : (bs : List ℕ) → (top_of bs ≡ 1) ⊎ (top_of bs ≡ 13)
unfolding top_of
top-cases bs = by= (word_at 4 bs 108) 13 (λ e. inr (if=-yes (word_at 4 bs 108) 13 _ _ e)) (λ n. inl (if=-no (word_at 4 bs 108) 13 _ _ n))

-- so no bin stands higher than level 13
pub height-le : (bs : List ℕ) (size : ℕ) → height (top_of bs) size ≤ 13
unfolding height
height-le bs size = ⊎_elim (λ e. omega arith) (λ e. omega arith) (top-cases bs)
