-- The numeral of n is what decimal printing writes, std's and the kit's `io`, the fewest digits that hold n; and a number below 10 ^ k has at most k of
-- them.
use mathlib.Core.Path.{◌≡◌, sym, ap, ap₂, ◌∙◌}
use mathlib.Core.List.{List, [], ◌∷◌, ◌++◌}
use Prim.Native.Nat.{ℕ, zero, suc, ◌-◌, ◌/◌, ◌%◌, ◌^◌, ◌≤◌, ◌<◌}
use native.Mathlib.Nat.{pow-suc, pow-zero, one-le-pow, mod-eq_of_lt}
use native.Mathlib.Omega.{arith}
use lib.ListN.{length, length-append}
use borrow.Author.Tests.{lt-ltb}
use Rattle.io.specs.Digits.{last_digits, hex_digit_ascii, IsDigitCount}
use Rattle.std.proofs.lemmas.Fmt.{decimal_from_appends, length-decimal-le_succ}
use Rattle.std.specs.Fmt.{decimal}
use Rattle.words.specs.Choice.{if<-yes, if<-no, by<}
use Rattle.text.specs.Numeral.{digit, numeral_with, numeral}

glyph-digit : (n : ℕ) → hex_digit_ascii (n % 10) ≡ digit (n % 10)
glyph-digit n = rw (lt-ltb (n % 10) 10 (omega arith))

one : (most n : ℕ) → n < 10 → numeral_with (suc most) n ≡ digit n ∷ []
unfolding numeral_with
one most n h = if<-yes n 10 _ _ h

more : (most n : ℕ) → 10 ≤ n → numeral_with (suc most) n ≡ numeral_with most (n / 10) ++ (digit (n % 10) ∷ [])
unfolding numeral_with
more most n h = if<-no n 10 _ _ h

-- the fewest digits, k + 1 of them
digits-numeral : (k most n : ℕ) → n < 10 ^ suc k → (0 < k → 10 ^ k ≤ n) → n < most → last_digits 10 (suc k) n ≡ numeral_with most n
digits-numeral k zero n h l f = absurd (omega arith)
digits-numeral zero (suc most) n h l f =
    let s : n < 10 = omega (arith, pow-suc 10 0, pow-zero 10) in
    let e : n % 10 ≡ n = mod-eq_of_lt s in
    ap (λ (d : ℕ). d ∷ []) (glyph-digit n ∙ ap digit e) ∙ sym (one most n s)
digits-numeral (suc k) (suc most) n h l f =
    let w : 10 ^ suc k ≤ n = l (omega arith) in
    let t : 10 ≤ n = omega (arith, pow-suc 10 k, one-le-pow k 10 (omega arith)) in
    ap₂ (λ (x : List ℕ) (d : ℕ). x ++ (d ∷ []))
    (digits-numeral k most (n / 10) (omega (arith, pow-suc 10 (suc k))) (λ p. omega (arith, pow-suc 10 k)) (omega arith))
    (glyph-digit n)
    ∙ sym (more most n t)

pub fewest-numeral : (n k : ℕ) → IsDigitCount 10 1 n k → last_digits 10 k n ≡ numeral n
unfolding numeral
fewest-numeral n zero f = absurd (omega (arith, f.0))
fewest-numeral n (suc k) f =
    let e : suc k - 1 ≡ k = omega arith in
    digits-numeral k (suc n) n f.1 (λ p. rw e at (f.2 (omega arith))) (omega arith)

pub numeral-decimal : (n : ℕ) → n < 2 ^ 64 → numeral n ≡ decimal n
unfolding numeral
numeral-decimal n h =
    decimal_from_appends numeral_with (record { one = one; more = more }) (suc n) n h (omega (arith, length-decimal-le_succ n h))

short : (k most n : ℕ) → n < 10 ^ suc k → length (numeral_with most n) ≤ suc k
unfolding numeral_with
short k zero n h = omega arith
short zero (suc most) n h = rw (one most n (omega (arith, pow-suc 10 0, pow-zero 10))) (omega arith)
short (suc k) (suc most) n h =
    by< n 10 (λ s. rw (one most n s) (omega arith))
    (λ s. rw (more most n s, length-append) (omega (arith, short k most (n / 10) (omega (arith, pow-suc 10 (suc k))))))

pub numeral-length : (k n : ℕ) → n < 10 ^ suc k → length (numeral n) ≤ suc k
unfolding numeral
numeral-length k n h = short k (suc n) n h
