-- What shifts and masks make of a head: the machine's forms are `head_of` and `word_of`, and putting together undoes taking apart.
use mathlib.Core.Path.{◌≡◌, refl, ap, ap₂, ◌∙◌}
use mathlib.Core.Bool.{Bool, true, false}
use Prim.Native.Nat.{ℕ, ◌+◌, ◌*◌, ◌/◌, ◌%◌, ◌^◌, ◌<◌, ◌≤◌}
use native.Mathlib.Nat.{mod-eq_of_lt, mul_comm}
use native.Mathlib.Omega.{arith}
use lib.Arith.{mod-mul}
use lib.Dec.{eqb}
use lib.Bits.{bit_and, bit_or, and_mask, or_shifted}
use mir.Val.{bool_byte}
use Rattle.heads.specs.declared.head.Head.{Head}
use Rattle.heads.specs.Heads.{free_head, head_of, word_of}

flag-lt : (b : Bool) → bool_byte b < 2
flag-lt true = omega arith
flag-lt false = omega arith

-- of a size that is shifted, the low 30 bits stay
shifted : (s : ℕ) → s * 4 % 4294967296 ≡ s % 1073741824 * 4
shifted s =
    let a : s * 4 / 4 ≡ s = omega arith in
    let b : s * 4 % 4 ≡ 0 = omega arith in
    let m : s * 4 % (1073741824 * 4) ≡ (s * 4 / 4 % 1073741824) * 4 + s * 4 % 4 = mod-mul (s * 4) (omega arith) (omega arith) in
    m ∙ rw (a, b) (omega arith)

-- put together by shifts and ors
joined : (s p a : ℕ) → p < 2 → a < 2 → bit_or (bit_or (s * 2 ^ 2 % 4294967296) (p * 2 ^ 1 % 4294967296)) a ≡ 4 * s % 4294967296 + 2 * p + a
joined s p a i j =
    let x : s * 2 ^ 2 % 4294967296 ≡ s % 1073741824 * 2 ^ 2 = shifted s in
    let y : p * 2 ^ 1 % 4294967296 ≡ p * 2 = mod-eq_of_lt (omega arith) in
    let o : bit_or (s % 1073741824 * 2 ^ 2) (p * 2) ≡ s % 1073741824 * 4 + p * 2 = or_shifted (s % 1073741824) 2 (p * 2) (omega arith) in
    let z : s % 1073741824 * 4 + p * 2 ≡ (s % 1073741824 * 2 + p) * 2 ^ 1 = omega arith in
    ap (λ (t : ℕ). bit_or t a) (ap₂ bit_or x y ∙ o ∙ z) ∙ or_shifted (s % 1073741824 * 2 + p) 1 a j ∙ rw (mul_comm 4 s, shifted s) (omega arith)

pub made : (h : Head) → bit_or (bit_or (h.size * 4 % 4294967296) (bool_byte h.p * 2 % 4294967296)) (bool_byte h.held) ≡ word_of h
unfolding word_of
made h = joined h.size (bool_byte h.p) (bool_byte h.held) (flag-lt h.p) (flag-lt h.held)

-- taken apart by shifts and masks
pub split : (w : ℕ) → ◌≡◌ {A = Head} (record { size = w / 4; p = eqb (bit_and (w / 2) 1) 1; held = eqb (bit_and w 1) 1 }) (head_of w)
unfolding head_of
split w = λ i. record { size = w / 4; p = eqb (and_mask (w / 2) 1 i) 1; held = eqb (and_mask w 1 i) 1 }

-- there and back, for every size that a head can hold
pub head-word : (h : Head) → h.size < 1073741824 → head_of (word_of h) ≡ h
unfolding head_of word_of
head-word h l =
    λ i. record { size = s i; p = ((ap (λ (n : ℕ). eqb n 1) q ∙ flag-eqb h.p) i); held = ((ap (λ (n : ℕ). eqb n 1) r ∙ flag-eqb h.held) i) }
  where
    s : word_of h / 4 ≡ h.size
    s = omega (arith, flag-lt h.p, flag-lt h.held)

    q : word_of h / 2 % 2 ≡ bool_byte h.p
    q = omega (arith, flag-lt h.p, flag-lt h.held)

    r : word_of h % 2 ≡ bool_byte h.held
    r = omega (arith, flag-lt h.held)

    flag-eqb : (b : Bool) → eqb (bool_byte b) 1 ≡ b
    flag-eqb true = refl
    flag-eqb false = refl

-- the head of a free block, for every size of a pool
pub free-head : (z : ℕ) → z ≤ 65536 → free_head z ≡ 4 * z + 2
unfolding free_head word_of
free-head z l = omega arith
