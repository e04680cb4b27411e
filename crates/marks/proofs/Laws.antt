-- The laws of marks: what is put at a place is there, and every other place keeps its own. And what the code computes.
use mathlib.Core.Bool.{Bool, false}
use mathlib.Core.List.{List}
use mathlib.Core.Logic.{◌≢◌, ⊎_elim}
use mathlib.Core.Path.{◌∙◌, ◌≡◌, ap, ap₂, subst, sym}
use Prim.Native.Nat.{◌%◌, ◌*◌, ◌+◌, ◌-◌, ◌/◌, ◌<◌, ◌^◌, ◌≤◌, max, suc, ℕ}
use native.Mathlib.Decide.{ℕ_discrete}
use native.Mathlib.Nat.{add-mul, add-zero, div-add-mod', div-div-eq-div-mul, div-eq_of_lt, mod-eq_of_lt, mod-lt, mul-add-div_right, mul_assoc, one-mul, pow-suc, zero-div}
use native.Mathlib.Omega.{arith}
use lib.Dec.{eqb, ltb}
use lib.Bits.{and_block, and_mask, and_zero_r, bit_and, bit_or, or_block, or_step, or_zero_r}
use lib.ListN.{get_or-eq_default, get_or, length, length-set, set}
use lib.Pow.{pow-add, pow-lt, pow_pos}
use lib.Seq.{get_or-set_other, get_or-set_same}
use borrow.Author.Tests.{eq-eqb, le-ltb, lt-ltb, ne_eqb}
use Rattle.marks.specs.Marks.{bit, bit_at, put_bit, put_bit_at}
use Rattle.marks.specs.MarkSets.{mark_at}
use Rattle.words.specs.Choice.{by=, if=-no, if=-yes, lt?}

-- ---- one word

pub bit-same : (w k c : ℕ) → c < 2 → bit (put_bit w k c) k ≡ c
unfolding put_bit
bit-same w k c h =
    ap (λ (x : ℕ). x % 2) (mul-add-div_right (pow_pos k) (w / 2 ^ k / 2 * 2 + c) (w % 2 ^ k)
    ∙ ap (λ (x : ℕ). w / 2 ^ k / 2 * 2 + c + x) (div-eq_of_lt (mod-lt w (pow_pos k))))
    ∙ omega arith

-- what stands above digit k
above : (w k c : ℕ) → c < 2 → put_bit w k c / 2 ^ suc k ≡ w / 2 ^ suc k
unfolding put_bit
above w k c h =
    let e : put_bit w k c / 2 ^ k ≡ w / 2 ^ k / 2 * 2 + c =
    mul-add-div_right (pow_pos k) (w / 2 ^ k / 2 * 2 + c) (w % 2 ^ k)
    ∙ ap (λ (x : ℕ). w / 2 ^ k / 2 * 2 + c + x) (div-eq_of_lt (mod-lt w (pow_pos k))) ∙ omega arith in
    ap (λ (x : ℕ). put_bit w k c / x) (pow-suc 2 k) ∙ sym (div-div-eq-div-mul (put_bit w k c) (2 ^ k) 2) ∙ ap (λ (x : ℕ). x / 2) e
    ∙ omega arith
    ∙ div-div-eq-div-mul w (2 ^ k) 2 ∙ ap (λ (x : ℕ). w / x) (sym (pow-suc 2 k))

-- digits above a multiple do not matter
low_bit : (x y j m : ℕ) → bit (y * 2 ^ (suc m + j) + x) j ≡ bit x j
low_bit x y j m =
    let e : y * 2 ^ (suc m + j) ≡ y * 2 ^ m * 2 * 2 ^ j =
    ap (λ (t : ℕ). y * t) (pow-add 2 (suc m) j ∙ ap (λ (t : ℕ). t * 2 ^ j) (pow-suc 2 m)) ∙ sym (mul_assoc y (2 ^ m * 2) (2 ^ j))
    ∙ ap (λ (t : ℕ). t * 2 ^ j) (sym (mul_assoc y (2 ^ m) 2)) in
    ap (λ (t : ℕ). (t + x) / 2 ^ j % 2) e ∙ ap (λ (t : ℕ). t % 2) (mul-add-div_right (pow_pos j) (y * 2 ^ m * 2) x) ∙ omega arith

pub bit-other : (w k c j : ℕ) → c < 2 → j ≢ k → bit (put_bit w k c) j ≡ bit w j
unfolding put_bit
bit-other w k c j h ne = ⊎_elim less more (lt? j k)
  where
    less : j < k → bit (put_bit w k c) j ≡ bit w j
    less l =
        let e : suc (k - suc j) + j ≡ k = omega arith in
        subst (λ (t : ℕ). bit ((w / 2 ^ k / 2 * 2 + c) * 2 ^ t + w % 2 ^ k) j ≡ bit (w % 2 ^ k) j) e
        (low_bit (w % 2 ^ k) (w / 2 ^ k / 2 * 2 + c) j (k - suc j))
        ∙ sym (subst (λ (t : ℕ). bit (w / 2 ^ k * 2 ^ t + w % 2 ^ k) j ≡ bit (w % 2 ^ k) j) e (low_bit (w % 2 ^ k) (w / 2 ^ k) j (k - suc j)))
        ∙ ap (λ (t : ℕ). bit t j) (div-add-mod' w (2 ^ k))

    more : k ≤ j → bit (put_bit w k c) j ≡ bit w j
    more g =
        let e : suc k + (j - suc k) ≡ j = omega (arith, ne) in
        let p : 2 ^ j ≡ 2 ^ suc k * 2 ^ (j - suc k) = ap (λ (t : ℕ). 2 ^ t) (sym e) ∙ pow-add 2 (suc k) (j - suc k) in
        let q : (x : ℕ) → x / 2 ^ j ≡ x / 2 ^ suc k / 2 ^ (j - suc k) = λ x. ap (λ (t : ℕ). x / t) p
        ∙ sym (div-div-eq-div-mul x (2 ^ suc k) (2 ^ (j - suc k))) in
        ap (λ (t : ℕ). t % 2) (q (put_bit w k c) ∙ ap (λ (t : ℕ). t / 2 ^ (j - suc k)) (above w k c h) ∙ sym (q w))

-- ---- the set

pub length-put : (ws : List ℕ) (i c : ℕ) → length (put_bit_at ws i c) ≡ length ws
unfolding put_bit_at
length-put ws i c = length-set ws (i / 64) _

pub bit-out : (ws : List ℕ) (i : ℕ) → length ws ≤ i / 64 → bit_at ws i ≡ 0
unfolding bit_at
bit-out ws i h = simp (get_or-eq_default ws 0 h, zero-div)

pub has_same : (ws : List ℕ) (i c : ℕ) → c < 2 → i / 64 < length ws → bit_at (put_bit_at ws i c) i ≡ c
unfolding bit_at put_bit_at
has_same ws i c h l = rw (get_or-set_same ws (i / 64) (put_bit (get_or ws (i / 64) 0) (i % 64) c) 0 l) (bit-same (get_or ws (i / 64) 0) (i % 64) c h)

pub has_other : (ws : List ℕ) (i c j : ℕ) → c < 2 → i / 64 < length ws → j ≢ i → bit_at (put_bit_at ws i c) j ≡ bit_at ws j
unfolding bit_at put_bit_at
has_other ws i c j h l ne = go (ℕ_discrete (j / 64) (i / 64))
  where
    go : Dec (j / 64 ≡ i / 64) → bit_at (put_bit_at ws i c) j ≡ bit_at ws j
    go (yes e) =
        rw (e, get_or-set_same ws (i / 64) (put_bit (get_or ws (i / 64) 0) (i % 64) c) 0 l)
        (bit-other (get_or ws (i / 64) 0) (i % 64) c (j % 64) h (λ f. ne (omega arith)))
    go (no n) = rw (get_or-set_other ws (i / 64) (j / 64) (put_bit (get_or ws (i / 64) 0) (i % 64) c) 0 n)

-- ---- what the code computes

pub shifted : (k : ℕ) → k < 64 → 1 * 2 ^ k % 18446744073709551616 ≡ 2 ^ k
shifted k h = ap (λ (t : ℕ). t % 18446744073709551616) (one-mul (2 ^ k)) ∙ mod-eq_of_lt (pow-lt {i = k} {j = 64} h)

or-one : (a : ℕ) → bit_or a 1 ≡ a / 2 * 2 + 1
or-one a = or_step a 1 ∙ ap (λ (t : ℕ). t * 2 + max (a % 2) 1) (or_zero_r (a / 2)) ∙ omega arith

pub or_put : (w k : ℕ) → bit_or w (2 ^ k) ≡ put_bit w k 1
unfolding put_bit
or_put w k =
    ap₂ bit_or (sym (div-add-mod' w (2 ^ k))) (sym (add-zero (1 * 2 ^ k) ∙ one-mul (2 ^ k)))
    ∙ or_block k (w / 2 ^ k) 1 (w % 2 ^ k) 0 (mod-lt w (pow_pos k)) (pow_pos k)
    ∙ ap₂ (λ (a b : ℕ). a * 2 ^ k + b) (or-one (w / 2 ^ k)) (or_zero_r (w % 2 ^ k))

pub and-bit : (w k : ℕ) → bit_and w (2 ^ k) ≡ w / 2 ^ k % 2 * 2 ^ k
and-bit w k =
    ap₂ bit_and (sym (div-add-mod' w (2 ^ k))) (sym (add-zero (1 * 2 ^ k) ∙ one-mul (2 ^ k)))
    ∙ and_block k (w / 2 ^ k) 1 (w % 2 ^ k) 0 (mod-lt w (pow_pos k)) (pow_pos k)
    ∙ ap₂ (λ (a b : ℕ). a * 2 ^ k + b) (and_mask (w / 2 ^ k) 1) (and_zero_r (w % 2 ^ k))
    ∙ add-zero (w / 2 ^ k % 2 * 2 ^ k)

pub sub-put : (w k : ℕ) → w - bit_and w (2 ^ k) ≡ put_bit w k 0
unfolding put_bit
sub-put w k =
    let s : w / 2 ^ k / 2 * 2 + w / 2 ^ k % 2 ≡ w / 2 ^ k = omega arith in
    let e : w / 2 ^ k / 2 * 2 * 2 ^ k + w / 2 ^ k % 2 * 2 ^ k + w % 2 ^ k ≡ w =
    ap (λ (t : ℕ). t + w % 2 ^ k) (sym (add-mul (w / 2 ^ k / 2 * 2) (w / 2 ^ k % 2) (2 ^ k)) ∙ ap (λ (t : ℕ). t * 2 ^ k) s)
    ∙ div-add-mod' w (2 ^ k) in
    let z : (w / 2 ^ k / 2 * 2 + 0) * 2 ^ k ≡ w / 2 ^ k / 2 * 2 * 2 ^ k = ap (λ (t : ℕ). t * 2 ^ k) (add-zero (w / 2 ^ k / 2 * 2)) in
    omega (arith, and-bit w k, e, z)

-- a store of the code, as the set's
pub stored-in : (ws : List ℕ) (i : ℕ) → set ws (i / 64) (bit_or (get_or ws (i / 64) 0) (1 * 2 ^ (i % 64) % 18446744073709551616)) ≡ put_bit_at ws i 1
unfolding put_bit_at
stored-in ws i =
    ap (λ (x : ℕ). set ws (i / 64) x)
    (ap (bit_or (get_or ws (i / 64) 0)) (shifted (i % 64) (omega arith)) ∙ or_put (get_or ws (i / 64) 0) (i % 64))

pub stored-out : (ws : List ℕ) (i : ℕ)
    → set ws (i / 64) (get_or ws (i / 64) 0 - bit_and (get_or ws (i / 64) 0) (1 * 2 ^ (i % 64) % 18446744073709551616)) ≡ put_bit_at ws i 0
unfolding put_bit_at
stored-out ws i =
    ap (λ (x : ℕ). set ws (i / 64) x)
    (ap (λ (m : ℕ). get_or ws (i / 64) 0 - bit_and (get_or ws (i / 64) 0) m) (shifted (i % 64) (omega arith)) ∙ sub-put (get_or ws (i / 64) 0) (i % 64))

-- ---- the mark of a start

pub mark-yes : (m : List ℕ) (q : ℕ) (b : Bool) → q % 8 ≡ 0 → b ≡ eqb (bit_at m (q / 8)) 1 → b ≡ ltb 0 (mark_at m q)
unfolding mark_at bit_at
mark-yes m q b e h =
    h ∙ by= (bit_at m (q / 8)) 1
    (λ y. eq-eqb _ _ y ∙ sym (lt-ltb 0 (mark_at m q) (omega (arith, if=-yes {A = ℕ} (q % 8) 0 (bit_at m (q / 8)) 0 e))))
    (λ n. ne_eqb _ _ n ∙ sym (le-ltb 0 (mark_at m q) (omega (arith, if=-yes {A = ℕ} (q % 8) 0 (bit_at m (q / 8)) 0 e))))

pub mark-no : (m : List ℕ) (q : ℕ) → (q % 8 ≡ 0 → ⊥) → false ≡ ltb 0 (mark_at m q)
unfolding mark_at
mark-no m q e = sym (le-ltb 0 (mark_at m q) (omega (arith, if=-no {A = ℕ} (q % 8) 0 (bit_at m (q / 8)) 0 e)))
