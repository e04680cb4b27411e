-- The laws of digits in bytes, each once over the width, by induction on it. They hold wherever the digits stand.
use Rattle.std.proofs.Common.{◌≡◌, ℕ, zero, suc, ◌+◌, ◌*◌, ◌/◌, ◌%◌, ◌^◌, ◌<◌, ◌≤◌, ◌≢◌, ◌⊎◌, List, [], ◌∷◌, length, get_or, set, sym, refl, ap, ◌∙◌, ap₂, inl, inr, ⊎_elim, add-zero, add_assoc, mul_assoc, mul_comm, add_comm, suc-add, one-mul, pow-suc, zero-add, mul-add, div-one, add-one, arith, length-set, get_or-set_other, get_or-set_same, set-set}
use native.Mathlib.Nat.{div-div-eq-div-mul, pow-succ', pow-zero, mod-one, one-le-pow}
use lib.ListN.{get_or-eq_default}
use lib.Seq.{set_out, set_comm, set-get_or}
use lib.Arith.{mod-mul}
use Rattle.words.specs.Words.{digits_at, put_digits, Bytes}

pub digits-length : (w : ℕ) (bs : List ℕ) (at v : ℕ) → length (put_digits w bs at v) ≡ length bs
unfolding put_digits
digits-length zero bs at v = refl
digits-length (suc w) bs at v = digits-length w (set bs at (v % 256)) (at + 1) (v / 256) ∙ length-set bs at (v % 256)

-- a byte outside what is written
pub get_or-digits : (w : ℕ) (bs : List ℕ) (at v i : ℕ) → (i < at) ⊎ (at + w ≤ i) → get_or (put_digits w bs at v) i 0 ≡ get_or bs i 0
unfolding put_digits
get_or-digits zero bs at v i h = refl
get_or-digits (suc w) bs at v i h =
    get_or-digits w (set bs at (v % 256)) (at + 1) (v / 256) i (⊎_elim (λ l. inl (omega arith)) (λ g. inr (omega arith)) h)
    ∙ get_or-set_other bs at i (v % 256) 0 (⊎_elim {C = i ≢ at} (λ l. omega arith) (λ g. omega arith) h)

-- a byte stored outside what is written
pub set-digits : (w : ℕ) (bs : List ℕ) (at v i x : ℕ) → (i < at) ⊎ (at + w ≤ i) → set (put_digits w bs at v) i x ≡ put_digits w (set bs i x) at v
unfolding put_digits
set-digits zero bs at v i x h = refl
set-digits (suc w) bs at v i x h =
    set-digits w (set bs at (v % 256)) (at + 1) (v / 256) i x (⊎_elim (λ l. inl (omega arith)) (λ g. inr (omega arith)) h)
    ∙ ap (λ (l : List ℕ). put_digits w l (at + 1) (v / 256))
    (set_comm bs at i (v % 256) x (⊎_elim {C = at ≢ i} (λ l. omega arith) (λ g. omega arith) h))

-- they are less than 256 ^ w
pub digits_lt : (w : ℕ) (bs : List ℕ) (at : ℕ) → Bytes bs → digits_at w bs at < 256 ^ w
unfolding digits_at
digits_lt zero bs at h = omega (arith, pow-zero 256)
digits_lt (suc w) bs at h = omega (arith, pow-suc 256 w, digits_lt w bs (at + 1) h, h at)

-- read after write, the same place
pub digits-put : (w : ℕ) (bs : List ℕ) (at v : ℕ) → at + w ≤ length bs → digits_at w (put_digits w bs at v) at ≡ v % 256 ^ w
unfolding digits_at put_digits
digits-put zero bs at v h = rw pow-zero (sym (mod-one v))
digits-put (suc w) bs at v h =
    let b : get_or (put_digits w (set bs at (v % 256)) (at + 1) (v / 256)) at 0 ≡ v % 256 =
    get_or-digits w (set bs at (v % 256)) (at + 1) (v / 256) at (inl (omega arith)) ∙ get_or-set_same bs at (v % 256) 0 (omega arith) in
    let r : digits_at w (put_digits w (set bs at (v % 256)) (at + 1) (v / 256)) (at + 1) ≡ v / 256 % 256 ^ w =
    digits-put w (set bs at (v % 256)) (at + 1) (v / 256) (rw length-set (omega arith)) in
    let m : v % 256 ^ suc w ≡ v / 256 % 256 ^ w * 256 + v % 256 =
    ap (λ (k : ℕ). v % k) (pow-suc 256 w) ∙ mod-mul v (one-le-pow w 256 (omega arith)) (omega arith) in
    rw (b, r) (omega (arith, m))

-- read after write, apart
pub digits-apart : (w : ℕ) (bs : List ℕ) (at u b v : ℕ) → (at + w ≤ b) ⊎ (b + u ≤ at) → digits_at w (put_digits u bs b v) at ≡ digits_at w bs at
unfolding digits_at
digits-apart zero bs at u b v h = refl
digits-apart (suc w) bs at u b v h =
    ap₂ (λ (x y : ℕ). x + 256 * y)
    (get_or-digits u bs b v at (⊎_elim (λ l. inl (omega arith)) (λ g. inr (omega arith)) h))
    (digits-apart w bs (at + 1) u b v (⊎_elim (λ l. inl (omega arith)) (λ g. inr (omega arith)) h))

-- two writes apart
pub digits-comm : (w : ℕ) (bs : List ℕ) (at v u b x : ℕ) → (at + w ≤ b) ⊎ (b + u ≤ at) → put_digits w (put_digits u bs b x) at v ≡ put_digits u (put_digits w bs at v) b x
unfolding put_digits
digits-comm zero bs at v u b x h = refl
digits-comm (suc w) bs at v u b x h =
    ap (λ (l : List ℕ). put_digits w l (at + 1) (v / 256))
    (set-digits u bs b x at (v % 256) (⊎_elim (λ l. inl (omega arith)) (λ g. inr (omega arith)) h))
    ∙ digits-comm w (set bs at (v % 256)) (at + 1) (v / 256) u b x (⊎_elim (λ l. inl (omega arith)) (λ g. inr (omega arith)) h)

-- two writes at one place
pub digits-twice : (w : ℕ) (bs : List ℕ) (at u v : ℕ) → put_digits w (put_digits w bs at u) at v ≡ put_digits w bs at v
unfolding put_digits
digits-twice zero bs at u v = refl
digits-twice (suc w) bs at u v =
    ap (λ (l : List ℕ). put_digits w l (at + 1) (v / 256))
    (set-digits w (set bs at (u % 256)) (at + 1) (u / 256) at (v % 256) (inl (omega arith))
    ∙ ap (λ (l : List ℕ). put_digits w l (at + 1) (u / 256)) (set-set bs at (u % 256) (v % 256)))
    ∙ digits-twice w (set bs at (v % 256)) (at + 1) (u / 256) (v / 256)

-- a write of what is there
pub digits-back : (w : ℕ) (bs : List ℕ) (at : ℕ) → Bytes bs → put_digits w bs at (digits_at w bs at) ≡ bs
unfolding put_digits digits_at
digits-back zero bs at h = refl
digits-back (suc w) bs at h =
    let m : (get_or bs at 0 + 256 * digits_at w bs (at + 1)) % 256 ≡ get_or bs at 0 = omega (arith, h at) in
    let d : (get_or bs at 0 + 256 * digits_at w bs (at + 1)) / 256 ≡ digits_at w bs (at + 1) = omega (arith, h at) in
    rw (m, d, set-get_or bs at 0) (digits-back w bs (at + 1) h)

-- past the end
pub digits-out : (w : ℕ) (bs : List ℕ) (at : ℕ) → length bs ≤ at → digits_at w bs at ≡ 0
unfolding digits_at
digits-out zero bs at h = refl
digits-out (suc w) bs at h = omega (arith, get_or-eq_default bs 0 h, digits-out w bs (at + 1) (omega arith))

pub digits-none : (w : ℕ) (bs : List ℕ) (at v : ℕ) → length bs ≤ at → put_digits w bs at v ≡ bs
unfolding put_digits
digits-none zero bs at v h = refl
digits-none (suc w) bs at v h = rw (set_out bs at (v % 256) h) (digits-none w bs (at + 1) (v / 256) (omega arith))

-- a write leaves bytes
pub set-bytes : (bs : List ℕ) (at v : ℕ) → Bytes bs → v < 256 → Bytes (set bs at v)
set-bytes [] at v h l i = h i
set-bytes (x ∷ bs) zero v h l zero = l
set-bytes (x ∷ bs) zero v h l (suc i) = h (suc i)
set-bytes (x ∷ bs) (suc at) v h l zero = h 0
set-bytes (x ∷ bs) (suc at) v h l (suc i) = set-bytes bs at v (λ k. h (suc k)) l i

pub digits-bytes : (w : ℕ) (bs : List ℕ) (at v : ℕ) → Bytes bs → Bytes (put_digits w bs at v)
unfolding put_digits
digits-bytes zero bs at v h = h
digits-bytes (suc w) bs at v h = digits-bytes w (set bs at (v % 256)) (at + 1) (v / 256) (set-bytes bs at (v % 256) h (omega arith))

-- in two parts
pub digits-add : (a b : ℕ) (bs : List ℕ) (at : ℕ) → digits_at (a + b) bs at ≡ digits_at a bs at + 256 ^ a * digits_at b bs (at + a)
unfolding digits_at
digits-add zero b bs at = simp (zero-add, pow-zero, one-mul, add-zero)
digits-add (suc a) b bs at =
    rw (suc-add a b, digits-add a b bs (at + 1), pow-suc 256 a)
    (simp (mul-add, add_assoc, add_comm 1 a, ← mul_assoc, mul_comm 256 (256 ^ a), ← add-one))

pub digits-split : (a b : ℕ) (bs : List ℕ) (at v : ℕ) → put_digits (a + b) bs at v ≡ put_digits b (put_digits a bs at v) (at + a) (v / 256 ^ a)
unfolding put_digits
digits-split zero b bs at v = simp (zero-add, pow-zero, div-one, add-zero)
digits-split (suc a) b bs at v =
    rw (suc-add a b, digits-split a b (set bs at (v % 256)) (at + 1) (v / 256), div-div-eq-div-mul v 256 (256 ^ a), pow-succ' 256 a)
    (ap (λ (k : ℕ). put_digits b (put_digits a (set bs at (v % 256)) (at + 1) (v / 256)) k (v / (256 * 256 ^ a))) (omega arith))

-- only the low digits are written
pub digits_mod : (w : ℕ) (bs : List ℕ) (at v : ℕ) → put_digits w bs at (v % 256 ^ w) ≡ put_digits w bs at v
unfolding put_digits
digits_mod zero bs at v = refl
digits_mod (suc w) bs at v =
    let m : v % 256 ^ suc w ≡ v / 256 % 256 ^ w * 256 + v % 256 =
    ap (λ (k : ℕ). v % k) (pow-suc 256 w) ∙ mod-mul v (one-le-pow w 256 (omega arith)) (omega arith) in
    let lo : v % 256 ^ suc w % 256 ≡ v % 256 = omega (arith, m) in
    let hi : v % 256 ^ suc w / 256 ≡ v / 256 % 256 ^ w = omega (arith, m) in
    rw (lo, hi) (digits_mod w (set bs at (v % 256)) (at + 1) (v / 256))
