-- The bytes of a word: what is written at each, and the word that they make.
use mathlib.Core.List.{List}
use mathlib.Core.Logic.{inl}
use mathlib.Core.Path.{◌∙◌, ◌≡◌, ap, sym}
use Prim.Native.Nat.{◌%◌, ◌+◌, ◌/◌, ◌<◌, ◌^◌, ◌≤◌, suc, zero, ℕ}
use native.Mathlib.Nat.{add-zero, div-div-eq-div-mul, div-one, pow-succ', pow-zero}
use native.Mathlib.Omega.{arith}
use lib.ListN.{get_or, length, length-set, set}
use lib.Seq.{get_or-set_same}
use Rattle.paper.specs.Sheet.{octet}
use Rattle.words.proofs.Digits.{get_or-digits}
use Rattle.words.proofs.Laws.{put_in, word_in}
use Rattle.words.specs.Words.{Bytes, digits_at, put_at, put_digits, word_at}

-- ---- of digits, wherever they stand

get_or-digits-in : (w : ℕ) (bs : List ℕ) (at v i j : ℕ) → at + j ≡ i → j < w → at + w ≤ length bs → get_or (put_digits w bs at v) i 0 ≡ octet v j
unfolding put_digits
get_or-digits-in zero bs at v i j e h l = omega arith
get_or-digits-in (suc w) bs at v i zero e h l =
    get_or-digits w (set bs at (v % 256)) (at + 1) (v / 256) i (inl (omega arith))
    ∙ ap (λ (k : ℕ). get_or (set bs at (v % 256)) k 0) (omega arith) ∙ get_or-set_same bs at (v % 256) 0 (omega arith)
    ∙ ap (λ (k : ℕ). k % 256) (sym (div-one v))
get_or-digits-in (suc w) bs at v i (suc j) e h l =
    get_or-digits-in w (set bs at (v % 256)) (at + 1) (v / 256) i j (omega arith) (omega arith) (omega (arith, length-set bs at (v % 256)))
    ∙ ap (λ (k : ℕ). k % 256) (div-div-eq-div-mul v 256 (256 ^ j) ∙ ap (λ (k : ℕ). v / k) (sym (pow-succ' 256 j)))

-- the next byte, as a word's recursion names it
next_at : (a j : ℕ) → a + 1 + j ≡ a + suc j
next_at a j = omega arith

digits-octets : (w : ℕ) (bs : List ℕ) (at v : ℕ) → v < 256 ^ w → ((j : ℕ) → j < w → get_or bs (at + j) 0 ≡ octet v j) → digits_at w bs at ≡ v
unfolding digits_at
digits-octets zero bs at v h g = omega (arith, pow-zero 256)
digits-octets (suc w) bs at v h g =
    let low : get_or bs at 0 ≡ v % 256 =
    ap (λ (k : ℕ). get_or bs k 0) (sym (add-zero at)) ∙ g 0 (omega arith) ∙ ap (λ (k : ℕ). k % 256) (div-one v) in
    let small : v / 256 < 256 ^ w = omega (arith, pow-succ' 256 w) in
    let ih : digits_at w bs (at + 1) ≡ v / 256 =
    digits-octets w bs (at + 1) (v / 256) small
    (λ j l. ap (λ (k : ℕ). get_or bs k 0) (next_at at j) ∙ g (suc j) (omega arith)
    ∙ ap (λ (k : ℕ). k % 256) (ap (λ (k : ℕ). v / k) (pow-succ' 256 j) ∙ sym (div-div-eq-div-mul v 256 (256 ^ j)))) in
    omega arith

octet-digits : (w : ℕ) (bs : List ℕ) (at j : ℕ) → Bytes bs → j < w → octet (digits_at w bs at) j ≡ get_or bs (at + j) 0
unfolding digits_at
octet-digits zero bs at j h l = absurd (omega arith)
octet-digits (suc w) bs at zero h l =
    ap (λ (k : ℕ). k % 256) (div-one _) ∙ omega (arith, h at) ∙ ap (λ (k : ℕ). get_or bs k 0) (sym (add-zero at))
octet-digits (suc w) bs at (suc j) h l =
    ap (λ (k : ℕ). k % 256)
    (ap (λ (k : ℕ). digits_at (suc w) bs at / k) (pow-succ' 256 j) ∙ sym (div-div-eq-div-mul (digits_at (suc w) bs at) 256 (256 ^ j))
    ∙ ap (λ (k : ℕ). k / 256 ^ j) (omega (arith, h at)))
    ∙ octet-digits w bs (at + 1) j h (omega arith) ∙ ap (λ (k : ℕ). get_or bs k 0) (next_at at j)

-- ---- the same of a word in the list

pub get_or-put-in : (w : ℕ) (bs : List ℕ) (at v i j : ℕ) → at + j ≡ i → j < w → at + w ≤ length bs → get_or (put_at w bs at v) i 0 ≡ octet v j
get_or-put-in w bs at v i j e h l = ap (λ (t : List ℕ). get_or t i 0) (put_in w bs at v l) ∙ get_or-digits-in w bs at v i j e h l

pub word-octets : (w : ℕ) (bs : List ℕ) (at v : ℕ) → at + w ≤ length bs → v < 256 ^ w → ((j : ℕ) → j < w → get_or bs (at + j) 0 ≡ octet v j)
    → word_at w bs at ≡ v
word-octets w bs at v l h g = word_in w bs at l ∙ digits-octets w bs at v h g

pub octet-word : (w : ℕ) (bs : List ℕ) (at j : ℕ) → at + w ≤ length bs → Bytes bs → j < w → octet (word_at w bs at) j ≡ get_or bs (at + j) 0
octet-word w bs at j l h k = ap (λ (v : ℕ). octet v j) (word_in w bs at l) ∙ octet-digits w bs at j h k
