-- The laws of words in bytes, each once over the width: a word in the list is its digits, and one that is not wholly in it reads as 0 and is not
-- written.
use Rattle.std.proofs.Common.{◌≡◌, ℕ, ◌+◌, ◌*◌, ◌/◌, ◌%◌, ◌^◌, ◌<◌, ◌≤◌, ◌⊎◌, List, length, get_or, sym, ap, ◌∙◌, subst, ap₂, arith}
use native.Mathlib.Nat.{one-le-pow}
use Rattle.words.specs.Choice.{if<-yes, if<-no, by<}
use Rattle.words.specs.Words.{digits_at, put_digits, word_at, put_at, Bytes}
use Rattle.words.proofs.Digits.{digits-length, get_or-digits, digits_lt, digits-put, digits-apart, digits-comm, digits-twice, digits-back, digits-out, digits-none, digits-bytes, digits-add, digits-split, digits_mod}

-- ---- in the list or not

pub word_in : (w : ℕ) (bs : List ℕ) (at : ℕ) → at + w ≤ length bs → word_at w bs at ≡ digits_at w bs at
unfolding word_at
word_in w bs at h = if<-no (length bs) (at + w) _ _ h

pub word_over : (w : ℕ) (bs : List ℕ) (at : ℕ) → length bs < at + w → word_at w bs at ≡ 0
unfolding word_at
word_over w bs at h = if<-yes (length bs) (at + w) _ _ h

pub put_in : (w : ℕ) (bs : List ℕ) (at v : ℕ) → at + w ≤ length bs → put_at w bs at v ≡ put_digits w bs at v
unfolding put_at
put_in w bs at v h = if<-no (length bs) (at + w) _ _ h

pub put-over : (w : ℕ) (bs : List ℕ) (at v : ℕ) → length bs < at + w → put_at w bs at v ≡ bs
unfolding put_at
put-over w bs at v h = if<-yes (length bs) (at + w) _ _ h

-- ---- lengths and bytes

pub put-length : (w : ℕ) (bs : List ℕ) (at v : ℕ) → length (put_at w bs at v) ≡ length bs
put-length w bs at v =
    by< (length bs) (at + w) (λ o. ap length (put-over w bs at v o)) (λ i. ap length (put_in w bs at v i) ∙ digits-length w bs at v)

-- a byte outside what is written
pub get_or-put : (w : ℕ) (bs : List ℕ) (at v i : ℕ) → (i < at) ⊎ (at + w ≤ i) → get_or (put_at w bs at v) i 0 ≡ get_or bs i 0
get_or-put w bs at v i h =
    by< (length bs) (at + w) (λ o. ap (λ (l : List ℕ). get_or l i 0) (put-over w bs at v o))
    (λ n. ap (λ (l : List ℕ). get_or l i 0) (put_in w bs at v n) ∙ get_or-digits w bs at v i h)

-- a write leaves bytes
pub put-bytes : (w : ℕ) (bs : List ℕ) (at v : ℕ) → Bytes bs → Bytes (put_at w bs at v)
put-bytes w bs at v h =
    by< (length bs) (at + w) (λ o. subst (λ (l : List ℕ). Bytes l) (sym (put-over w bs at v o)) h)
    (λ i. subst (λ (l : List ℕ). Bytes l) (sym (put_in w bs at v i)) (digits-bytes w bs at v h))

-- a word is less than 256 ^ w
pub word_lt : (w : ℕ) (bs : List ℕ) (at : ℕ) → Bytes bs → word_at w bs at < 256 ^ w
word_lt w bs at h =
    by< (length bs) (at + w) (λ o. omega (arith, word_over w bs at o, one-le-pow w 256 (omega arith)))
    (λ i. omega (arith, word_in w bs at i, digits_lt w bs at h))

-- ---- read after write

-- the same place
pub word-put : (w : ℕ) (bs : List ℕ) (at v : ℕ) → at + w ≤ length bs → word_at w (put_at w bs at v) at ≡ v % 256 ^ w
word-put w bs at v h =
    word_in w (put_at w bs at v) at (omega (arith, put-length w bs at v)) ∙ ap (λ (l : List ℕ). digits_at w l at) (put_in w bs at v h)
    ∙ digits-put w bs at v h

-- apart
pub word-apart : (w : ℕ) (bs : List ℕ) (at u b v : ℕ) → (at + w ≤ b) ⊎ (b + u ≤ at) → word_at w (put_at u bs b v) at ≡ word_at w bs at
word-apart w bs at u b v h =
    let e = put-length u bs b v in
    by< (length bs) (at + w) (λ o. word_over w (put_at u bs b v) at (omega (arith, e)) ∙ sym (word_over w bs at o))
    (λ i. word_in w (put_at u bs b v) at (omega (arith, e)) ∙ by< (length bs) (b + u) (λ o. ap (λ (l : List ℕ). digits_at w l at) (put-over u bs b v o))
    (λ j. ap (λ (l : List ℕ). digits_at w l at) (put_in u bs b v j) ∙ digits-apart w bs at u b v h)
    ∙ sym (word_in w bs at i))

-- ---- two writes

-- apart
pub put-comm : (w : ℕ) (bs : List ℕ) (at v u b x : ℕ) → (at + w ≤ b) ⊎ (b + u ≤ at) → put_at w (put_at u bs b x) at v ≡ put_at u (put_at w bs at v) b x
put-comm w bs at v u b x h =
    let e = put-length u bs b x in
    let f = put-length w bs at v in
    by< (length bs) (at + w)
    (λ o. put-over w (put_at u bs b x) at v (omega (arith, e)) ∙ sym (ap (λ (l : List ℕ). put_at u l b x) (put-over w bs at v o)))
    (λ i. by< (length bs) (b + u)
    (λ o. ap (λ (l : List ℕ). put_at w l at v) (put-over u bs b x o) ∙ sym (put-over u (put_at w bs at v) b x (omega (arith, f))))
    (λ j. put_in w (put_at u bs b x) at v (omega (arith, e)) ∙ ap (λ (l : List ℕ). put_digits w l at v) (put_in u bs b x j)
    ∙ digits-comm w bs at v u b x h
    ∙ sym (put_in u (put_at w bs at v) b x (omega (arith, f)) ∙ ap (λ (l : List ℕ). put_digits u l b x) (put_in w bs at v i))))

-- at one place
pub put-put : (w : ℕ) (bs : List ℕ) (at u v : ℕ) → put_at w (put_at w bs at u) at v ≡ put_at w bs at v
put-put w bs at u v =
    let e = put-length w bs at u in
    by< (length bs) (at + w)
    (λ o. put-over w (put_at w bs at u) at v (omega (arith, e)) ∙ put-over w bs at u o ∙ sym (put-over w bs at v o))
    (λ i. put_in w (put_at w bs at u) at v (omega (arith, e)) ∙ ap (λ (l : List ℕ). put_digits w l at v) (put_in w bs at u i)
    ∙ digits-twice w bs at u v ∙ sym (put_in w bs at v i))

-- of what is there
pub put_word : (w : ℕ) (bs : List ℕ) (at : ℕ) → Bytes bs → put_at w bs at (word_at w bs at) ≡ bs
put_word w bs at h =
    by< (length bs) (at + w) (λ o. put-over w bs at (word_at w bs at) o)
    (λ i. put_in w bs at (word_at w bs at) i ∙ ap (put_digits w bs at) (word_in w bs at i) ∙ digits-back w bs at h)

-- only the low digits are written
pub put-mod : (w : ℕ) (bs : List ℕ) (at v : ℕ) → put_at w bs at (v % 256 ^ w) ≡ put_at w bs at v
put-mod w bs at v =
    by< (length bs) (at + w) (λ o. put-over w bs at (v % 256 ^ w) o ∙ sym (put-over w bs at v o))
    (λ i. put_in w bs at (v % 256 ^ w) i ∙ digits_mod w bs at v ∙ sym (put_in w bs at v i))

-- ---- past the end

pub word_out : (w : ℕ) (bs : List ℕ) (at : ℕ) → length bs ≤ at → word_at w bs at ≡ 0
word_out w bs at h = by< (length bs) (at + w) (λ o. word_over w bs at o) (λ i. word_in w bs at i ∙ digits-out w bs at h)

pub put-out : (w : ℕ) (bs : List ℕ) (at v : ℕ) → length bs ≤ at → put_at w bs at v ≡ bs
put-out w bs at v h = by< (length bs) (at + w) (λ o. put-over w bs at v o) (λ i. put_in w bs at v i ∙ digits-none w bs at v h)

-- ---- a word in two parts

pub word-add : (a b : ℕ) (bs : List ℕ) (at : ℕ) → at + (a + b) ≤ length bs → word_at (a + b) bs at ≡ word_at a bs at + 256 ^ a * word_at b bs (at + a)
word-add a b bs at h =
    word_in (a + b) bs at h ∙ digits-add a b bs at
    ∙ ap₂ (λ (x y : ℕ). x + 256 ^ a * y) (sym (word_in a bs at (omega arith))) (sym (word_in b bs (at + a) (omega arith)))

pub put-add : (a b : ℕ) (bs : List ℕ) (at v : ℕ) → at + (a + b) ≤ length bs
    → put_at (a + b) bs at v ≡ put_at b (put_at a bs at v) (at + a) (v / 256 ^ a)
put-add a b bs at v h =
    put_in (a + b) bs at v h ∙ digits-split a b bs at v
    ∙ sym (put_in b (put_at a bs at v) (at + a) (v / 256 ^ a) (omega (arith, put-length a bs at v))
    ∙ ap (λ (l : List ℕ). put_digits b l (at + a) (v / 256 ^ a)) (put_in a bs at v (omega arith)))

pub put-halves : (bs m n : List ℕ) (at v : ℕ) → at + 8 ≤ length bs → m ≡ put_at 4 bs at (v % 4294967296) → n ≡ put_at 4 m (at + 4) (v / 4294967296)
    → n ≡ put_at 8 bs at v
put-halves bs m n at v h p q = q ∙ rw (p, put-mod 4) (sym (put-add 4 4 bs at v h))
