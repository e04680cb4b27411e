-- The class of a payload is the least that holds it: the search from class k on is unfolded one class at a time. With sizes that rise, the
-- class is known from the two sizes that a payload stands between.
use mathlib.Core.Path.{◌≡◌}
use mathlib.Core.Logic.{⊎_elim}
use Prim.Native.Nat.{ℕ, zero, suc, ◌+◌, ◌≤◌, ◌<◌}
use native.Mathlib.Decide.{dec_le}
use native.Mathlib.Nat.{eq-or-lt_of_le, le_refl, lt_of_not-le}
use native.Mathlib.Numerals.{add-one}
use native.Mathlib.Omega.{arith}
use borrow.Author.Tests.{le-leb, lt-leb}
use lib.ListN.{get_or}
use Rattle.classes.specs.Class.{size, least_from, class_of}
use Rattle.classes.specs.Sizes.{sizes}
use Rattle.classes.proofs.Sizes.{size-at-most, size-rises, table-size}

here : (left k p : ℕ) → p ≤ size k → least_from (suc left) k p ≡ k
unfolding least_from
here left k p h = rw (le-leb p (size k) h)

further : (left k p : ℕ) → size k < p → least_from (suc left) k p ≡ least_from left (k + 1) p
unfolding least_from
further left k p h = rw (lt-leb p (size k) h)

-- by whether class k holds the payload
by-class : {A : Type 0} (k p : ℕ) → (p ≤ size k → A) → (size k < p → A) → A
by-class {A} k p f g = go (dec_le p (size k))
  where
    go : Dec (p ≤ size k) → A
    go (yes h) = f h
    go (no h) = g (omega arith)

least-within : (left k p : ℕ) → least_from left k p ≤ k + left
unfolding least_from
least-within zero k p = omega arith
least-within (suc left) k p =
    by-class k p (λ h. omega (arith, here left k p h)) (λ h. omega (arith, further left k p h, least-within left (k + 1) p))

least-holds : (left k p : ℕ) → least_from left k p < k + left → p ≤ size (least_from left k p)
unfolding least_from
least-holds zero k p l = absurd (omega arith)
least-holds (suc left) k p l =
    by-class k p (λ h. rw (here left k p h) h)
    (λ h. rw (further left k p h) (least-holds left (k + 1) p (omega (arith, further left k p h))))

below-least : (left k p j : ℕ) → k ≤ j → j < least_from left k p → size j < p
unfolding least_from
below-least zero k p j g l = absurd (omega arith)
below-least (suc left) k p j g l =
    by-class k p (λ h. absurd (omega (arith, here left k p h)))
    (λ h. ⊎_elim (λ e. rw (← e) h) (λ m. below-least left (k + 1) p j (omega arith) (omega (arith, further left k p h))) (eq-or-lt_of_le g))

-- ---- the class of a payload

-- the class holds the payload
pub class-holds : (p : ℕ) → class_of p < 53 → p ≤ size (class_of p)
unfolding class_of
class-holds p l = least-holds 53 0 p l

-- every smaller class is too small
pub below-class : (p j : ℕ) → j < class_of p → size j < p
unfolding class_of
below-class p j l = below-least 53 0 p j (omega arith) l

at-most-53 : (p : ℕ) → class_of p ≤ 53
unfolding class_of
at-most-53 p = least-within 53 0 p

-- a payload of at most 65,536 bytes has a class
pub class-below-53 : (p : ℕ) → p ≤ 65536 → class_of p < 53
unfolding size
class-below-53 p h = ⊎_elim (λ e. absurd (omega (arith, below-class p 52 (omega arith)))) (λ l. l) (eq-or-lt_of_le (at-most-53 p))

-- a greater one has none
pub no-class : (p : ℕ) → 65536 < p → class_of p ≡ 53
unfolding size
no-class p h =
    ⊎_elim (λ e. e) (λ l. absurd (omega (arith, class-holds p l, size-at-most (class_of p) 52 (omega arith)))) (eq-or-lt_of_le (at-most-53 p))

-- up to 8 bytes it is class 0
pub first-class : (p : ℕ) → p ≤ 8 → class_of p ≡ 0
unfolding class_of size
first-class p h = here 52 0 p h

-- between two sizes the class is the larger one's
pub class-between : (k p : ℕ) → k < 53 → size k < p → p ≤ size (k + 1) → class_of p ≡ k + 1
class-between k p l small enough =
    let above : k < class_of p = lt_of_not-le (λ c. omega (arith, class-holds p (omega arith), size-at-most (class_of p) k c)) in
    let within : class_of p < k + 2 = lt_of_not-le (λ c. omega (arith, below-class p (k + 1) (omega arith))) in
    omega arith

-- ---- the table

at_size : (k : ℕ) → k < 53 → class_of (size k) ≡ k
unfolding size
at_size zero l = first-class (size 0) (le_refl 8)
at_size (suc j) l = rw (← add-one j) (class-between j (size (j + 1)) (omega arith) (size-rises j) (le_refl (size (j + 1))))

-- each entry is the greatest payload of its class
pub table-class : (k : ℕ) → k < 53 → (class_of (get_or sizes k 0) ≡ k) × (class_of (get_or sizes k 0 + 1) ≡ k + 1)
table-class k l = rw (table-size k l) (at_size k l, class-between k (size k + 1) l (omega arith) (omega (arith, size-rises k)))
