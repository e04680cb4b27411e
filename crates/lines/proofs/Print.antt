-- A line is put piece by piece: its head, each number after a space, the line's end; and how long it can be.
use mathlib.Core.Path.{◌≡◌}
use mathlib.Core.List.{List, [], ◌∷◌}
use Prim.Native.Nat.{ℕ, ◌+◌, ◌*◌, ◌≤◌, ◌<◌}
use native.Mathlib.Omega.{arith}
use lib.ListN.{length, length-append, get_or, drop}
use Rattle.std.proofs.lemmas.List.{drop_more, drop_all}
use Rattle.text.specs.declared.Page.{Page as Lent}
use Rattle.text.specs.Lent.{Puts}
use Rattle.text.specs.Numeral.{numeral}
use Rattle.text.proofs.Putting.{puts-append}
use Rattle.text.proofs.Digits.{numeral-length}
use Rattle.lines.specs.Lines.{space, newline, begin_of, rest_of, line_of}
use Rattle.lines.specs.Printed.{Printed}

-- ---- the length

-- each of them is a 32-bit number
abbrev pub All32 : List ℕ → Type 0
All32 [] = Unit {0}
All32 (v ∷ vs) = (v < 4294967296) × All32 vs

rest-more-length : (v : ℕ) (vs : List ℕ) → length (rest_of (v ∷ vs)) ≡ 1 + length (numeral v) + length (rest_of vs)
unfolding rest_of
rest-more-length v vs = simp length-append (omega arith)

rest-length : (vs : List ℕ) → All32 vs → length (rest_of vs) ≤ 1 + 11 * length vs
unfolding rest_of
rest-length [] a = omega arith
rest-length (v ∷ vs) a =
    omega (arith, rest-more-length v vs, numeral-length 9 v (omega (arith, a.0)), rest-length vs a.1)

line-length : (nth letter : ℕ) (numbers : List ℕ) → length (line_of nth letter numbers) ≡ length (numeral nth) + 2 + length (rest_of numbers)
unfolding line_of begin_of
line-length nth letter numbers = simp length-append (omega arith)

pub line-short : (nth letter refusal : ℕ) (values : List ℕ) → nth < 4294967296 → refusal < 256 → All32 values → length values ≤ 7
    → length (line_of nth letter (refusal ∷ values)) ≤ 96
line-short nth letter refusal values h i a l =
    omega (
      arith,
      line-length nth letter (refusal ∷ values),
      rest-more-length refusal values,
      rest-length values a,
      numeral-length 9 nth (omega arith),
      numeral-length 2 refusal (omega arith),
    )

-- ---- the page

-- a number more, at the head of those that are left
pub rest-more : {p q r last : Lent} (numbers : List ℕ) (i : ℕ) → i < length numbers → Puts p (space ∷ []) q → Puts q (numeral (get_or numbers i 0)) r
    → Puts r (rest_of (drop (i + 1) numbers)) last
    → Puts p (rest_of (drop i numbers)) last
unfolding rest_of
rest-more numbers i h a b e = rw (drop_more numbers i 0 h) (puts-append (puts-append a b) e)

-- none left
pub rest-none : {p last : Lent} (numbers : List ℕ) (i : ℕ) → length numbers ≤ i → Puts p (newline ∷ []) last → Puts p (rest_of (drop i numbers)) last
unfolding rest_of
rest-none numbers i h a = rw (drop_all i numbers h) a

-- a line is its head and the rest
pub line-printed : {p q r : Lent} (nth letter refusal : ℕ) (values : List ℕ) → Puts p (begin_of nth letter) q → Puts q (rest_of (refusal ∷ values)) r
    → nth < 4294967296 → refusal < 256 → All32 values → length values ≤ 7 → Printed p (line_of nth letter (refusal ∷ values)) r
unfolding line_of
line-printed nth letter refusal values a b h i l m = record { same = puts-append a b; short = line-short nth letter refusal values h i l m }
