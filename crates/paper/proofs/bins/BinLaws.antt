-- How often a start stands in a list that another entered or left, the block that is used, and bins with another list for one size:
-- each law follows the list's own recursion.
use mathlib.Core.List.{List, [], ◌∷◌}
use mathlib.Core.Logic.{◌≢◌}
use mathlib.Core.Path.{◌∙◌, ◌≡◌, ap, refl, sym}
use Prim.Native.Nat.{◌+◌, ◌≤◌, suc, ℕ}
use native.Mathlib.Omega.{arith}
use Rattle.paper.proofs.bins.Bins.{count-cons, count-here, count-nil, count-there}
use Rattle.paper.specs.Bins.{count, enter, first, leave, rebin, used}
use Rattle.words.specs.Choice.{by=, if=, if=-yes, ifs}

-- ---- entering
pub count-enter : (q x : ℕ) (l : List ℕ) → count x (enter q l) ≡ if= q x 1 0 + count x l
unfolding enter
count-enter q x [] = count-cons x q []
count-enter q x (y ∷ l) = omega (arith, count-cons x y (q ∷ l), count-cons x q l, count-cons x y l)

pub count-enter-self : (q : ℕ) (l : List ℕ) → count q (enter q l) ≡ suc (count q l)
count-enter-self q l = omega (arith, count-enter q q l, if=-yes {A = ℕ} q q 1 0 refl)

-- ---- leaving
pub count-leave : (q x : ℕ) (l : List ℕ) → 1 ≤ count q l → if= q x 1 0 + count x (leave q l) ≡ count x l
unfolding leave
count-leave q x [] h = absurd (omega (arith, count-nil q))
count-leave q x (y ∷ l) h =
    by= y q (λ e. simp ifs (omega (arith, count-cons x y l, ap {B = ℕ} (λ (k : ℕ). if= k x 1 0) e)))
    (λ n. simp ifs (omega (arith, count-cons x y (leave q l), count-cons x y l, count-leave q x l (omega (arith, count-there y q l n)))))

-- ---- the block that is used
pub used-counts : (x : ℕ) (l : List ℕ) → 1 ≤ count (used (x ∷ l)) (x ∷ l)
unfolding used
used-counts x [] = omega (arith, count-here x [])
used-counts x (y ∷ l) = omega (arith, count-cons y x (y ∷ l), count-here y l)

pub used-counts-where-first : (l : List ℕ) → first l ≢ 0 → 1 ≤ count (used l) l
unfolding first
used-counts-where-first [] n = absurd (n refl)
used-counts-where-first (x ∷ l) n = used-counts x l

-- ---- another list for one size: a start enters a bin, and one leaves it, at each size and start
pub count-rebin-enter : (f : ℕ → List ℕ) (z q y x : ℕ) → count x (rebin f z (enter q (f z)) y) ≡ if= z y (if= q x 1 0) 0 + count x (f y)
unfolding rebin
count-rebin-enter f z q y x =
    by= y z (λ e. let e' : z ≡ y = sym e in simp ifs (count-enter q x (f z) ∙ ap (λ (k : ℕ). if= q x 1 0 + count x (f k)) e'))
    (λ n. let n' : z ≢ y = (λ k. n (sym k)) in simp ifs (omega arith))

pub count-rebin-leave : (f : ℕ → List ℕ) (z q y x : ℕ) → 1 ≤ count q (f z)
    → if= z y (if= q x 1 0) 0 + count x (rebin f z (leave q (f z)) y) ≡ count x (f y)
unfolding rebin
count-rebin-leave f z q y x h =
    by= y z (λ e. let e' : z ≡ y = sym e in simp ifs (count-leave q x (f z) h ∙ ap (λ (k : ℕ). count x (f k)) e'))
    (λ n. let n' : z ≢ y = (λ k. n (sym k)) in simp ifs (omega arith))

-- a start put at the front of its bin, and the front one taken out
pub count-rebin-front : (f : ℕ → List ℕ) (z q y x : ℕ) → count x (rebin f z (q ∷ f z) y) ≡ if= z y (if= q x 1 0) 0 + count x (f y)
unfolding rebin
count-rebin-front f z q y x =
    by= y z (λ e. let e' : z ≡ y = sym e in simp ifs (count-cons x q (f z) ∙ ap (λ (k : ℕ). if= q x 1 0 + count x (f k)) e'))
    (λ n. let n' : z ≢ y = (λ k. n (sym k)) in simp ifs (omega arith))
