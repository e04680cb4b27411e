-- The bins before a give-back: the list of one size without a start that it has once more afterwards.
use mathlib.Core.List.{List, [], ◌∷◌}
use mathlib.Core.Logic.{◌≢◌}
use mathlib.Core.Path.{◌∙◌, ◌≡◌, ap, sym}
use Prim.Native.Nat.{◌+◌, ◌<◌, ℕ}
use native.Mathlib.Omega.{arith}
use Rattle.paper.proofs.bins.Listed.{rebin-other, rebin-same}
use Rattle.paper.proofs.sheet.Within.{CountOf, FirstOf}
use Rattle.paper.specs.Bins.{count, enter, first, rebin}
use Rattle.paper.specs.Layout.{large}
use Rattle.words.specs.Choice.{by=, if=, ifs}

module _ (f : ℕ → List ℕ) (z : ℕ) (l : List ℕ) where
  -- a list put back in its place
  pub rebin-back : (m : List ℕ) → f z ≡ m → rebin (rebin f z l) z m ≡ f
  rebin-back m e = λ i y. at y i
    where
      at : (y : ℕ) → rebin (rebin f z l) z m y ≡ f y
      at y =
          by= y z (λ k. ap (rebin (rebin f z l) z m) k ∙ rebin-same (rebin f z l) z m ∙ sym e ∙ ap f (sym k))
          (λ n. rebin-other (rebin f z l) z m y n ∙ rebin-other f z l y n)

  -- one start less
  module _ (x : ℕ) (one_more : (q : ℕ) → count q (f z) ≡ if= x q 1 0 + count q l) where
    pub count-rebin-less : (y q : ℕ) → if= z y (if= x q 1 0) 0 + count q (rebin f z l y) ≡ count q (f y)
    unfolding rebin
    count-rebin-less y q =
        by= y z (λ e. let e' : z ≡ y = sym e in simp ifs (sym (one_more q) ∙ ap (λ (k : ℕ). count q (f k)) e'))
        (λ n. let n' : z ≢ y = (λ k. n (sym k)) in simp ifs (omega arith))

    pub rebin-fewer : CountOf (rebin f z l) f
    rebin-fewer y q = omega (arith, count-rebin-less y q)

-- of a small size, the large bins are the same
pub rebin-small-firsts : (f : ℕ → List ℕ) (z : ℕ) (l : List ℕ) → z < large → FirstOf (rebin f z l) f
rebin-small-firsts f z l h y q m n e = ap first (sym (rebin-other f z l y (λ k. omega arith))) ∙ e

-- of what entered, the first is the same, or there was none
entered-first : (x : ℕ) (l : List ℕ) (q : ℕ) → q ≢ 0 → first l ≡ q → first (enter x l) ≡ q
unfolding enter first
entered-first x [] q n e = absurd (n (sym e))
entered-first x (y ∷ l) q n e = e

pub rebin-entered-firsts : (f : ℕ → List ℕ) (z x : ℕ) (l : List ℕ) → f z ≡ enter x l → FirstOf (rebin f z l) f
rebin-entered-firsts f z x l i y q m n e =
    by= y z
    (λ k. ap (λ (w : ℕ). first (f w)) k ∙ ap first i
    ∙ entered-first x l q n (ap first (sym (rebin-same f z l)) ∙ ap (λ (w : ℕ). first (rebin f z l w)) (sym k) ∙ e))
    (λ k. ap first (sym (rebin-other f z l y k)) ∙ e)
