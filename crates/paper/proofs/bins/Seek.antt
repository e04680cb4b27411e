-- The search for the next bin: past zeros only, and what changes when one number changes.
use mathlib.Core.Logic.{◌≢◌}
use mathlib.Core.Path.{◌∙◌, ◌≡◌, ap, refl, sym}
use Prim.Native.Nat.{◌+◌, ◌<◌, ◌≤◌, suc, zero, ℕ}
use native.Mathlib.Omega.{arith}
use Rattle.paper.specs.Bins.{seek}
use Rattle.words.specs.Choice.{by=, if=, if=-no, if=-yes, ifs}

pub seek-zero : (g : ℕ → ℕ) (k y : ℕ) → ((w : ℕ) → y ≤ w → g w ≡ 0) → seek g k y ≡ 0
unfolding seek
seek-zero g zero y h = refl
seek-zero g (suc k) y h = let e : g y ≡ 0 = h y (omega arith) in simp ifs (seek-zero g k (suc y) (λ w l. h w (omega arith)))

-- past m there is nothing, so it does not matter how far one looks
pub seek-enough : (g : ℕ → ℕ) (m : ℕ) → ((w : ℕ) → m < w → g w ≡ 0) → (k k' y : ℕ) → m < y + k → m < y + k' → seek g k y ≡ seek g k' y
unfolding seek
seek-enough g m h zero k' y a b = sym (seek-zero g k' y (λ w l. h w (omega arith)))
seek-enough g m h (suc k) zero y a b = seek-zero g (suc k) y (λ w l. h w (omega arith))
seek-enough g m h (suc k) (suc k') y a b = ap (λ (t : ℕ). if= (g y) 0 t (g y)) (seek-enough g m h k k' (suc y) (omega arith) (omega arith))

-- what is found at z is found past zeros only
pub seek_found : (g : ℕ → ℕ) (z : ℕ) → ((w : ℕ) → g w ≡ g z → w ≡ z) → g z ≢ 0 → (k y : ℕ) → seek g k y ≡ g z
    → (y ≤ z) × ((u : ℕ) → y ≤ u → u < z → g u ≡ 0)
unfolding seek
seek_found g z uniq nz zero y e = absurd (nz (sym e))
seek_found g z uniq nz (suc k) y e =
    by= (g y) 0
    (λ o. let e' : seek g k (suc y) ≡ g z = simp ifs at e in let r = seek_found g z uniq nz k (suc y) e' in
    (omega arith, λ u a b. by= u y (λ q. ap g q ∙ o) (λ n. r.1 u (omega arith) b)))
    (λ n. let e' : g y ≡ g z = simp ifs at e in let q : y ≡ z = uniq y e' in (omega arith, λ u a b. absurd (omega arith)))

-- past zeros only, what is at z is found
pub seek-gap : (g : ℕ → ℕ) (z : ℕ) → g z ≢ 0 → (k y : ℕ) → y ≤ z → z < y + k → ((u : ℕ) → y ≤ u → u < z → g u ≡ 0) → seek g k y ≡ g z
unfolding seek
seek-gap g z nz zero y a b h = absurd (omega arith)
seek-gap g z nz (suc k) y a b h =
    by= y z (λ e. let m : g y ≢ 0 = (λ o. nz (ap g (sym e) ∙ o)) in simp ifs (ap g e))
    (λ n. let o : g y ≡ 0 = h y (omega arith) (omega arith) in
    simp ifs (seek-gap g z nz k (suc y) (omega arith) (omega arith) (λ u c d. h u (omega arith) d)))

-- what a walk along the index learns: the next one, with nothing between; or that there is none
pub seek-spec : (g : ℕ → ℕ) (k y : ℕ) → seek g k y ≢ 0 → (z : ℕ) × (y ≤ z) × (g z ≡ seek g k y) × ((u : ℕ) → y ≤ u → u < z → g u ≡ 0)
unfolding seek
seek-spec g zero y n = absurd (n refl)
seek-spec g (suc k) y n =
    by= (g y) 0
    (λ e. let n' : seek g k (suc y) ≢ 0 = simp ifs at n in let r = seek-spec g k (suc y) n' in
    (r.0, omega (arith, r.1), r.2 ∙ sym (if=-yes (g y) 0 _ _ e), λ u a b. by= u y (λ f. ap g f ∙ e) (λ m. r.3 u (omega arith) b)))
    (λ m. (y, omega arith, sym (if=-no (g y) 0 _ _ m), λ u a b. absurd (omega arith)))

pub seek-none : (g : ℕ → ℕ) (k y : ℕ) → seek g k y ≡ 0 → (u : ℕ) → y ≤ u → u < y + k → g u ≡ 0
unfolding seek
seek-none g zero y e u a b = absurd (omega arith)
seek-none g (suc k) y e u a b =
    by= (g y) 0
    (λ f. let e' : seek g k (suc y) ≡ 0 = simp ifs at e in by= u y (λ q. ap g q ∙ f) (λ n. seek-none g k (suc y) e' u (omega arith) (omega arith)))
    (λ n. absurd (n (simp ifs at e)))

-- two that agree but at z
module _ (g g' : ℕ → ℕ) (z : ℕ) (agree : (y : ℕ) → y ≢ z → g' y ≡ g y) where
  pub seek-keep : g z ≢ 0 → (k y : ℕ) → seek g k y ≢ g z → seek g' k y ≡ seek g k y
  unfolding seek
  seek-keep nz zero y l = refl
  seek-keep nz (suc k) y l =
      by= y z
      (λ e. let m : g y ≢ 0 = (λ o. nz (ap g (sym e) ∙ o)) in absurd (l (simp ifs (ap g e))))
      (λ n. rw (agree y n)
      (by= (g y) 0 (λ o. simp ifs (seek-keep nz k (suc y) (λ q. l (simp ifs q)))) (λ m. simp ifs)))

  module _ (uniq : (w : ℕ) → g w ≡ g z → w ≡ z) (nz : g z ≢ 0) where
    -- what was found at z: now the new one there
    pub seek-other : g' z ≢ 0 → (k y : ℕ) → seek g k y ≡ g z → seek g' k y ≡ g' z
    unfolding seek
    seek-other nz' zero y e = absurd (nz (sym e))
    seek-other nz' (suc k) y e =
        by= y z
        (λ q. let m : g' y ≢ 0 = (λ o. nz' (ap g' (sym q) ∙ o)) in simp ifs (ap g' q))
        (λ n. by= (g y) 0
        (λ o. let o' : g' y ≡ 0 = agree y n ∙ o in let e' : seek g k (suc y) ≡ g z = simp ifs at e in simp ifs (seek-other nz' k (suc y) e'))
        (λ m. absurd (n (uniq y (simp ifs at e)))))

    -- or, if there is none any more, what is found past z
    pub seek-past : (m n : ℕ) → ((w : ℕ) → m < w → g' w ≡ 0) → m < suc z + n → g' z ≡ 0
        → (k y : ℕ) → m < y + k → seek g k y ≡ g z → seek g' k y ≡ seek g' n (suc z)
    unfolding seek
    seek-past m n top mn z0 zero y b e = absurd (nz (sym e))
    seek-past m n top mn z0 (suc k) y b e =
        by= y z
        (λ q. let o' : g' y ≡ 0 = ap g' q ∙ z0 in simp ifs (ap (λ (t : ℕ). seek g' k (suc t)) q ∙ seek-enough g' m top k n (suc z) (omega arith) mn))
        (λ nq. by= (g y) 0
        (λ o. let o' : g' y ≡ 0 = agree y nq ∙ o in let e' : seek g k (suc y) ≡ g z = simp ifs at e in
        simp ifs (seek-past m n top mn z0 k (suc y) (omega arith) e'))
        (λ f. absurd (nq (uniq y (simp ifs at e)))))

pub seek-cong : (g g' : ℕ → ℕ) (k y : ℕ) → ((u : ℕ) → y ≤ u → g u ≡ g' u) → seek g k y ≡ seek g' k y
unfolding seek
seek-cong g g' zero y h = refl
seek-cong g g' (suc k) y h = rw (h y (omega arith), seek-cong g g' k (suc y) (λ u l. h u (omega arith)))
