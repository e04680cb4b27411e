-- The next first block on a level of the index, once over the level: where a level stops, where it goes past a bin, and where it ends.
use mathlib.Core.List.{List}
use mathlib.Core.Logic.{◌≢◌}
use mathlib.Core.Path.{◌∙◌, ◌≡◌, ap, sym}
use Prim.Native.Nat.{◌+◌, ◌-◌, ◌<◌, ◌≤◌, suc, zero, ℕ}
use native.Mathlib.Omega.{arith}
use Rattle.paper.proofs.bins.Seek.{seek-cong, seek-enough, seek-gap, seek-zero}
use Rattle.paper.proofs.steps.First.{reach-at, reach-low}
use Rattle.paper.proofs.steps.Leave.{reach-same}
use Rattle.paper.specs.Bins.{first, seek}
use Rattle.paper.specs.Governed.{above, height, reach}
use Rattle.words.specs.Choice.{by<, by=, if=-yes}

-- past zeros, and with nothing past m, it does not matter where the search begins
seek-one : (g : ℕ → ℕ) (k y : ℕ) → g y ≡ 0 → seek g (suc k) y ≡ seek g k (suc y)
unfolding seek
seek-one g k y e = if=-yes (g y) 0 _ _ e

seek-skip : (g : ℕ → ℕ) (m : ℕ) → ((w : ℕ) → m < w → g w ≡ 0) → (d k y : ℕ) → m < y + k → ((u : ℕ) → y ≤ u → u < y + d → g u ≡ 0)
    → seek g k y ≡ seek g k (y + d)
seek-skip g m top zero k y a h = ap (seek g k) (omega arith)
seek-skip g m top (suc d) k y a h =
    seek-enough g m top k (suc k) y a (omega arith) ∙ seek-one g k y (h y (omega arith) (omega arith))
    ∙ seek-skip g m top d k (suc y) (omega arith) (λ u c e. h u (omega arith) (omega arith)) ∙ ap (seek g k) (omega arith)

module _ (t n : ℕ) (b : ℕ → List ℕ) where
  -- an empty bin is on no level
  pub reach-nil : (j z : ℕ) → first (b z) ≡ 0 → reach t n b j z ≡ 0
  reach-nil j z h = by< (height t z) j (λ l. reach-low t n b j z l) (λ l. reach-at t n b j z l ∙ h)

  pub above-nil : (j y : ℕ) → ((u : ℕ) → y < u → first (b u) ≡ 0) → above t n b j y ≡ 0
  unfolding above
  above-nil j y h = seek-zero (reach t n b j) n (suc y) (λ w l. reach-nil j w (h w l))

  module _ (y z : ℕ) (yz : y < z) (zn : z ≤ n) (gap : (u : ℕ) → y < u → u < z → first (b u) ≡ 0) where
    -- bin z is the next one, and stands on level j
    pub above-stop : (j : ℕ) → j ≤ height t z → first (b z) ≢ 0 → above t n b j y ≡ first (b z)
    unfolding above
    above-stop j l nz =
        seek-gap (reach t n b j) z (λ e. nz (sym (reach-at t n b j z l) ∙ e)) n (suc y) (omega arith) (omega arith) (λ u c e. reach-nil j u (gap u c e))
        ∙ reach-at t n b j z l

    -- bin z does not reach level j
    pub above-skip : ((u : ℕ) → n < u → first (b u) ≡ 0) → (j : ℕ) → height t z < j → above t n b j y ≡ above t n b j z
    unfolding above
    above-skip out j l =
        seek-skip (reach t n b j) n (λ w m. reach-nil j w (out w m)) (z - y) n (suc y) (omega arith)
        (λ u c e. by= u z (λ q. ap (reach t n b j) q ∙ reach-low t n b j z l) (λ q. reach-nil j u (gap u c (omega arith))))
        ∙ ap (seek (reach t n b j) n) (omega arith)

-- the same bins past y: the same next one
pub above-cong : (t n : ℕ) (b b' : ℕ → List ℕ) (j y : ℕ) → ((u : ℕ) → y < u → b u ≡ b' u) → above t n b j y ≡ above t n b' j y
unfolding above
above-cong t n b b' j y h = seek-cong _ _ n (suc y) (λ u l. reach-same t n b' b j u (ap first (h u l)))
