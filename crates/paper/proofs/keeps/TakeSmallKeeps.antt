-- A small block taken, from its bin or from the remainder's high end, keeps the state well formed.
use mathlib.Core.List.{[], ◌∷◌}
use mathlib.Core.Logic.{◌≢◌}
use mathlib.Core.Path.{◌≡◌, ap, refl}
use Prim.Native.Nat.{◌%◌, ◌+◌, ◌-◌, ◌<◌, ◌≤◌, ℕ}
use native.Mathlib.Omega.{arith}
use Rattle.paper.proofs.bins.BinLaws.{count-rebin-leave}
use Rattle.paper.proofs.bins.Bins.{first_count}
use Rattle.paper.proofs.keeps.Kept.{Kept, free_at-runs, kept_by, kept-shaped, shaped-high, sized-high, sized-low, sized-rest}
use Rattle.paper.proofs.runs.LowHigh.{edge-hold, high-hold}
use Rattle.paper.proofs.runs.Places.{first-in-high}
use Rattle.paper.proofs.runs.Replaced.{replaced-by, replaced-free_at, replaced-sized, replaced-total}
use Rattle.paper.specs.Bins.{first, leave, rebin}
use Rattle.paper.specs.Blocks.{State, block, free, held}
use Rattle.paper.specs.Granting.{E, R, cut_high, take_first}
use Rattle.paper.specs.Layout.{large}
use Rattle.paper.specs.Runs.{from, replace, under}
use Rattle.paper.specs.Sound.{HeldFirst, High, WellFormed, free_at}

module _ (s : State) (W : WellFormed s) (b : ℕ) (small : b < large) (least : 8 ≤ b) (eights : b % 8 ≡ 0) where
  pub take_first-keeps : first (s.bins b) ≢ 0 → Kept s (take_first s b).state
  unfolding take_first free_at
  take_first-keeps n =
      let q = first (s.bins b) in
      let i = first-in-high s W b small n in
      kept-shaped s (take_first s b).state
      (shaped-high s W (replace s.high (E s) q (q + b) (block b held ∷ [])) (rebin s.bins b (leave q (s.bins b)))
      (replaced-by s.high (E s) 1 q (block b free) i.0 (sized-high s W) i.1 High (block b held ∷ [])
      (high-hold (under s.high (E s) q) b (from s.high (E s) (q + b))) W.high_ok)
      (replaced-sized s.high (E s) 1 q (block b free) i.0 (sized-high s W) i.1 (block b held ∷ []) ((least, eights), tt))
      (replaced-total s.high (E s) 1 q (block b free) i.0 (sized-high s W) i.1 (block b held ∷ []) (omega arith))
      (λ y x. omega (
        arith,
        count-rebin-leave s.bins b q y x (first_count (s.bins b) q refl n),
        replaced-free_at s.high (E s) 1 q (block b free) i.0 (sized-high s W) i.1 (block b held ∷ []) (omega arith) y x,
      )))
      (replaced-by s.high (E s) 1 q (block b free) i.0 (sized-high s W) i.1 HeldFirst (block b held ∷ [])
      (edge-hold (under s.high (E s) q) b (block b free ∷ from s.high (E s) (q + b)) (from s.high (E s) (q + b))))

  pub cut_high-keeps : b + 8 ≤ s.rest → Kept s (cut_high s b).state
  unfolding cut_high free_at
  cut_high-keeps l =
      kept_by s W s.low (s.rest - b) (block b held ∷ s.high) s.bins
      W.low_ok (omega arith, W.high_ok) (sized-low s W)
      (omega (arith, sized-rest s W)) ((least, eights), sized-high s W) (omega arith)
      (λ y x. let e : R s + (s.rest - b) + b ≡ E s = omega arith in
      omega (arith, W.listed y x, free_at-runs s y x, ap (λ (k : ℕ). free_at s.high k y x) e))
      (λ g. tt)
