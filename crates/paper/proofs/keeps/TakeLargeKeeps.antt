-- A large block taken, from a bin of its size, as the low part of a larger one, or from the remainder's low end, keeps the state well formed.
use mathlib.Core.List.{List, [], ◌++◌, ◌∷◌}
use mathlib.Core.Logic.{◌≢◌}
use mathlib.Core.Path.{◌≡◌, ap}
use Prim.Native.Nat.{◌%◌, ◌+◌, ◌-◌, ◌≤◌, ℕ}
use native.Mathlib.Omega.{arith}
use Rattle.paper.proofs.bins.BinLaws.{count-rebin-enter, count-rebin-leave, used-counts-where-first}
use Rattle.paper.proofs.keeps.Kept.{Kept, free_at-runs, kept_by, kept_low, sized-high, sized-low, sized-rest}
use Rattle.paper.proofs.bins.Listed.{free_at-append}
use Rattle.paper.proofs.runs.LowHigh.{low-append, low-cut, low-hold}
use Rattle.paper.proofs.runs.Places.{used-in-low}
use Rattle.paper.proofs.runs.Replaced.{replaced-by, replaced-free_at, replaced-sized, replaced-total}
use Rattle.paper.proofs.runs.Walk.{in-sized, sized-append, total-append}
use Rattle.paper.specs.Bins.{enter, first, leave, rebin, used}
use Rattle.paper.specs.Blocks.{Block, State, block, free, held, total}
use Rattle.paper.specs.Granting.{E, cut_low, take_part, take_whole}
use Rattle.paper.specs.Layout.{blocks_at, large}
use Rattle.paper.specs.Runs.{from, replace, under}
use Rattle.paper.specs.Sound.{Low, WellFormed, free_at}

module _ (s : State) (W : WellFormed s) (b : ℕ) (is-large : large ≤ b) (eights : b % 8 ≡ 0) where
  pub take_whole-keeps : first (s.bins b) ≢ 0 → Kept s (take_whole s b).state
  unfolding take_whole free_at
  take_whole-keeps n =
      let q = used (s.bins b) in
      let i = used-in-low s W b is-large n in
      kept_low s W (replace s.low blocks_at q (q + b) (block b held ∷ [])) (rebin s.bins b (leave q (s.bins b)))
      (replaced-by s.low blocks_at 1 q (block b free) i.0 (sized-low s W) i.1 Low (block b held ∷ [])
      (low-hold (under s.low blocks_at q) b b (from s.low blocks_at (q + b)) is-large) W.low_ok)
      (replaced-sized s.low blocks_at 1 q (block b free) i.0 (sized-low s W) i.1 (block b held ∷ []) ((omega arith, eights), tt))
      (replaced-total s.low blocks_at 1 q (block b free) i.0 (sized-low s W) i.1 (block b held ∷ []) (omega arith))
      (λ y x. omega (
        arith,
        count-rebin-leave s.bins b q y x (used-counts-where-first (s.bins b) n),
        replaced-free_at s.low blocks_at 1 q (block b free) i.0 (sized-low s W) i.1 (block b held ∷ []) (omega arith) y x,
      ))

  pub take_part-keeps : (z : ℕ) → b + large ≤ z → first (s.bins z) ≢ 0 → Kept s (take_part s z b).state
  unfolding take_part free_at
  take_part-keeps z l n =
      let q = used (s.bins z) in
      let i = used-in-low s W z (omega arith) n in
      let sz = in-sized s.low blocks_at 1 q (block z free) i.0 (sized-low s W) i.1 in
      let new : List Block = block b held ∷ block (z - b) free ∷ [] in
      let bins : ℕ → List ℕ = rebin s.bins z (leave q (s.bins z)) in
      kept_low s W (replace s.low blocks_at q (q + z) new) (rebin bins (z - b) (enter (q + b) (bins (z - b))))
      (replaced-by s.low blocks_at 1 q (block z free) i.0 (sized-low s W) i.1 Low new
      (low-cut (under s.low blocks_at q) z b (z - b) (from s.low blocks_at (q + z)) is-large (omega arith)) W.low_ok)
      (replaced-sized s.low blocks_at 1 q (block z free) i.0 (sized-low s W) i.1 new
      ((omega arith, eights), ((omega arith, omega (arith, sz.1)), tt)))
      (replaced-total s.low blocks_at 1 q (block z free) i.0 (sized-low s W) i.1 new (omega arith))
      (λ y x. omega (
        arith,
        count-rebin-enter bins (z - b) (q + b) y x,
        count-rebin-leave s.bins z q y x (used-counts-where-first (s.bins z) n),
        replaced-free_at s.low blocks_at 1 q (block z free) i.0 (sized-low s W) i.1 new (omega arith) y x,
      ))

  pub cut_low-keeps : b + 8 ≤ s.rest → Kept s (cut_low s b).state
  unfolding cut_low free_at
  cut_low-keeps l =
      let t = total-append s.low (block b held ∷ []) in
      kept_by s W (s.low ++ block b held ∷ []) (s.rest - b) s.high s.bins
      (low-append s.low (block b held ∷ []) W.low_ok (is-large, tt)) W.high_ok
      (sized-append s.low (block b held ∷ []) (sized-low s W) ((omega arith, eights), tt))
      (omega (arith, sized-rest s W)) (sized-high s W) (omega arith)
      (λ y x. let e : 168 + total (s.low ++ block b held ∷ []) + (s.rest - b) ≡ E s = omega arith in
      omega (
        arith,
        W.listed y x,
        free_at-runs s y x,
        free_at-append s.low (block b held ∷ []) blocks_at y x,
        ap (λ (k : ℕ). free_at s.high k y x) e,
      ))
      (λ g. g)
