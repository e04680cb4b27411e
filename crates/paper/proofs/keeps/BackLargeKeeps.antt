-- A large block given back, with the free blocks beside it, keeps the state well formed. What stands below the run and above it is as it
-- was, and the bins without the run's free blocks list just those; then the run joins the remainder, or enters its bin.
use mathlib.Core.List.{List, [], ◌++◌, ◌∷◌}
use mathlib.Core.Logic.{◌≢◌}
use mathlib.Core.Path.{◌∙◌, ◌≡◌, ap, refl, subst, sym}
use Prim.Native.Nat.{◌+◌, ◌-◌, ◌≤◌, ℕ}
use native.Mathlib.Omega.{arith}
use Rattle.paper.proofs.bins.BinLaws.{count-rebin-enter}
use Rattle.paper.proofs.runs.HeldPlaces.{HeldLow}
use Rattle.paper.proofs.keeps.Kept.{Kept, free_at-runs, kept_by, sized-high, sized-low, sized-rest}
use Rattle.paper.proofs.bins.Listed.{free_at-append}
use Rattle.paper.proofs.runs.Neighbours.{Run, count_left, gap, gap-total, run}
use Rattle.paper.proofs.runs.LowHigh.{low-append}
use Rattle.paper.proofs.keeps.Settled.{fewer, give_back_large-settles, into_bin, into_remainder, joined, joined-total, settle-enters, settle-joins, touches}
use Rattle.paper.proofs.runs.Shapes.{NotFree}
use Rattle.paper.proofs.runs.Splitting.{free_at-mid, sized-mid, sized-mid-parts, total-mid}
use Rattle.paper.proofs.runs.Walk.{sized-eight}
use Rattle.paper.specs.Bins.{count, enter, rebin}
use Rattle.paper.specs.Blocks.{Block, State, block, free, held, remainder, total}
use Rattle.paper.specs.GivingBack.{give_back_large, left, settle}
use Rattle.paper.specs.Granting.{E, R}
use Rattle.paper.specs.Layout.{blocks_at, large}
use Rattle.paper.specs.Sound.{Low, Sized, WellFormed, free_at}
use Rattle.words.specs.Choice.{by=}

free-below : (m : ℕ) (vs : List Block) → large ≤ m → Low vs → NotFree vs → total vs ≢ 0 → Low (block m free ∷ vs)
free-below m [] l k n t = absurd (t refl)
free-below m (block z held ∷ vs) l k n t = (l, k.0, k.1)
free-below m (block z remainder ∷ vs) l k n t = absurd k
free-below m (block z free ∷ vs) l k n t = absurd n

-- ---- a run from a to e, whose free blocks have left their bins

module _ (s : State) (W : WellFormed s) (us ms vs : List Block) (a e : ℕ) (bins : ℕ → List ℕ)
    (is : s.low ≡ us ++ (ms ++ vs)) (at : blocks_at + total us ≡ a) (to : a + total ms ≡ e) (big : large ≤ total ms)
    (low-us : Low us) (low-vs : Low vs) (not_free : NotFree vs)
    (listed : (y x : ℕ) → count x (bins y) ≡ free_at us blocks_at y x + (free_at vs e y x + free_at s.high (E s) y x)) where
  parts : Sized us × Sized ms × Sized vs
  parts = sized-mid-parts us ms vs (subst Sized is (sized-low s W))

  low-total : total s.low ≡ total us + (total ms + total vs)
  low-total = ap total is ∙ total-mid us ms vs

  joins-keeps : e ≡ R s → Kept s (into_remainder s bins us (total ms))
  unfolding free_at
  joins-keeps r =
      let v : vs ≡ [] = touches s (sized-low s W) us ms vs a e bins is at to r in
      let f : blocks_at + total us + (total ms + s.rest) ≡ E s = omega (arith, low-total, ap total v) in
      kept_by s W us (total ms + s.rest) s.high bins low-us W.high_ok parts.0
      (omega (arith, sized-rest s W, sized-eight ms parts.1)) (sized-high s W) (omega (arith, low-total, ap total v))
      (λ y x. omega (
        arith,
        listed y x,
        ap (λ (l : List Block). free_at l e y x) v,
        ap (λ (k : ℕ). free_at s.high k y x) f,
      ))
      (λ g. g)

  abbrev freed : List Block
  freed = us ++ block (total ms) free ∷ vs

  freed-free_at : (y x : ℕ) → free_at freed blocks_at y x
      ≡ free_at us blocks_at y x + (free_at (block (total ms) free ∷ []) (blocks_at + total us) y x + free_at vs e y x)
  freed-free_at y x = free_at-mid us (block (total ms) free ∷ []) vs blocks_at (blocks_at + total us) e y x refl (omega arith)

  enters-keeps : e ≢ R s → Kept s (into_bin s bins us (total ms) vs)
  unfolding free_at
  enters-keeps n =
      let t : total freed ≡ total s.low = omega (arith, low-total, total-mid us (block (total ms) free ∷ []) vs) in
      kept_by s W freed s.rest s.high (rebin bins (total ms) (enter (blocks_at + total us) (bins (total ms))))
      (low-append us (block (total ms) free ∷ vs) low-us (free-below (total ms) vs big low-vs not_free (omega (arith, low-total))))
      W.high_ok
      (sized-mid us (block (total ms) free ∷ []) vs parts.0 (omega (arith, sized-eight ms parts.1), tt) parts.2)
      (sized-rest s W) (sized-high s W) (omega arith)
      (λ y x. omega (
        arith,
        listed y x,
        freed-free_at y x,
        count-rebin-enter bins (total ms) (blocks_at + total us) y x,
        ap (λ (k : ℕ). free_at s.high (blocks_at + k + s.rest) y x) t,
      ))
      (λ g. g)

  pub settle-keeps : Kept s (settle s bins a e)
  settle-keeps =
      by= e (R s) (λ h. subst (Kept s) (sym (settle-joins s (sized-low s W) us ms vs a e bins is at to h)) (joins-keeps h))
      (λ h. subst (Kept s) (sym (settle-enters s (sized-low s W) us ms vs a e bins is at to h)) (enters-keeps h))

-- ---- the run of a held large block

module _ (s : State) (W : WellFormed s) (q z : ℕ) (r : Run s q z) where
  joined-free_at : (y x : ℕ) → free_at (joined s q z r) (q - r.down) y x ≡ free_at (gap r.down) (q - r.down) y x + free_at (gap r.up) (q + z) y x
  unfolding free_at
  joined-free_at y x =
      let e : q - r.down + total (gap r.down) + z ≡ q + z = omega (arith, r.starts, gap-total r.down) in
      free_at-append (gap r.down) (block z held ∷ gap r.up) (q - r.down) y x
      ∙ ap (λ (k : ℕ). free_at (gap r.down) (q - r.down) y x + free_at (gap r.up) k y x) e

  -- what is listed, by the parts of the run
  listed-parts : (y x : ℕ) → count x (s.bins y)
      ≡ free_at r.under blocks_at y x + (free_at (gap r.down) (q - r.down) y x + free_at (gap r.up) (q + z) y x
      + free_at r.over (q + z + r.up) y x)
      + free_at s.high (E s) y x
  listed-parts y x = omega (
    arith,
    W.listed y x,
    free_at-runs s y x,
    ap (λ (l : List Block). free_at l blocks_at y x) r.is,
    free_at-mid r.under (joined s q z r) r.over blocks_at (q - r.down) (q + z + r.up) y x
        (omega (arith, r.starts)) (omega (arith, r.starts, joined-total s q z r)),
    joined-free_at y x,
  )

  without-below : (y x : ℕ) → free_at (gap r.down) (q - r.down) y x + count x (left s.bins r.down (q - r.down) y) ≡ count x (s.bins y)
  without-below = count_left s.bins r.down (q - r.down) (λ y x. omega (arith, listed-parts y x))

  without-both : (y x : ℕ) → free_at (gap r.up) (q + z) y x + count x (fewer s q z r y) ≡ count x (left s.bins r.down (q - r.down) y)
  without-both =
      count_left (left s.bins r.down (q - r.down)) r.up (q + z) (λ y x. omega (arith, listed-parts y x, without-below y x))

  -- the bins without the run's free blocks
  pub listed-outside : (y x : ℕ) → count x (fewer s q z r y)
      ≡ free_at r.under blocks_at y x + (free_at r.over (q + z + r.up) y x + free_at s.high (E s) y x)
  listed-outside y x = omega (arith, listed-parts y x, without-below y x, without-both y x)

  pub run-keeps : Kept s (settle s (fewer s q z r) (q - r.down) (q + z + r.up))
  run-keeps =
      settle-keeps s W r.under (joined s q z r) r.over (q - r.down) (q + z + r.up) (fewer s q z r) r.is (omega (arith, r.starts))
      (omega (arith, r.starts, joined-total s q z r)) (omega (arith, r.sized, joined-total s q z r)) r.low-under r.low-over r.not_free listed-outside

pub give_back_large-keeps : (s : State) → WellFormed s → (q z : ℕ) → HeldLow s q z → Kept s (give_back_large s q z)
give_back_large-keeps s W q z H =
    let r = run s W q z H in subst (Kept s) (sym (give_back_large-settles s q z r)) (run-keeps s W q z r)
