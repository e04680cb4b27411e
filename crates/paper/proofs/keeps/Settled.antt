-- The state after a run of the low blocks has come back, written out by the parts of the low blocks: what stands below the run and above it is
-- as it was, and the run touches R just where nothing stands above it.
use mathlib.Core.List.{List, [], ◌++◌, ◌∷◌}
use mathlib.Core.Logic.{◌≢◌}
use mathlib.Core.Path.{◌∙◌, ◌≡◌, ap, refl, subst, sym}
use Prim.Native.Nat.{◌+◌, ◌-◌, ℕ}
use native.Mathlib.Omega.{arith}
use Rattle.paper.proofs.runs.Neighbours.{Run, gap, gap-total}
use Rattle.paper.proofs.runs.Splitting.{replace-append, sized-mid-parts, total-mid, under-append}
use Rattle.paper.proofs.runs.Walk.{total-append}
use Rattle.paper.specs.Bins.{enter, rebin}
use Rattle.paper.specs.Blocks.{Block, State, block, free, held, total}
use Rattle.paper.specs.GivingBack.{give_back_large, left, settle}
use Rattle.paper.specs.Granting.{R}
use Rattle.paper.specs.Layout.{blocks_at}
use Rattle.paper.specs.Runs.{replace, under}
use Rattle.paper.specs.Sound.{Sized}
use Rattle.words.specs.Choice.{if=-no, if=-yes}

pub total-none : (vs : List Block) → Sized vs → total vs ≡ 0 → vs ≡ []
total-none [] s e = refl
total-none (b ∷ vs) s e = absurd (omega (arith, s.0))

-- a run of m bytes, above us, is with the remainder; or it is a free block below vs
abbrev pub into_remainder : State → (ℕ → List ℕ) → List Block → ℕ → State
into_remainder s bins us m = record { top = s.top; low = us; rest = m + s.rest; high = s.high; bins = bins }

abbrev pub into_bin : State → (ℕ → List ℕ) → List Block → ℕ → List Block → State
into_bin s bins us m vs =
    record {
      top = s.top;
      low = us ++ block m free ∷ vs;
      rest = s.rest;
      high = s.high;
      bins = rebin bins m (enter (blocks_at + total us) (bins m));
    }

module _ (s : State) (S : Sized s.low) (us ms vs : List Block) (a e : ℕ) (bins : ℕ → List ℕ)
    (is : s.low ≡ us ++ (ms ++ vs)) (at : blocks_at + total us ≡ a) (to : a + total ms ≡ e) where
  parts : Sized us × Sized ms × Sized vs
  parts = sized-mid-parts us ms vs (subst Sized is S)

  pub run_ends : R s ≡ e + total vs
  run_ends = omega (arith, ap total is, total-mid us ms vs)

  pub touches : e ≡ R s → vs ≡ []
  touches r = total-none vs parts.2 (omega (arith, run_ends))

  pub settle-joins : e ≡ R s → settle s bins a e ≡ into_remainder s bins us (total ms)
  unfolding settle
  settle-joins r =
      let u : under s.low blocks_at a ≡ us =
      ap (λ (l : List Block). under l blocks_at a) is ∙ under-append us (ms ++ vs) blocks_at a parts.0 at in
      let m : e - a ≡ total ms = omega arith in
      if=-yes e (R s) _ _ r ∙ (λ i. record { top = s.top; low = u i; rest = m i + s.rest; high = s.high; bins = bins })

  pub settle-enters : e ≢ R s → settle s bins a e ≡ into_bin s bins us (total ms) vs
  unfolding settle
  settle-enters n =
      let u : replace s.low blocks_at a e (block (e - a) free ∷ []) ≡ us ++ block (e - a) free ∷ vs =
      ap (λ (l : List Block). replace l blocks_at a e (block (e - a) free ∷ [])) is
      ∙ replace-append us ms vs (block (e - a) free ∷ []) blocks_at a e parts.0 parts.1 at to in
      let m : e - a ≡ total ms = omega arith in
      if=-no e (R s) _ _ n
      ∙ (λ i. record { top = s.top; low = u i; rest = s.rest; high = s.high; bins = rebin bins (e - a) (enter a (bins (e - a))) })
      ∙ (λ i. record {
        top = s.top;
        low = us ++ block (m i) free ∷ vs;
        rest = s.rest;
        high = s.high;
        bins = rebin bins (m i) (enter (sym at i) (bins (m i)));
      })

-- ---- the run of a held large block

abbrev pub joined : (s : State) (q z : ℕ) → Run s q z → List Block
joined s q z r = gap r.down ++ block z held ∷ gap r.up

-- the bins that the two neighbours have left
abbrev pub fewer : (s : State) (q z : ℕ) → Run s q z → ℕ → List ℕ
fewer s q z r = left (left s.bins r.down (q - r.down)) r.up (q + z)

pub joined-total : (s : State) (q z : ℕ) (r : Run s q z) → total (joined s q z r) ≡ r.down + (z + r.up)
joined-total s q z r =
    omega (arith, total-append (gap r.down) (block z held ∷ gap r.up), gap-total r.down, gap-total r.up)

pub give_back_large-settles : (s : State) (q z : ℕ) (r : Run s q z)
    → give_back_large s q z ≡ settle s (fewer s q z r) (q - r.down) (q + z + r.up)
unfolding give_back_large
give_back_large-settles s q z r =
    λ i. settle s (left (left s.bins (r.reads-down i) (q - r.reads-down i)) (r.reads_up i) (q + z)) (q - r.reads-down i) (q + z + r.reads_up i)

module _ (s : State) (S : Sized s.low) (q z : ℕ) (r : Run s q z) where
  pub give_back_large-touches : q + z + r.up ≡ R s → r.over ≡ []
  give_back_large-touches =
      touches s S r.under (joined s q z r) r.over (q - r.down) (q + z + r.up) (fewer s q z r) r.is (omega (arith, r.starts))
      (omega (arith, r.starts, joined-total s q z r))

  pub give_back_large-joins : q + z + r.up ≡ R s → give_back_large s q z ≡ into_remainder s (fewer s q z r) r.under (r.down + (z + r.up))
  give_back_large-joins h =
      give_back_large-settles s q z r
      ∙ settle-joins s S r.under (joined s q z r) r.over (q - r.down) (q + z + r.up) (fewer s q z r) r.is (omega (arith, r.starts))
      (omega (arith, r.starts, joined-total s q z r)) h
      ∙ ap (into_remainder s (fewer s q z r) r.under) (joined-total s q z r)

  pub give_back_large-enters : q + z + r.up ≢ R s → give_back_large s q z ≡ into_bin s (fewer s q z r) r.under (r.down + (z + r.up)) r.over
  give_back_large-enters h =
      give_back_large-settles s q z r
      ∙ settle-enters s S r.under (joined s q z r) r.over (q - r.down) (q + z + r.up) (fewer s q z r) r.is (omega (arith, r.starts))
      (omega (arith, r.starts, joined-total s q z r)) h
      ∙ ap (λ (m : ℕ). into_bin s (fewer s q z r) r.under m r.over) (joined-total s q z r)
