-- A take undone, where every bin is empty: the last large block, or the first small one, is part of the remainder in the state before.
-- There is no free block to take, so the same size is cut from the remainder again.
use mathlib.Core.List.{List, [], ◌++◌, ◌∷◌, append_assoc}
use mathlib.Core.Path.{◌∙◌, ◌≡◌, ap, subst, sym}
use Prim.Native.Nat.{◌%◌, ◌+◌, ◌-◌, ◌<◌, ◌≤◌, suc, ℕ}
use native.Mathlib.Omega.{arith}
use Rattle.heads.specs.Heads.{block_size}
use Rattle.paper.proofs.keeps.Kept.{Kept, end-runs, free_at-runs, kept_by, sized-high, sized-low, sized-rest}
use Rattle.paper.proofs.bins.Listed.{free_at-append}
use Rattle.paper.proofs.bins.Smallest.{smallest-none}
use Rattle.paper.proofs.runs.Splitting.{sum_of-append}
use Rattle.paper.proofs.honest.Undone.{Undone, weight, weight_of}
use Rattle.paper.proofs.runs.Walk.{sized-parts, total-append}
use Rattle.paper.proofs.sheet.Within.{Within, walk-within-joined, within-by-walk}
use Rattle.paper.specs.Bins.{first}
use Rattle.paper.specs.Blocks.{Block, State, block, blocks, end, held, remainder, total}
use Rattle.paper.specs.Governed.{block_word, sheet, walk}
use Rattle.paper.specs.Granting.{E, Result, carry_out, choose, choose_large, choose_small, cut_high, cut_low, smallest_bin, take}
use Rattle.paper.specs.Honest.{takes}
use Rattle.paper.specs.Layout.{blocks_at, large}
use Rattle.paper.specs.Runs.{sum_of}
use Rattle.paper.specs.Sound.{HeldFirst, High, Low, Sized, WellFormed, free_at}
use Rattle.words.specs.Choice.{if<-no, if<-yes, if=-no, if=-yes}

-- ---- the payload that needs a block of b

block_size-back : (b : ℕ) → 8 ≤ b → b % 8 ≡ 0 → block_size (b - 4) ≡ b
unfolding block_size
block_size-back b l e = omega arith

-- ---- every bin is empty

module _ (s : State) (empty : (y : ℕ) → s.bins y ≡ []) (b : ℕ) (eights : b % 8 ≡ 0) (room : b + 8 ≤ s.rest) where
  none_first : (y : ℕ) → first (s.bins y) ≡ 0
  unfolding first
  none_first y = ap first (empty y)

  cuts-low : large ≤ b → take s (b - 4) ≡ cut_low s b
  unfolding take choose choose_large
  cuts-low l =
      let k = block_size-back b (omega arith) eights in
      ap (carry_out s)
      (if=-no (b - 4) 0 _ _ (omega arith)
      ∙ if<-no (block_size (b - 4)) 72 _ _ (omega arith)
      ∙ ap (choose_large s) k
      ∙ if=-yes (first (s.bins b)) 0 _ _ (none_first b)
      ∙ if=-yes (smallest_bin s (b + large)) 0 _ _ (smallest-none s (b + large) (λ u _. none_first u))
      ∙ if<-no s.rest (b + 8) _ _ room)

  cuts-high : 8 ≤ b → b < large → take s (b - 4) ≡ cut_high s b
  unfolding take choose choose_small
  cuts-high m l =
      let k = block_size-back b m eights in
      ap (carry_out s)
      (if=-no (b - 4) 0 _ _ (omega arith)
      ∙ if<-yes (block_size (b - 4)) 72 _ _ (omega arith)
      ∙ ap (choose_small s) k
      ∙ if=-yes (first (s.bins b)) 0 _ _ (none_first b)
      ∙ if<-no s.rest (b + 8) _ _ room)

-- ---- the last large block

module _ (s : State) (W : WellFormed s) (empty : (y : ℕ) → s.bins y ≡ [])
    (us : List Block) (z : ℕ) (is : s.low ≡ us ++ block z held ∷ []) (low-us : Low us) (is-large : large ≤ z) where
  abbrev before-large : State
  before-large = record { top = s.top; low = us; rest = z + s.rest; high = s.high; bins = s.bins }

  parts-large : Sized us × Sized (block z held ∷ [])
  parts-large = sized-parts us (block z held ∷ []) (subst Sized is (sized-low s W))

  low-total : total s.low ≡ total us + z
  low-total = ap total is ∙ total-append us (block z held ∷ []) ∙ omega arith

  kept-large : Kept s before-large
  unfolding free_at
  kept-large =
      let e : 168 + total us + (z + s.rest) ≡ E s = omega (arith, low-total) in
      kept_by s W us (z + s.rest) s.high s.bins low-us W.high_ok parts-large.0
      (omega (arith, sized-rest s W, parts-large.1.0)) (sized-high s W) (omega (arith, low-total))
      (λ y q. omega (
        arith,
        W.listed y q,
        free_at-runs s y q,
        ap (λ (k : List Block). free_at k blocks_at y q) is,
        free_at-append us (block z held ∷ []) blocks_at y q,
        ap (λ (k : ℕ). free_at s.high k y q) e,
      ))
      (λ g. g)

  leads-large : (take before-large (z - 4)).state ≡ s
  unfolding cut_low
  leads-large =
      let e : z + s.rest - z ≡ s.rest = omega arith in
      ap (λ (r : Result). r.state) (cuts-low before-large empty z parts-large.1.0.1 (omega (arith, sized-rest s W)) is-large)
      ∙ (λ i. record { top = s.top; low = sym is i; rest = e i; high = s.high; bins = s.bins })

  blocks-large : blocks s ≡ us ++ block z held ∷ block s.rest remainder ∷ s.high
  blocks-large =
      ap (λ (k : List Block). k ++ block s.rest remainder ∷ s.high) is
      ∙ append_assoc us (block z held ∷ []) (block s.rest remainder ∷ s.high)

  within-large : Within (sheet before-large) (sheet s)
  within-large =
      within-by-walk s before-large
      (λ a m h. walk-within-joined s.top (end s) (end before-large) s.bins s.bins (λ y q. omega arith) (λ y q l n e. e)
      us z held s.rest remainder s.high blocks_at 1 1 a (omega arith) m (omega arith)
      (ap (λ (k : List Block). walk (block_word s.top (end s) s.bins) k blocks_at 1 a) (sym blocks-large) ∙ h))

  lighter-large : suc (weight before-large) ≡ weight s
  unfolding sum_of
  lighter-large = omega (
    arith,
    ap (sum_of weight_of) blocks-large,
    sum_of-append weight_of us (block z held ∷ block s.rest remainder ∷ s.high),
    sum_of-append weight_of us (block (z + s.rest) remainder ∷ s.high),
  )

  pub undo-take-large : Undone s
  undo-take-large =
      record {
        before = before-large;
        kept = kept-large;
        call = takes (z - 4);
        number_fits = omega (arith, W.fits, end-runs s, low-total);
        leads-back = leads-large;
        within = within-large;
        lighter = lighter-large;
      }

-- ---- the first small block

module _ (s : State) (W : WellFormed s) (empty : (y : ℕ) → s.bins y ≡ []) (z : ℕ) (vs : List Block) (is : s.high ≡ block z held ∷ vs)
    (held-above : HeldFirst vs) where
  abbrev before_small : State
  before_small = record { top = s.top; low = s.low; rest = s.rest + z; high = vs; bins = s.bins }

  parts-small : Sized (block z held ∷ vs)
  parts-small = subst Sized is (sized-high s W)

  high_small : High (block z held ∷ vs)
  high_small = subst High is W.high_ok

  high-total : total s.high ≡ z + total vs
  high-total = ap total is

  kept_small : Kept s before_small
  unfolding free_at
  kept_small =
      let e : 168 + total s.low + (s.rest + z) ≡ E s + z = omega arith in
      kept_by s W s.low (s.rest + z) vs s.bins W.low_ok high_small.1 (sized-low s W)
      (omega (arith, sized-rest s W, parts-small.0)) parts-small.1 (omega (arith, high-total))
      (λ y q. omega (
        arith,
        W.listed y q,
        free_at-runs s y q,
        ap (λ (k : List Block). free_at k (E s) y q) is,
        ap (λ (k : ℕ). free_at vs k y q) e,
      ))
      (λ g. held-above)

  leads-small : (take before_small (z - 4)).state ≡ s
  unfolding cut_high
  leads-small =
      let e : s.rest + z - z ≡ s.rest = omega arith in
      ap (λ (r : Result). r.state)
      (cuts-high before_small empty z parts-small.0.1 (omega (arith, sized-rest s W)) parts-small.0.0 (omega (arith, high_small.0)))
      ∙ (λ i. record { top = s.top; low = s.low; rest = e i; high = sym is i; bins = s.bins })

  blocks-small : blocks s ≡ s.low ++ block s.rest remainder ∷ block z held ∷ vs
  blocks-small = ap (λ (k : List Block). s.low ++ block s.rest remainder ∷ k) is

  within-small : Within (sheet before_small) (sheet s)
  within-small =
      within-by-walk s before_small
      (λ a m h. walk-within-joined s.top (end s) (end before_small) s.bins s.bins (λ y q. omega arith) (λ y q l n e. e)
      s.low s.rest remainder z held vs blocks_at 1 1 a (omega arith) m (omega (arith, sized-rest s W))
      (ap (λ (k : List Block). walk (block_word s.top (end s) s.bins) k blocks_at 1 a) (sym blocks-small) ∙ h))

  lighter-small : suc (weight before_small) ≡ weight s
  unfolding sum_of
  lighter-small = omega (
    arith,
    ap (sum_of weight_of) blocks-small,
    sum_of-append weight_of s.low (block s.rest remainder ∷ block z held ∷ vs),
    sum_of-append weight_of s.low (block (s.rest + z) remainder ∷ vs),
  )

  pub undo-take-small : Undone s
  undo-take-small =
      record {
        before = before_small;
        kept = kept_small;
        call = takes (z - 4);
        number_fits = omega (arith, high_small.0);
        leads-back = leads-small;
        within = within-small;
        lighter = lighter-small;
      }
