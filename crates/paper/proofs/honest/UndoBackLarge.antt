-- A large give-back undone: the second block of a large bin, or its only one, is held in the state before. It has no free neighbour, since
-- no two free blocks touch; so giving it back joins nothing, and it enters its bin where it was.
use mathlib.Core.List.{List, [], ◌++◌, ◌∷◌, append_assoc}
use mathlib.Core.Logic.{◌≢◌, inl}
use mathlib.Core.Path.{◌∙◌, ◌≡◌, ap, refl, subst, sym}
use Prim.Native.Nat.{◌+◌, ◌-◌, ◌≤◌, suc, ℕ}
use native.Mathlib.Omega.{arith}
use Rattle.paper.proofs.runs.Asking.{held_at-in}
use Rattle.paper.proofs.keeps.BackKeeps.{give_back-large}
use Rattle.paper.proofs.bins.BinLaws.{count-enter, count-enter-self}
use Rattle.paper.proofs.runs.HeldPlaces.{HeldLow, held_at}
use Rattle.paper.proofs.runs.HeldWalk.{held_in}
use Rattle.paper.proofs.keeps.Kept.{Kept, end-runs, kept_low, sized-low}
use Rattle.paper.proofs.bins.Listed.{rebin-same}
use Rattle.paper.proofs.runs.LowHigh.{low-hold}
use Rattle.paper.proofs.runs.Places.{listed-in-low}
use Rattle.paper.proofs.keeps.Settled.{settle-enters}
use Rattle.paper.proofs.runs.Shapes.{low-ends, low_free}
use Rattle.paper.proofs.runs.Splitting.{ends-append, ends-below, free_at-mid, in_parts, sized-mid, sized-mid-parts, starts-append, starts-past, sum_of-append, total-mid}
use Rattle.paper.proofs.honest.UndoBins.{count-rebin-less, rebin-back, rebin-entered-firsts, rebin-fewer}
use Rattle.paper.proofs.honest.Undone.{Undone, weight, weight_of}
use Rattle.paper.proofs.sheet.Within.{Within, walk-within-held, within-by-walk}
use Rattle.paper.specs.Bins.{count, enter, rebin}
use Rattle.paper.specs.Blocks.{Block, State, block, blocks, end, free, held, remainder, total}
use Rattle.paper.specs.GivingBack.{give_back, give_back_large, left, settle}
use Rattle.paper.specs.Governed.{block_word, sheet, walk}
use Rattle.paper.specs.Granting.{R}
use Rattle.paper.specs.Honest.{gives}
use Rattle.paper.specs.Layout.{blocks_at, large}
use Rattle.paper.specs.Runs.{ends_at, free_size, starts_at, sum_of}
use Rattle.paper.specs.Sound.{Low, Sized, WellFormed, free_at}
use Rattle.words.specs.Choice.{if=, if=-no, if=-yes}

-- above a held block stands a held one: nothing free starts where it ends
held-above : (z y : ℕ) (ws : List Block) (p q : ℕ) → 1 ≤ z → p + z ≡ q → starts_at free_size (block z held ∷ block y held ∷ ws) p q ≡ 0
unfolding starts_at
held-above z y ws p q l e = if=-no p q _ _ (omega arith) ∙ if=-yes (p + z) q _ _ e

left_alone : (bins : ℕ → List ℕ) (p q : ℕ) → left (left bins 0 p) 0 q ≡ bins
unfolding left
left_alone bins p q = if=-yes 0 0 _ _ refl ∙ if=-yes 0 0 _ _ refl

module _ (s : State) (W : WellFormed s) (z x : ℕ) (l : List ℕ) (listed : s.bins z ≡ enter x l)
    (us : List Block) (y : ℕ) (ws : List Block) (is : s.low ≡ us ++ block z free ∷ block y held ∷ ws) (starts : blocks_at + total us ≡ x)
    (low-us : Low us) (is-large : large ≤ z) where
  abbrev vs : List Block
  vs = block y held ∷ ws

  abbrev before : State
  before = record { top = s.top; low = us ++ block z held ∷ vs; rest = s.rest; high = s.high; bins = rebin s.bins z l }

  one_more : (q : ℕ) → count q (s.bins z) ≡ if= x q 1 0 + count q l
  one_more q = ap (count q) listed ∙ count-enter x q l

  parts : Sized us × Sized (block z free ∷ []) × Sized (block y held ∷ ws)
  parts = sized-mid-parts us (block z free ∷ []) vs (subst Sized is (sized-low s W))

  kept : Kept s before
  unfolding free_at
  kept =
      kept_low s W (us ++ block z held ∷ vs) (rebin s.bins z l) (low-hold us z z vs is-large (subst Low is W.low_ok))
      (sized-mid us (block z held ∷ []) vs parts.0 parts.1 parts.2)
      (omega (arith, ap total is, total-mid us (block z free ∷ []) vs, total-mid us (block z held ∷ []) vs))
      (λ w q. omega (
        arith,
        count-rebin-less s.bins z l x one_more w q,
        ap (λ (k : List Block). free_at k blocks_at w q) is,
        free_at-mid us (block z free ∷ []) vs blocks_at x (x + z) w q starts (omega arith),
        free_at-mid us (block z held ∷ []) vs blocks_at x (x + z) w q starts (omega arith),
      ))

  abbrev is_held : HeldLow before x z
  is_held = record { before = us; after = vs; is = refl; starts = starts; sized = is-large }

  found : held_at before (x + 4) ≡ z
  found = let i = held_in before x z (inl is_held) in held_at-in before x z i.0 kept.well_formed.sized i.1

  -- ---- nothing joins

  none_below : ends_at free_size (us ++ block z held ∷ vs) blocks_at x ≡ 0
  none_below =
      let t : Sized (block z held ∷ vs) = (parts.1.0, parts.2) in
      ends-append free_size us (block z held ∷ vs) blocks_at x t
      ∙ omega (arith, low-ends us blocks_at x low-us starts, ends-below free_size (block z held ∷ vs) (blocks_at + total us) x t (omega arith))

  none_above : starts_at free_size (us ++ block z held ∷ vs) blocks_at (x + z) ≡ 0
  none_above =
      starts-append free_size us (block z held ∷ vs) blocks_at (x + z) parts.0
      ∙ omega (
        arith,
        starts-past free_size us blocks_at (x + z) parts.0 (omega arith),
        held-above z y ws (blocks_at + total us) (x + z) (omega arith) (omega arith),
      )

  alone : give_back_large before x z ≡ settle before (rebin s.bins z l) x (x + z)
  unfolding give_back_large
  alone =
      let b : x - 0 ≡ x = omega arith in
      let c : x + z + 0 ≡ x + z = omega arith in
      (λ i. settle before (left (left (rebin s.bins z l) (none_below i) (x - none_below i)) (none_above i) (x + z)) (x - none_below i)
      (x + z + none_above i))
      ∙ (λ i. settle before (left_alone (rebin s.bins z l) (x - 0) (x + z) i) (b i) (c i))

  enters : settle before (rebin s.bins z l) x (x + z) ≡ s
  enters =
      let m : total (block z held ∷ []) ≡ z = omega arith in
      let n : x + z ≢ R before = omega (arith, total-mid us (block z held ∷ []) vs, parts.2.0) in
      let b : rebin (rebin s.bins z l) z (enter x (rebin s.bins z l z)) ≡ s.bins =
      ap (λ (k : List ℕ). rebin (rebin s.bins z l) z (enter x k)) (rebin-same s.bins z l) ∙ rebin-back s.bins z l (enter x l) listed in
      settle-enters before (sized-mid us (block z held ∷ []) vs parts.0 parts.1 parts.2) us (block z held ∷ []) vs x (x + z)
      (rebin s.bins z l) refl starts (omega arith) n
      ∙ (λ i. record {
        top = s.top;
        low = us ++ block (m i) free ∷ vs;
        rest = s.rest;
        high = s.high;
        bins = rebin (rebin s.bins z l) (m i) (enter (starts i) (rebin s.bins z l (m i)));
      })
      ∙ (λ i. record { top = s.top; low = sym is i; rest = s.rest; high = s.high; bins = b i })

  leads-back : (give_back before (x + 4)).state ≡ s
  leads-back =
      let e : x + 4 - 4 ≡ x = omega arith in
      give_back-large before kept.well_formed (x + 4) (omega (arith, found)) ∙ (λ i. give_back_large before (e i) (found i)) ∙ alone ∙ enters

  -- ---- the governed words and the weight

  blocks-are : blocks s ≡ us ++ (block z free ∷ (vs ++ block s.rest remainder ∷ s.high))
  blocks-are =
      ap (λ (k : List Block). k ++ block s.rest remainder ∷ s.high) is
      ∙ append_assoc us (block z free ∷ vs) (block s.rest remainder ∷ s.high)

  blocks-before : blocks before ≡ us ++ (block z held ∷ (vs ++ block s.rest remainder ∷ s.high))
  blocks-before = append_assoc us (block z held ∷ vs) (block s.rest remainder ∷ s.high)

  within : Within (sheet before) (sheet s)
  within =
      within-by-walk s before
      (λ a m h. ap (λ (k : List Block). walk (block_word s.top (end before) (rebin s.bins z l)) k blocks_at 1 a) blocks-before
      ∙ walk-within-held s.top (end s) (end before) s.bins (rebin s.bins z l) (rebin-fewer s.bins z l x one_more)
      (rebin-entered-firsts s.bins z x l listed) us z free (vs ++ block s.rest remainder ∷ s.high) blocks_at 1 1 a (omega arith)
      (ap (λ (k : List Block). walk (block_word s.top (end s) s.bins) k blocks_at 1 a) (sym blocks-are) ∙ h))

  lighter : suc (weight before) ≡ weight s
  unfolding sum_of
  lighter = omega (
    arith,
    ap (sum_of weight_of) blocks-are,
    ap (sum_of weight_of) blocks-before,
    sum_of-append weight_of us (block z free ∷ (vs ++ block s.rest remainder ∷ s.high)),
    sum_of-append weight_of us (block z held ∷ (vs ++ block s.rest remainder ∷ s.high)),
  )

  undo-there : Undone s
  undo-there =
      record {
        before = before;
        kept = kept;
        call = gives (x + 4);
        number_fits = omega (arith, W.fits, end-runs s, ap total is, total-mid us (block z free ∷ []) vs);
        leads-back = leads-back;
        within = within;
        lighter = lighter;
      }

-- a list that is not empty, with its last entry named
entered : (a : ℕ) (m : List ℕ) → (x : ℕ) × (l : List ℕ) × (a ∷ m ≡ enter x l)
unfolding enter
entered a [] = (a, [], refl)
entered a (b ∷ m) = (b, a ∷ m, refl)

pub undo-large : (s : State) → WellFormed s → (z a : ℕ) (m : List ℕ) → large ≤ z → s.bins z ≡ a ∷ m → Undone s
undo-large s W z a m is-large e =
    let n = entered a m in
    let listed : s.bins z ≡ enter n.0 n.1 = e ∙ n.2 in
    let i = listed-in-low s W z n.0 is-large (omega (arith, ap (count n.0) listed, count-enter-self n.0 n.1)) in
    let r = in_parts s.low blocks_at 1 n.0 (block z free) i.0 i.1 in
    let f = low_free r.0 z r.1 (subst Low r.2 W.low_ok) in
    undo-there s W z n.0 n.1 listed r.0 f.2 f.3 (r.2 ∙ ap (λ (k : List Block). r.0 ++ block z free ∷ k) f.4) r.3 f.0 is-large
