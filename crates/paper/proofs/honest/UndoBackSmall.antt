-- A small give-back undone: the first block of a small bin is held in the state before. Given back, it stays in its bin: a held block is at E.
use mathlib.Core.List.{List, [], ◌++◌, ◌∷◌, append_assoc}
use mathlib.Core.Logic.{inr}
use mathlib.Core.Path.{◌∙◌, ◌≡◌, ap, refl, subst, sym}
use Prim.Native.Nat.{◌+◌, ◌-◌, ◌<◌, ◌^◌, suc, ℕ}
use native.Mathlib.Omega.{arith}
use Rattle.paper.proofs.home.GoneHome.{go_home-same}
use Rattle.paper.proofs.runs.Asking.{held_at-in}
use Rattle.paper.proofs.keeps.BackKeeps.{give_back-small}
use Rattle.paper.proofs.keeps.BackSmallKeeps.{give_back_small-is}
use Rattle.paper.proofs.bins.Bins.{count-cons, count-here}
use Rattle.paper.proofs.runs.HeldPlaces.{HeldHigh, held_at}
use Rattle.paper.proofs.runs.HeldWalk.{held_in}
use Rattle.paper.proofs.keeps.Kept.{Kept, end-runs, kept-shaped, shaped-high, sized-high}
use Rattle.paper.proofs.bins.Listed.{rebin-same}
use Rattle.paper.proofs.runs.LowHigh.{edge-hold, high-hold, high_parts}
use Rattle.paper.proofs.runs.Places.{listed-in-high}
use Rattle.paper.proofs.runs.Splitting.{free_at-mid, in_parts, sized-mid, sized-mid-parts, sum_of-append, total-mid}
use Rattle.paper.proofs.honest.UndoBins.{count-rebin-less, rebin-back, rebin-fewer, rebin-small-firsts}
use Rattle.paper.proofs.honest.Undone.{Undone, weight, weight_of}
use Rattle.paper.proofs.sheet.Within.{Within, walk-within-held, within-by-walk}
use Rattle.paper.specs.Bins.{count, rebin}
use Rattle.paper.specs.Blocks.{Block, State, block, blocks, end, free, held, remainder, total}
use Rattle.paper.specs.GivingBack.{give_back, give_back_small}
use Rattle.paper.specs.GoingHome.{go_home}
use Rattle.paper.specs.Governed.{block_word, sheet, walk}
use Rattle.paper.specs.Granting.{E}
use Rattle.paper.specs.Honest.{gives}
use Rattle.paper.specs.Layout.{blocks_at, large}
use Rattle.paper.specs.Runs.{sum_of}
use Rattle.paper.specs.Sound.{Edge, HeldFirst, High, Sized, WellFormed, free_at}
use Rattle.words.specs.Choice.{if=}

module _ (s : State) (W : WellFormed s) (g : Edge s) (z x : ℕ) (l : List ℕ) (small : z < large) (listed : s.bins z ≡ x ∷ l)
    (us vs : List Block) (is : s.high ≡ us ++ block z free ∷ vs) (starts : E s + total us ≡ x) where
  abbrev before : State
  before = record { top = s.top; low = s.low; rest = s.rest; high = us ++ block z held ∷ vs; bins = rebin s.bins z l }

  one_more : (q : ℕ) → count q (s.bins z) ≡ if= x q 1 0 + count q l
  one_more q = ap (count q) listed ∙ count-cons q x l

  parts : Sized us × Sized (block z free ∷ []) × Sized vs
  parts = sized-mid-parts us (block z free ∷ []) vs (subst Sized is (sized-high s W))

  kept : Kept s before
  unfolding free_at
  kept =
      kept-shaped s before
      (shaped-high s W (us ++ block z held ∷ vs) (rebin s.bins z l) (high-hold us z vs (subst High is W.high_ok))
      (sized-mid us (block z held ∷ []) vs parts.0 parts.1 parts.2)
      (omega (arith, ap total is, total-mid us (block z free ∷ []) vs, total-mid us (block z held ∷ []) vs))
      (λ y q. omega (
        arith,
        count-rebin-less s.bins z l x one_more y q,
        ap (λ (k : List Block). free_at k (E s) y q) is,
        free_at-mid us (block z free ∷ []) vs (E s) x (x + z) y q starts (omega arith),
        free_at-mid us (block z held ∷ []) vs (E s) x (x + z) y q starts (omega arith),
      )))
      (λ h. edge-hold us z (block z free ∷ vs) vs (subst HeldFirst is h))

  abbrev is_held : HeldHigh before x z
  is_held =
      record { before = us; after = vs; is = refl; starts = starts; sized = (high_parts us (block z free ∷ vs) (subst High is W.high_ok)).1.0 }

  found : held_at before (x + 4) ≡ z
  found = let i = held_in before x z (inr is_held) in held_at-in before x z i.0 kept.well_formed.sized i.1

  leads-back : (give_back before (x + 4)).state ≡ s
  leads-back =
      let e : x + 4 - 4 ≡ x = omega arith in
      let b : rebin (rebin s.bins z l) z (x ∷ rebin s.bins z l z) ≡ s.bins =
      ap (λ (k : List ℕ). rebin (rebin s.bins z l) z (x ∷ k)) (rebin-same s.bins z l) ∙ rebin-back s.bins z l (x ∷ l) listed in
      give_back-small before kept.well_formed (x + 4) (omega (arith, found, parts.1.0)) (omega (arith, found))
      ∙ (λ i. go_home (give_back_small before (e i) (found i)))
      ∙ ap go_home
      (give_back_small-is before kept.well_formed x z is_held
      ∙ (λ i. record { top = s.top; low = s.low; rest = s.rest; high = sym is i; bins = b i }))
      ∙ go_home-same s g

  -- every block below the one that is given back
  abbrev below : List Block
  below = s.low ++ block s.rest remainder ∷ us

  blocks-are : blocks s ≡ below ++ block z free ∷ vs
  blocks-are =
      ap (λ (k : List Block). s.low ++ block s.rest remainder ∷ k) is
      ∙ sym (append_assoc s.low (block s.rest remainder ∷ us) (block z free ∷ vs))

  blocks-before : blocks before ≡ below ++ block z held ∷ vs
  blocks-before = sym (append_assoc s.low (block s.rest remainder ∷ us) (block z held ∷ vs))

  within : Within (sheet before) (sheet s)
  within =
      within-by-walk s before
      (λ a m h. ap (λ (k : List Block). walk (block_word s.top (end before) (rebin s.bins z l)) k blocks_at 1 a) blocks-before
      ∙ walk-within-held s.top (end s) (end before) s.bins (rebin s.bins z l) (rebin-fewer s.bins z l x one_more)
      (rebin-small-firsts s.bins z l small) below z free vs blocks_at 1 1 a (omega arith)
      (ap (λ (k : List Block). walk (block_word s.top (end s) s.bins) k blocks_at 1 a) (sym blocks-are) ∙ h))

  lighter : suc (weight before) ≡ weight s
  unfolding sum_of
  lighter = omega (
    arith,
    ap (sum_of weight_of) blocks-are,
    ap (sum_of weight_of) blocks-before,
    sum_of-append weight_of below (block z free ∷ vs),
    sum_of-append weight_of below (block z held ∷ vs),
  )

  fits : x + 4 < 2 ^ 32
  fits = omega (
    arith,
    W.fits,
    end-runs s,
    ap total is,
    total-mid us (block z free ∷ []) vs,
    parts.1.0,
  )

  undo-there : Undone s
  undo-there =
      record {
        before = before;
        kept = kept;
        call = gives (x + 4);
        number_fits = fits;
        leads-back = leads-back;
        within = within;
        lighter = lighter;
      }

pub undo-small : (s : State) → WellFormed s → Edge s → (z x : ℕ) (l : List ℕ) → z < large → s.bins z ≡ x ∷ l → Undone s
undo-small s W g z x l small e =
    let i = listed-in-high s W z x small (omega (arith, ap (count x) e, count-here x l)) in
    let r = in_parts s.high (E s) 1 x (block z free) i.0 i.1 in
    undo-there s W g z x l small e r.0 r.1 r.2 r.3
