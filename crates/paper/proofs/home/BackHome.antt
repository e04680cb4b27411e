-- What goes home after a small give-back: at E the block itself and the free ones above it, which is as if they were gone from the state before;
-- elsewhere nothing, since a held block is at E still.
use mathlib.Core.List.{List, [], ◌++◌, ◌∷◌}
use mathlib.Core.Logic.{◌≢◌}
use mathlib.Core.Path.{◌∙◌, ◌≡◌, ap, subst, sym}
use Prim.Native.Nat.{◌+◌, ◌<◌, ℕ}
use native.Mathlib.Omega.{arith}
use Rattle.paper.proofs.bins.Listed.{rebin-other, rebin-same}
use Rattle.paper.proofs.home.Below.{large-not-below, not_below, small-not-below, small_not_below}
use Rattle.paper.proofs.home.Edged.{edged}
use Rattle.paper.proofs.home.GoneHome.{free_run, go_home-edged, go_home-same, past_free}
use Rattle.paper.proofs.keeps.BackSmallKeeps.{give_back_small-is, give_back_small-shaped}
use Rattle.paper.proofs.keeps.Kept.{sized-high}
use Rattle.paper.proofs.runs.HeldPlaces.{HeldHigh}
use Rattle.paper.specs.Bins.{rebin}
use Rattle.paper.specs.Blocks.{Block, State, block, free, held, remainder, total}
use Rattle.paper.specs.GivingBack.{give_back_small}
use Rattle.paper.specs.GoingHome.{go_home}
use Rattle.paper.specs.Granting.{E}
use Rattle.paper.specs.Layout.{large}
use Rattle.paper.specs.Sound.{Edge, HeldFirst, High, Sized, WellFormed}
use Rattle.words.specs.Choice.{by<, by=, if<-yes}

-- ---- at E

-- a start below the new edge, at the front of a list, is not in it then
front_below : (bins : ℕ → List ℕ) (z q e : ℕ) → z < large → q < e → (y : ℕ) → small_not_below e (rebin bins z (q ∷ bins z)) y ≡ small_not_below e bins y
unfolding not_below
front_below bins z q e small l y =
    by< y large
    (λ m. small-not-below e (rebin bins z (q ∷ bins z)) y m
    ∙ by= y z
    (λ k. ap (not_below e) (ap (rebin bins z (q ∷ bins z)) k ∙ rebin-same bins z (q ∷ bins z))
    ∙ if<-yes q e _ _ l ∙ ap (λ (x : ℕ). not_below e (bins x)) (sym k))
    (λ n. ap (not_below e) (rebin-other bins z (q ∷ bins z) y n))
    ∙ sym (small-not-below e bins y m))
    (λ m. large-not-below e (rebin bins z (q ∷ bins z)) y m ∙ rebin-other bins z (q ∷ bins z) y (omega arith) ∙ sym (large-not-below e bins y m))

module _ (s : State) (W : WellFormed s) (z : ℕ) (after : List Block) (is : s.high ≡ block z held ∷ after) where
  small : High (block z held ∷ after)
  small = subst High is W.high_ok

  sized : Sized (block z held ∷ after)
  sized = subst Sized is (sized-high s W)

  abbrev pub held-at-edge : HeldHigh s (E s) z
  held-at-edge = record { before = []; after = after; is = is; starts = start (E s); sized = (subst High is W.high_ok).0 }
    where
      start : (e : ℕ) → e + 0 ≡ e
      start e = omega arith

  pub back-home : go_home (give_back_small s (E s) z) ≡ edged s (block z held ∷ free_run after) (past_free after)
  back-home =
      let k = give_back_small-is s W (E s) z held-at-edge in
      ap go_home k
      ∙ go_home-edged
      (record { top = s.top; low = s.low; rest = s.rest; high = block z free ∷ after; bins = rebin s.bins z (E s ∷ s.bins z) })
      (subst WellFormed k (give_back_small-shaped s W (E s) z held-at-edge).well_formed)
      ∙ (λ i. record {
        top = s.top;
        low = s.low;
        rest = s.rest + (z + total (free_run after));
        high = past_free after;
        bins = λ y. front_below s.bins z (E s) (E s + (z + total (free_run after))) (omega (arith, small.0)) (omega (arith, sized.0)) y i;
      })

-- ---- elsewhere

released-edge : (us : List Block) (z : ℕ) (vs : List Block) → 0 < total us → HeldFirst (us ++ block z held ∷ vs) → HeldFirst (us ++ block z free ∷ vs)
released-edge [] z vs l h = absurd (omega arith)
released-edge (block y held ∷ us) z vs l h = tt
released-edge (block y free ∷ us) z vs l h = absurd h
released-edge (block y remainder ∷ us) z vs l h = absurd h

pub back-stays : (s : State) (W : WellFormed s) → Edge s → (q z : ℕ) (H : HeldHigh s q z) → q ≢ E s → go_home (give_back_small s q z) ≡ give_back_small s q z
back-stays s W g q z H n =
    go_home-same (give_back_small s q z)
    (subst Edge (sym (give_back_small-is s W q z H)) (released-edge H.before z H.after (omega (arith, H.starts)) (subst HeldFirst H.is g)))
