-- A small block given back, at the front of its bin, keeps the state well formed: one held block of the high run is free afterwards,
-- and its start is one more of its bin. At E it may then go home.
use mathlib.Core.List.{List, [], ◌++◌, ◌∷◌}
use mathlib.Core.Path.{◌∙◌, ◌≡◌, ap, subst, sym}
use Prim.Native.Nat.{◌+◌, ℕ}
use native.Mathlib.Omega.{arith}
use Rattle.paper.proofs.bins.BinLaws.{count-rebin-front}
use Rattle.paper.proofs.runs.HeldPlaces.{HeldHigh}
use Rattle.paper.proofs.keeps.Kept.{Shaped, shaped-high, sized-high}
use Rattle.paper.proofs.runs.Shapes.{high-release}
use Rattle.paper.proofs.runs.Splitting.{free_at-mid, replace-append, sized-mid, sized-mid-parts, total-mid}
use Rattle.paper.specs.Bins.{rebin}
use Rattle.paper.specs.Blocks.{Block, State, block, free, held, total}
use Rattle.paper.specs.GivingBack.{give_back_small}
use Rattle.paper.specs.Granting.{E}
use Rattle.paper.specs.Runs.{replace}
use Rattle.paper.specs.Sound.{High, Sized, WellFormed, free_at}

module _ (s : State) (W : WellFormed s) (q z : ℕ) (H : HeldHigh s q z) where
  parts : Sized H.before × Sized (block z held ∷ []) × Sized H.after
  parts = sized-mid-parts H.before (block z held ∷ []) H.after (subst Sized H.is (sized-high s W))

  abbrev released : List Block
  released = H.before ++ block z free ∷ H.after

  small-high : replace s.high (E s) q (q + z) (block z free ∷ []) ≡ H.before ++ block z free ∷ H.after
  small-high =
      ap (λ (l : List Block). replace l (E s) q (q + z) (block z free ∷ [])) H.is
      ∙ replace-append H.before (block z held ∷ []) H.after (block z free ∷ []) (E s) q (q + z) parts.0 parts.1 H.starts (omega arith)

  pub give_back_small-is : give_back_small s q z
      ≡ record { top = s.top; low = s.low; rest = s.rest; high = H.before ++ block z free ∷ H.after; bins = rebin s.bins z (q ∷ s.bins z) }
  unfolding give_back_small
  give_back_small-is = λ i. record { top = s.top; low = s.low; rest = s.rest; high = small-high i; bins = rebin s.bins z (q ∷ s.bins z) }

  small-free_at : (y x : ℕ) → free_at released (E s) y x ≡ free_at (block z free ∷ []) q y x + free_at s.high (E s) y x
  unfolding free_at
  small-free_at y x = omega (
    arith,
    free_at-mid H.before (block z free ∷ []) H.after (E s) q (q + z) y x H.starts (omega arith),
    free_at-mid H.before (block z held ∷ []) H.after (E s) q (q + z) y x H.starts (omega arith),
    ap (λ (l : List Block). free_at l (E s) y x) H.is,
  )

  pub give_back_small-shaped : Shaped s (give_back_small s q z)
  unfolding free_at
  give_back_small-shaped =
      subst (Shaped s) (sym give_back_small-is)
      (shaped-high s W released (rebin s.bins z (q ∷ s.bins z)) (high-release H.before z H.after (subst High H.is W.high_ok))
      (sized-mid H.before (block z free ∷ []) H.after parts.0 parts.1 parts.2)
      (omega (
        arith,
        total-mid H.before (block z free ∷ []) H.after,
        total-mid H.before (block z held ∷ []) H.after,
        ap total H.is,
      ))
      (λ y x. omega (arith, count-rebin-front s.bins z q y x, small-free_at y x)))
