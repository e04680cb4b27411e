-- One free block at E goes home: the state is well formed still, and every block that is held stays where it was.
use mathlib.Core.List.{List, ◌∷◌}
use mathlib.Core.Path.{◌≡◌, ap, refl, subst}
use Prim.Native.Nat.{◌+◌, ◌≤◌, ℕ}
use native.Mathlib.Omega.{arith}
use Rattle.paper.proofs.bins.BinLaws.{count-rebin-leave}
use Rattle.paper.proofs.keeps.Kept.{Shaped, free_at-runs, shaped-by, sized-high, sized-low, sized-rest}
use Rattle.paper.specs.Bins.{count, leave, rebin}
use Rattle.paper.specs.Blocks.{Block, State, block, free, total}
use Rattle.paper.specs.GoingHome.{one_home}
use Rattle.paper.specs.Granting.{E}
use Rattle.paper.specs.Layout.{blocks_at}
use Rattle.paper.specs.Sound.{High, Sized, WellFormed, free_at}
use Rattle.words.specs.Choice.{if=, if=-yes}

module _ (s : State) (W : WellFormed s) (z : ℕ) (above : List Block) (is : s.high ≡ block z free ∷ above) where
  pub sized-edge : Sized (block z free ∷ above)
  sized-edge = subst Sized is (sized-high s W)

  pub small-edge : High (block z free ∷ above)
  small-edge = subst High is W.high_ok

  edge-free : (y q : ℕ) → free_at s.high (E s) y q ≡ if= z y (if= (E s) q 1 0) 0 + free_at above (E s + z) y q
  unfolding free_at
  edge-free y q = ap (λ (l : List Block). free_at l (E s) y q) is

  -- it stands in its bin
  edge-listed : 1 ≤ count (E s) (s.bins z)
  edge-listed = omega (
    arith,
    W.listed z (E s),
    free_at-runs s z (E s),
    edge-free z (E s),
    if=-yes {A = ℕ} z z (if= (E s) (E s) 1 0) 0 refl,
    if=-yes {A = ℕ} (E s) (E s) 1 0 refl,
  )

  pub one_home-shaped : Shaped s (one_home s z above)
  unfolding one_home
  one_home-shaped =
      shaped-by s W s.low (s.rest + z) above (rebin s.bins z (leave (E s) (s.bins z))) W.low_ok small-edge.1 (sized-low s W)
      (omega (arith, sized-rest s W), omega (arith, sized-rest s W, sized-edge.0)) sized-edge.1 (omega (arith, ap total is))
      (λ y q. omega (
        arith,
        W.listed y q,
        free_at-runs s y q,
        edge-free y q,
        count-rebin-leave s.bins z (E s) y q edge-listed,
        ap (λ (k : ℕ). free_at above k y q) (place (blocks_at + total s.low) s.rest),
      ))
    where
      place : (r k : ℕ) → r + (k + z) ≡ r + k + z
      place r k = omega arith
