-- The smallest bin of at least a size: what it is that is found, and when nothing is found.
use mathlib.Core.Logic.{◌≢◌}
use mathlib.Core.Path.{◌∙◌, ◌≡◌, ap, refl, sym}
use Prim.Native.Nat.{◌<◌, ◌≤◌, ℕ}
use native.Mathlib.Omega.{arith}
use Rattle.paper.proofs.bins.Bins.{first_count}
use Rattle.paper.proofs.bins.Listed.{Loose, start}
use Rattle.paper.proofs.bins.Seek.{seek-gap, seek-spec, seek-zero}
use Rattle.paper.specs.Bins.{first}
use Rattle.paper.specs.Blocks.{State, end}
use Rattle.paper.specs.Granting.{smallest_bin}
use Rattle.words.specs.Choice.{by=, if=, if=-no, if=-yes}

-- no bin is larger than the pool
pub no-bin-past : (s : State) → Loose s → (z : ℕ) → end s < z → first (s.bins z) ≡ 0
no-bin-past s W z l =
    by= (first (s.bins z)) 0 (λ e. e)
    (λ n. absurd (omega (arith, start s W z (first (s.bins z)) (first_count (s.bins z) (first (s.bins z)) refl n))))

module _ (s : State) (y : ℕ) where
  abbrev size_where : ℕ → ℕ
  size_where z = if= (first (s.bins z)) 0 0 z

  -- it is not empty
  pub smallest-found : smallest_bin s y ≢ 0 → (y ≤ smallest_bin s y) × (first (s.bins (smallest_bin s y)) ≢ 0)
  unfolding smallest_bin
  smallest-found n =
      let r = seek-spec size_where (end s) y n in
      by= (first (s.bins r.0)) 0 (λ e. absurd (n (sym r.2 ∙ if=-yes _ 0 _ _ e)))
      (λ m. let e : r.0 ≡ smallest_bin s y = sym (if=-no _ 0 _ _ m) ∙ r.2 in
      (omega (arith, r.1), λ k. m (ap (λ (z : ℕ). first (s.bins z)) e ∙ k)))

  pub smallest-none : ((u : ℕ) → y ≤ u → first (s.bins u) ≡ 0) → smallest_bin s y ≡ 0
  unfolding smallest_bin
  smallest-none h = seek-zero size_where (end s) y (λ u l. if=-yes (first (s.bins u)) 0 _ _ (h u l))

  module _ (W : Loose s) (pos : 1 ≤ y) where
    pub smallest-is : (z : ℕ) → y ≤ z → first (s.bins z) ≢ 0 → ((u : ℕ) → y ≤ u → u < z → first (s.bins u) ≡ 0) → smallest_bin s y ≡ z
    unfolding smallest_bin
    smallest-is z l n gap =
        let here : size_where z ≡ z = if=-no (first (s.bins z)) 0 _ _ n in
        seek-gap size_where z (λ o. omega (arith, sym here ∙ o)) (end s) y l
        (omega (arith, start s W z (first (s.bins z)) (first_count (s.bins z) (first (s.bins z)) refl n)))
        (λ u a b. if=-yes (first (s.bins u)) 0 _ _ (gap u a b))
        ∙ here
