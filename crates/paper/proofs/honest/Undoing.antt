-- Every state is bare, or some call leads to it: a give-back where a block is free, and otherwise a take.
use mathlib.Core.List.{List, [], ◌++◌, ◌∷◌}
use mathlib.Core.Logic.{◌⊎◌, inl, inr}
use mathlib.Core.Path.{◌≡◌, ap, refl, subst}
use Prim.Native.Nat.{◌+◌, ◌≤◌, ℕ}
use native.Mathlib.Omega.{arith}
use Rattle.paper.proofs.honest.AllHeld.{AllHeld, LastOf, held-edge, held_first, held-last, held-not-listed, held-or-free}
use Rattle.paper.proofs.bins.Bins.{count-nil, nil-of}
use Rattle.paper.proofs.keeps.Kept.{free_at-runs}
use Rattle.paper.proofs.runs.Splitting.{free_at-mid}
use Rattle.paper.proofs.honest.UndoBackLarge.{undo-large}
use Rattle.paper.proofs.honest.UndoBackSmall.{undo-small}
use Rattle.paper.proofs.honest.UndoTake.{undo-take-large, undo-take-small}
use Rattle.paper.proofs.honest.Undone.{Undone}
use Rattle.paper.proofs.reads.Unique.{high-no-remainder, low-no-remainder}
use Rattle.paper.specs.Bins.{count}
use Rattle.paper.specs.Blocks.{Block, State, block, blocks, free, held, total}
use Rattle.paper.specs.Granting.{E}
use Rattle.paper.specs.Layout.{blocks_at, large}
use Rattle.paper.specs.Sound.{Edge, WellFormed, free_at}
use Rattle.words.specs.Choice.{by<, if=, if=-yes}

free-here : (z p : ℕ) → free_at (block z free ∷ []) p z p ≡ 1
unfolding free_at
free-here z p = omega (arith, if=-yes {A = ℕ} z z (if= p p 1 0) 0 refl, if=-yes {A = ℕ} p p 1 0 refl)

-- no block but the remainder, and nothing listed
pub record Bare (s : State) : Type 0 where
  pub no-low : s.low ≡ []
  pub no-high : s.high ≡ []
  pub no-bins : (y : ℕ) → s.bins y ≡ []

module _ (s : State) (W : WellFormed s) (g : Edge s) where
  -- a free block is in its bin, which then has one that entered last
  free-undone : (z q : ℕ) → 1 ≤ free_at (blocks s) blocks_at z q → Undone s
  free-undone z q h = go (s.bins z) refl
    where
      go : (l : List ℕ) → s.bins z ≡ l → Undone s
      go [] e = absurd (omega (arith, W.listed z q, ap (count q) e, count-nil q))
      go (x ∷ l) e = by< z large (λ m. undo-small s W g z x l m e) (λ m. undo-large s W z x l m e)

  low-undone : (us : List Block) (z : ℕ) (vs : List Block) → s.low ≡ us ++ block z free ∷ vs → Undone s
  low-undone us z vs is =
      free-undone z (blocks_at + total us)
      (omega (
        arith,
        free_at-runs s z (blocks_at + total us),
        ap (λ (k : List Block). free_at k blocks_at z (blocks_at + total us)) is,
        free_at-mid us (block z free ∷ []) vs blocks_at (blocks_at + total us) (blocks_at + total us + z) z (blocks_at + total us) refl (omega arith),
        free-here z (blocks_at + total us),
      ))

  high-undone : (us : List Block) (z : ℕ) (vs : List Block) → s.high ≡ us ++ block z free ∷ vs → Undone s
  high-undone us z vs is =
      free-undone z (E s + total us)
      (omega (
        arith,
        free_at-runs s z (E s + total us),
        ap (λ (k : List Block). free_at k (E s) z (E s + total us)) is,
        free_at-mid us (block z free ∷ []) vs (E s) (E s + total us) (E s + total us + z) z (E s + total us) refl (omega arith),
        free-here z (E s + total us),
      ))

  empty-bins : AllHeld s.low → AllHeld s.high → (y : ℕ) → s.bins y ≡ []
  empty-bins a b y =
      nil-of (s.bins y)
      (λ q. omega (arith, W.listed y q, free_at-runs s y q, held-not-listed s.low a blocks_at y q, held-not-listed s.high b (E s) y q))

  -- all blocks are held
  held-undone : AllHeld s.low → AllHeld s.high → Undone s ⊎ Bare s
  held-undone a b = low (held-last s.low a W.low_ok) (held_first s.high b)
    where
      low : (s.low ≡ []) ⊎ LastOf s.low → (s.high ≡ []) ⊎ ((z : ℕ) × (vs : List Block) × (s.high ≡ block z held ∷ vs)) → Undone s ⊎ Bare s
      low (inr r) h = inl (undo-take-large s W (empty-bins a b) r.0 r.1 r.2 r.3 r.4)
      low (inl e) (inr r) = inl (undo-take-small s W (empty-bins a b) r.0 r.1 r.2 (held-edge r.1 (subst AllHeld r.2 b)))
      low (inl e) (inl f) = inr (record { no-low = e; no-high = f; no-bins = empty-bins a b })

  pub undo : Undone s ⊎ Bare s
  undo = low (held-or-free s.low (low-no-remainder s.low W.low_ok)) (held-or-free s.high (high-no-remainder s.high W.high_ok))
    where
      low : AllHeld s.low ⊎ ((us : List Block) × (z : ℕ) × (vs : List Block) × (s.low ≡ us ++ block z free ∷ vs))
          → AllHeld s.high ⊎ ((us : List Block) × (z : ℕ) × (vs : List Block) × (s.high ≡ us ++ block z free ∷ vs))
          → Undone s ⊎ Bare s
      low (inr r) h = inl (low-undone r.0 r.1 r.2 r.3)
      low (inl a) (inr r) = inl (high-undone r.0 r.1 r.2 r.3)
      low (inl a) (inl b) = held-undone a b
