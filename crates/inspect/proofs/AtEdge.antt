-- What the test of the block at E says of a pool that is sound by the old rule: that it meets the rule in force.
use mathlib.Core.Bool.{false, true}
use mathlib.Core.List.{List, [], ◌∷◌}
use mathlib.Core.Logic.{◌⊎◌, inl, inr}
use mathlib.Core.Path.{◌∙◌, ◌≡◌, ap, refl, subst, sym}
use Prim.Native.Nat.{ℕ}
use native.Mathlib.Omega.{arith}
use lib.Dec.{eqb}
use lib.ListN.{length}
use Rattle.guards.proofs.Guards.{no_both}
use Rattle.heads.specs.Heads.{head_of}
use Rattle.heads.specs.declared.head.Head.{Head}
use Rattle.inspect.specs.Inspection.{edge_held}
use Rattle.paper.proofs.keeps.Kept.{end-runs, sized-high}
use Rattle.paper.proofs.reads.HeadWords.{head-of-word}
use Rattle.paper.proofs.reads.Readings.{head-reads, rest-reads}
use Rattle.paper.proofs.runs.Walk.{In, in-mid}
use Rattle.paper.specs.Blocks.{Block, Kind, State, block, blocks, free, held, remainder, total}
use Rattle.paper.specs.Governed.{held_bit}
use Rattle.paper.specs.Granting.{E}
use Rattle.paper.specs.Layout.{blocks_at, end_at}
use Rattle.paper.specs.Sound.{Edge, HeldFirst, High, OldSound, Sized}
use Rattle.words.specs.Choice.{if=, if=-no, if=-yes}
use Rattle.words.specs.Words.{word_at}

-- ---- as the code asks

module _ (bs : List ℕ) {e : ℕ} (ee : e ≡ word_at 4 bs end_at) where
  pub asks-end : e ≡ length bs → true ≡ edge_held bs
  unfolding edge_held
  asks-end k = sym (if=-yes (word_at 4 bs end_at) (length bs) _ _ (sym ee ∙ k))

  pub asks-head : (e ≡ length bs → ⊥) → {w : ℕ} {h : Head} → w ≡ word_at 4 bs e → h ≡ head_of w → h.held ≡ edge_held bs
  unfolding edge_held
  asks-head n ew eh =
      ap (λ (h : Head). h.held) (eh ∙ ap head_of (ew ∙ ap (word_at 4 bs) ee))
      ∙ sym (if=-no (word_at 4 bs end_at) (length bs) _ _ (λ k. n (ee ∙ k)))

-- ---- of a pool that is sound by the old rule

module _ (bs : List ℕ) (S : OldSound bs) where
  abbrev s : State
  s = S.state

  at-end : word_at 4 bs end_at ≡ E s
  at-end = rest-reads bs s S.well_formed (sym S.ends) S.holds

  asked : edge_held bs ≡ if= (E s) (length bs) true (head_of (word_at 4 bs (E s))).held
  unfolding edge_held
  asked = ap (λ (e : ℕ). if= e (length bs) true (head_of (word_at 4 bs e)).held) at-end

  -- a block is there, and its head says of which kind it is
  there : (z : ℕ) (k : Kind) (xs : List Block) → s.high ≡ block z k ∷ xs → edge_held bs ≡ eqb (held_bit k) 1
  there z k xs is =
      let i : In (blocks s) blocks_at 1 (E s) (block z k) 1 =
      in-mid s.low (block s.rest remainder ∷ s.high) blocks_at 1 (E s) (block z k) 1
      (inr (subst (λ (l : List Block). In l (E s) 1 (E s) (block z k) 1) (sym is) (inl (refl, refl, refl)))) in
      let w = head-reads bs s S.well_formed (sym S.ends) S.holds (E s) z k 1 i in
      let zs = subst Sized is (sized-high s S.well_formed) in
      asked ∙ if=-no (E s) (length bs) _ _ (omega (arith, S.ends, end-runs s, ap total is, zs.0))
      ∙ ap (λ (v : ℕ). (head_of v).held) w ∙ ap (λ (h : Head). h.held) (head-of-word z k 1 (omega arith))

  decided : (xs : List Block) → s.high ≡ xs → High xs → ((edge_held bs ≡ true) × HeldFirst xs) ⊎ ((edge_held bs ≡ false) × (HeldFirst xs → ⊥))
  decided [] is h = inl (asked ∙ if=-yes (E s) (length bs) _ _ (omega (arith, S.ends, end-runs s, ap total is)), tt)
  decided (block z held ∷ xs) is h = inl (there z held xs is, tt)
  decided (block z free ∷ xs) is h = inr (there z free xs is, λ e. e)
  decided (block z remainder ∷ xs) is h = absurd h

  pub edge-only : edge_held bs ≡ true → Edge s
  edge-only e = go (decided s.high refl S.well_formed.high_ok)
    where
      go : ((edge_held bs ≡ true) × Edge s) ⊎ ((edge_held bs ≡ false) × (Edge s → ⊥)) → Edge s
      go (inl d) = d.1
      go (inr d) = absurd (no_both (sym d.0 ∙ e))

  pub edge-every : Edge s → edge_held bs ≡ true
  edge-every g = go (decided s.high refl S.well_formed.high_ok)
    where
      go : ((edge_held bs ≡ true) × Edge s) ⊎ ((edge_held bs ≡ false) × (Edge s → ⊥)) → edge_held bs ≡ true
      go (inl d) = d.0
      go (inr d) = absurd (d.1 g)
