-- The free neighbours of a block that comes back leave their bins, on bytes: none, the one below, the one above, or both.
use mathlib.Core.List.{List}
use mathlib.Core.Logic.{◌≢◌}
use mathlib.Core.Path.{◌∙◌, ◌≡◌, ap, subst, sym}
use Prim.Native.Nat.{◌+◌, ◌-◌, ◌≤◌, ℕ}
use native.Mathlib.Omega.{arith}
use Rattle.bins.proofs.Between.{Between, stands-between}
use Rattle.bins.proofs.Left.{Left, leave-left, none_left}
use Rattle.bins.proofs.LeftBoth.{both_left}
use Rattle.bins.specs.Leave.{leave, leave_both}
use Rattle.giveback.proofs.RunShape.{above_listed, below-listed, down-large, up-large}
use Rattle.giveback.specs.Large.{leave_below}
use Rattle.paper.proofs.bins.BinLaws.{count-rebin-leave}
use Rattle.paper.proofs.keeps.Settled.{fewer}
use Rattle.paper.proofs.reads.Stands.{Stands}
use Rattle.paper.proofs.runs.Neighbours.{Run, left-none, left-some}
use Rattle.paper.specs.Bins.{count, rebin, leave as leave-list}
use Rattle.paper.specs.Blocks.{State}
use Rattle.paper.specs.GivingBack.{left}
use Rattle.words.specs.Choice.{by=, if=, if=-no, if=-yes}
use Rattle.words.specs.Words.{Bytes}

module _ (s : State) (bs : List ℕ) (S : Stands s bs) (q z : ℕ) (r : Run s q z) where
  abbrev start : ℕ
  start = q - r.down

  B : Between s bs
  B = stands-between s bs S

  -- the one below, if any
  pub below_left : Left s bs (left s.bins r.down start) (leave_below bs start q)
  unfolding leave_below
  below_left =
      by= r.down 0
      (λ e. subst (λ (b : ℕ → List ℕ). Left s bs b (leave_below bs start q)) (sym (left-none s.bins r.down start e))
      (subst (Left s bs s.bins) (sym (if=-yes start q _ _ (omega arith))) (none_left s bs B)))
      (λ n. subst (λ (b : ℕ → List ℕ). Left s bs b (leave_below bs start q)) (sym (left-some s.bins r.down start n))
      (subst (Left s bs (rebin s.bins r.down (leave-list start (s.bins r.down)))) (sym (if=-no start q _ _ (omega (arith, r.starts))))
      (leave-left s bs B start r.down (down-large s S.well_formed q z r n) (below-listed s S.well_formed q z r n))))

  pub left-if-held-above : r.up ≡ 0 → Left s bs (fewer s q z r) (leave_below bs start q)
  left-if-held-above e =
      subst (λ (b : ℕ → List ℕ). Left s bs b (leave_below bs start q)) (sym (left-none (left s.bins r.down start) r.up (q + z) e)) below_left

  -- the one above alone
  pub above-left : r.down ≡ 0 → r.up ≢ 0 → Left s bs (fewer s q z r) (leave bs (q + z))
  above-left e n =
      subst (λ (b : ℕ → List ℕ). Left s bs b (leave bs (q + z)))
      (sym (left-some s.bins r.up (q + z) n) ∙ ap (λ (b : ℕ → List ℕ). left b r.up (q + z)) (sym (left-none s.bins r.down start e)))
      (leave-left s bs B (q + z) r.up (up-large s S.well_formed q z r n) (above_listed s S.well_formed q z r n))

  -- both
  pub both-neighbours-left : Bytes bs → r.down ≢ 0 → r.up ≢ 0 → Left s bs (fewer s q z r) (leave_both bs start (q + z))
  both-neighbours-left by d n =
      subst (λ (b : ℕ → List ℕ). Left s bs b (leave_both bs start (q + z)))
      (sym (left-some below r.up (q + z) n) ∙ ap (λ (b : ℕ → List ℕ). left b r.up (q + z)) (sym (left-some s.bins r.down start d)))
      (both_left s bs B by start r.down (down-large s S.well_formed q z r d) (below-listed s S.well_formed q z r d) (q + z) r.up
      (up-large s S.well_formed q z r n) still)
    where
      below : ℕ → List ℕ
      below = rebin s.bins r.down (leave-list start (s.bins r.down))

      none-there : if= {A = ℕ} r.down r.up (if= start (q + z) 1 0) 0 ≡ 0
      none-there =
          by= r.down r.up
          (λ f. if=-yes r.down r.up _ _ f ∙ if=-no start (q + z) _ _ (omega (arith, r.starts, r.sized)))
          (λ f. if=-no r.down r.up _ _ f)

      still : 1 ≤ count (q + z) (below r.up)
      still =
          omega (
            arith,
            above_listed s S.well_formed q z r n,
            count-rebin-leave s.bins r.down start r.up (q + z) (below-listed s S.well_formed q z r d),
            none-there,
          )
