-- Looking an address up in the bytes of a pool finds the paper's block: each head leads to the next block, up to the one that the address is in.
use mathlib.Core.List.{List, [], ◌∷◌}
use mathlib.Core.Logic.{inl, inr}
use mathlib.Core.Path.{◌∙◌, ◌≡◌, ap, refl, subst, sym}
use Prim.Native.Nat.{◌+◌, ◌≤◌, suc, zero, ℕ}
use native.Mathlib.Nat.{add-zero}
use native.Mathlib.Omega.{arith}
use Rattle.heads.specs.declared.head.Head.{Head}
use Rattle.paper.proofs.reads.Stands.{Stands}
use Rattle.paper.proofs.reads.Unique.{NoRemainder, high-no-remainder, low-no-remainder}
use Rattle.paper.proofs.runs.LookedUp.{block-above, block-below}
use Rattle.paper.specs.Blocks.{Block, Kind, State, block, blocks, free, held, remainder, total}
use Rattle.paper.specs.declared.Found.{Found}
use Rattle.paper.specs.declared.Found.TheVariants.{Nothing, Remainder}
use Rattle.paper.specs.Governed.{flag_above}
use Rattle.paper.specs.Granting.{E, R}
use Rattle.paper.specs.Layout.{blocks_at}
use Rattle.paper.specs.LookingUp as paper
use Rattle.paper.specs.Sound.{Sized}
use Rattle.walk.proofs.BlocksRead.{E-reads, HeadsRead, R-reads, end_is, end-size, head_for, high-heads, low-heads, parts}
use Rattle.walk.specs.Blocks.{head_at}
use Rattle.walk.specs.LookUp.{block_in, found_at}
use Rattle.walk.specs.LookUp as model
use Rattle.words.specs.Choice.{by<, if<, if<-no, if<-yes, if=, if=-no, if=-yes, when}
use Rattle.words.specs.Sums.{minus}

-- of a block that is not the remainder the head says the kind
kind-read : (z : ℕ) (c : Kind) (xs : List Block) (P p : ℕ) → NoRemainder (block z c ∷ xs) → found_at (head_for (block z c) P) p ≡ paper.found c p z
unfolding found_at when
kind-read z held xs P p n = refl
kind-read z free xs P p n = refl
kind-read z remainder xs P p n = absurd n

rest-no-remainder : (z : ℕ) (c : Kind) (xs : List Block) → NoRemainder (block z c ∷ xs) → NoRemainder xs
rest-no-remainder z held xs n = n
rest-no-remainder z free xs n = n
rest-no-remainder z remainder xs n = absurd n

module _ (bs : List ℕ) (a : ℕ) where
  -- what is found from p on, where the head h stands
  step : ℕ → ℕ → Head → Found
  step k p h = if= h.size 0 Nothing (if< a (p + h.size) (found_at h p) (block_in bs a k (p + h.size)))

  blocks-looked : (xs : List Block) (p P k : ℕ) → Sized xs → NoRemainder xs → HeadsRead bs xs p P → p ≤ a → a ≤ k + p
      → (p + total xs ≤ a → (head_at bs (p + total xs)).size ≡ 0) → block_in bs a (suc k) p ≡ paper.block_at xs p a
  unfolding block_in paper.block_at step
  blocks-looked [] p P k s n r l m o =
      if=-yes (head_at bs p).size 0 _ _ (subst (λ (q : ℕ). q ≤ a → (head_at bs q).size ≡ 0) (add-zero p) o l)
  blocks-looked (block z c ∷ xs) p P k s n r l m o =
      ap (step k p) (r p (block z c) P (inl (refl, refl, refl))) ∙ if=-no z 0 _ _ (omega (arith, s.0))
      ∙ by< a (p + z)
      (λ h. if<-yes a (p + z) _ _ h ∙ kind-read z c xs P p n ∙ sym (if<-yes a (p + z) _ _ h))
      (λ h. if<-no a (p + z) _ _ h
      ∙ more k (omega (arith, s.0))
      (λ j i. blocks-looked xs (p + z) (flag_above (block z c)) j s.1 (rest-no-remainder z c xs n) (λ q b P' w. r q b P' (inr w)) h
      (omega (arith, s.0)) (λ g. subst (λ (q : ℕ). (head_at bs q).size ≡ 0) (omega arith) (o (omega arith))))
      ∙ sym (if<-no a (p + z) _ _ h))
    where
      -- a step is left
      more : (k : ℕ) → 1 ≤ k → ((j : ℕ) → k ≡ suc j → block_in bs a (suc j) (p + z) ≡ paper.block_at xs (p + z) a)
          → block_in bs a k (p + z) ≡ paper.block_at xs (p + z) a
      more zero h f = absurd (omega arith)
      more (suc j) h f = f j refl

-- ---- the large blocks, the remainder, the small blocks
module _ (s : State) (bs : List ℕ) (S : Stands s bs) (a : ℕ) where
  rest_read : minus (E s) (R s) ≡ s.rest
  rest_read = omega (arith, end_is s bs S, S.ends, S.well_formed.fits)

  runs-looked : blocks_at ≤ a
      → if< a (R s) (model.block_at bs a blocks_at) (if< a (E s) (Remainder (R s) (minus (E s) (R s))) (model.block_at bs a (E s)))
      ≡ paper.block_at (blocks s) blocks_at a
  unfolding model.block_at paper.block_at
  runs-looked l =
      by< a (R s)
      (λ m. if<-yes a (R s) _ _ m
      ∙ blocks-looked bs a s.low blocks_at 1 a (parts s bs S).0 (low-no-remainder s.low S.well_formed.low_ok) (low-heads s bs S) l
      (omega arith) (λ g. absurd (omega arith))
      ∙ sym (block-below s.low (block s.rest remainder ∷ s.high) blocks_at a m l))
      (λ m. if<-no a (R s) _ _ m
      ∙ by< a (E s)
      (λ h. if<-yes a (E s) _ _ h ∙ ap (Remainder (R s)) rest_read
      ∙ sym (block-above s.low (block s.rest remainder ∷ s.high) blocks_at a m ∙ if<-yes a (E s) _ _ h))
      (λ h. if<-no a (E s) _ _ h
      ∙ blocks-looked bs a s.high (E s) 1 a (parts s bs S).1.1 (high-no-remainder s.high S.well_formed.high_ok) (high-heads s bs S) h
      (omega arith) (λ g. end-size s bs S)
      ∙ sym (block-above s.low (block s.rest remainder ∷ s.high) blocks_at a m ∙ if<-no a (E s) _ _ h)))

  pub look-up-read : model.look_up bs a ≡ paper.look_up s a
  unfolding model.look_up paper.look_up
  look-up-read =
      rw (R-reads s bs S, E-reads s bs S)
      (by< a blocks_at (λ l. if<-yes a blocks_at _ _ l ∙ sym (if<-yes a blocks_at _ _ l))
      (λ l. if<-no a blocks_at _ _ l ∙ runs-looked l ∙ sym (if<-no a blocks_at _ _ l)))
