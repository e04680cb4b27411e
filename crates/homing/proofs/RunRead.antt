-- What homing::free_run reads of a pool: the free blocks from a place on, up to a held block or the pool's end.
-- By induction on the blocks, as each head is read.
use mathlib.Core.List.{List, [], ◌++◌, ◌∷◌, append_assoc}
use mathlib.Core.Logic.{inl, inr}
use mathlib.Core.Path.{◌∙◌, ◌≡◌, ap, refl, subst, sym}
use Prim.Native.Nat.{◌+◌, ◌<◌, ◌≤◌, suc, zero, ℕ}
use native.Mathlib.Nat.{zero-add}
use native.Mathlib.Omega.{arith}
use lib.ListN.{length}
use Rattle.heads.specs.Heads.{head_of}
use Rattle.heads.specs.declared.head.Head.{Head}
use Rattle.homing.specs.Homing.{ended, free_run, run_from}
use Rattle.paper.proofs.home.GoneHome.{AllFree}
use Rattle.paper.proofs.keeps.Kept.{end-runs, sized-high}
use Rattle.paper.proofs.reads.HeadWords.{head-of-word}
use Rattle.paper.proofs.reads.Readings.{head-reads}
use Rattle.paper.proofs.runs.Flags.{high-flag}
use Rattle.paper.proofs.runs.LowHigh.{high_parts}
use Rattle.paper.proofs.runs.Walk.{In, in-flag, in-mid, sized-parts, total-append}
use Rattle.paper.specs.Blocks.{Block, State, block, blocks, end, free, held, remainder, total}
use Rattle.paper.specs.Governed.{flag_above, sheet}
use Rattle.paper.specs.Granting.{E}
use Rattle.paper.specs.Layout.{blocks_at}
use Rattle.paper.specs.Sheet.{Holds}
use Rattle.paper.specs.Sound.{HeldFirst, High, Sized, WellFormed}
use Rattle.walk.proofs.BlocksRead.{HeadsRead, head_for}
use Rattle.walk.specs.Blocks.{head_at, pool_end}
use Rattle.words.specs.Choice.{by<, if<-no, if<-yes, if=-no, when-no, when-yes}
use Rattle.words.specs.Sums.{plus}

-- k blocks were counted before; `to` is where the blocks end
run-reads : (bs : List ℕ) (run above : List Block) (p P k f to : ℕ) → AllFree run → HeldFirst above → Sized (run ++ above)
    → HeadsRead bs (run ++ above) p P → p + total (run ++ above) ≡ to → to ≤ 65536 → to < f + p → k + total run ≤ 65536
    → run_from f bs to p k ≡ ended (p + total run) (k + length run)
unfolding run_from
run-reads bs [] [] p P k zero to fr hf sz r e n m c = absurd (omega arith)
run-reads bs [] [] p P k (suc f) to fr hf sz r e n m c =
    if<-no p to _ _ (omega arith) ∙ same (omega arith) (omega arith)
  where
    same : p ≡ p + 0 → k ≡ k + 0 → ended p k ≡ ended (p + 0) (k + 0)
    same a b = λ i. ended (a i) (b i)
run-reads bs [] (block z held ∷ above) p P k zero to fr hf sz r e n m c = absurd (omega (arith, sz.0))
run-reads bs [] (block z held ∷ above) p P k (suc f) to fr hf sz r e n m c =
    if<-yes p to _ _ (omega (arith, sz.0))
    ∙ when-yes (head_at bs p).held _ _ (ap (λ (h : Head). h.held) (r p (block z held) P (inl (refl, refl, refl))))
    ∙ same (omega arith) (omega arith)
  where
    same : p ≡ p + 0 → k ≡ k + 0 → ended p k ≡ ended (p + 0) (k + 0)
    same a b = λ i. ended (a i) (b i)
run-reads bs [] (block z free ∷ above) p P k f to fr hf sz r e n m c = absurd hf
run-reads bs [] (block z remainder ∷ above) p P k f to fr hf sz r e n m c = absurd hf
run-reads bs (block z held ∷ run) above p P k f to fr hf sz r e n m c = absurd fr
run-reads bs (block z remainder ∷ run) above p P k f to fr hf sz r e n m c = absurd fr
run-reads bs (block z free ∷ run) above p P k zero to fr hf sz r e n m c = absurd (omega (arith, sz.0))
run-reads bs (block z free ∷ run) above p P k (suc f) to fr hf sz r e n m c =
    if<-yes p to _ _ (omega (arith, sz.0))
    ∙ when-no (head_at bs p).held _ _ (ap (λ (h : Head). h.held) here)
    ∙ if=-no (head_at bs p).size 0 _ _ (omega (arith, sz.0, long))
    ∙ (λ i. run_from f bs to (place i) (one i))
    ∙ run-reads bs run above (p + z) (flag_above (block z free)) (k + 1) f to fr hf sz.1 (λ q b P' i. r q b P' (inr i)) (omega arith) n
    (omega (arith, sz.0)) (omega (arith, sz.0))
    ∙ same (omega arith) (omega arith)
  where
    here : head_at bs p ≡ head_for (block z free) P
    here = r p (block z free) P (inl (refl, refl, refl))

    long : (head_at bs p).size ≡ z
    long = ap (λ (h : Head). h.size) here

    place : plus p (head_at bs p).size ≡ p + z
    place = omega (arith, long, sz.0)

    one : plus k 1 ≡ k + 1
    one = omega (arith, sz.0)

    same : p + z + total run ≡ p + (z + total run) → k + 1 + length run ≡ k + suc (length run)
        → ended (p + z + total run) (k + 1 + length run) ≡ ended (p + (z + total run)) (k + suc (length run))
    same a b = λ i. ended (a i) (b i)

module _ (s : State) (bs : List ℕ) (W : WellFormed s) (l : end s ≡ length bs) (h : Holds (sheet s) bs)
    (pre run above : List Block) (is : s.high ≡ (pre ++ run) ++ above) where
  apart : s.high ≡ pre ++ (run ++ above)
  apart = is ∙ append_assoc pre run above

  -- all the small blocks are there, and no pool is longer than 65,536 bytes
  last : E s + total pre + total (run ++ above) ≡ end s
  last = omega (arith, end-runs s, ap total apart, total-append pre (run ++ above))

  pool-end-is : pool_end bs ≡ end s
  unfolding pool_end
  pool-end-is =
      by< (length bs) 65536 (λ m. if<-yes (length bs) 65536 _ _ m ∙ sym l)
      (λ m. if<-no (length bs) 65536 _ _ m ∙ omega (arith, l, W.fits))

  heads : HeadsRead bs (run ++ above) (E s + total pre) 1
  heads q (block z k) P i =
      let j : In (blocks s) blocks_at 1 q (block z k) P =
      in-mid s.low (block s.rest remainder ∷ s.high) blocks_at 1 q (block z k) P
      (inr (subst (λ (xs : List Block). In xs (E s) 1 q (block z k) P) (sym apart)
      (in-mid pre (run ++ above) (E s) 1 q (block z k) P
      (subst (λ (F : ℕ). In (run ++ above) (E s + total pre) F q (block z k) P)
      (sym (high-flag pre (high_parts pre (run ++ above) (subst High apart W.high_ok)).0)) i)))) in
      ap head_of (head-reads bs s W (sym l) h q z k P j) ∙ head-of-word z k P (in-flag (blocks s) blocks_at 1 q (block z k) P (omega arith) j)

  pub free-run-is : AllFree run → HeldFirst above → free_run bs (E s + total pre) ≡ ended (E s + total (pre ++ run)) (length run)
  unfolding free_run
  free-run-is fr hf =
      (λ i. run_from (suc (pool-end-is i)) bs (pool-end-is i) (E s + total pre) 0)
      ∙ run-reads bs run above (E s + total pre) 1 0 (suc (end s)) (end s) fr hf
      (sized-parts pre (run ++ above) (subst Sized apart (sized-high s W))).1 heads last W.fits (omega arith)
      (omega (arith, last, total-append run above, W.fits))
      ∙ (λ i. ended (place i) (zero-add (length run) i))
    where
      place : E s + total pre + total run ≡ E s + total (pre ++ run)
      place = omega (arith, total-append pre run)
