-- A pool between two steps of an operation: its bytes hold the sheet of a state in which a free block may be in no list.
use mathlib.Core.List.{List}
use mathlib.Core.Logic.{◌⊎◌}
use mathlib.Core.Path.{◌∙◌, ◌≡◌, subst, sym}
use Prim.Native.Nat.{◌-◌, ◌≤◌, ℕ}
use native.Mathlib.Omega.{arith}
use lib.ListN.{length}
use Rattle.paper.proofs.bins.Listed.{Loose, loose}
use Rattle.paper.proofs.reads.LooseReads.{head-word-reads}
use Rattle.paper.proofs.reads.Stands.{Stands}
use Rattle.paper.proofs.runs.Walk.{In}
use Rattle.paper.proofs.sheet.FreeWordLast.{free-word-reads}
use Rattle.paper.proofs.sheet.Phases.{Step, step-holds}
use Rattle.paper.proofs.sheet.Stores.{length-puts, puts}
use Rattle.paper.specs.Blocks.{Kind, State, block, blocks, end, free_sum}
use Rattle.paper.specs.Governed.{head_word, sheet}
use Rattle.paper.specs.Layout.{blocks_at, free_word_at}
use Rattle.paper.specs.Sheet.{Holds}
use Rattle.words.specs.Words.{word_at}

pub record Between (s : State) (bs : List ℕ) : Type 0 where
  pub loose : Loose s
  pub layout : (s.top ≡ 1) ⊎ (s.top ≡ 13)
  pub fits : end s ≤ 65536
  pub long : length bs ≡ end s
  pub holds : Holds (sheet s) bs

pub stands-between : (s : State) (bs : List ℕ) → Stands s bs → Between s bs
stands-between s bs S =
    record {
      loose = loose s S.well_formed;
      layout = S.well_formed.layout;
      fits = S.well_formed.fits;
      long = sym S.ends;
      holds = S.holds;
    }

module _ (s : State) (bs : List ℕ) (B : Between s bs) where
  -- after a further step
  pub step-between : (s' : State) (ps : List (ℕ × ℕ)) → Loose s' → s'.top ≡ s.top → end s' ≡ end s → Step (end s') (sheet s) (sheet s') ps
      → Between s' (puts ps bs)
  step-between s' ps W t e S =
      record {
        loose = W;
        layout = subst (λ (k : ℕ). (k ≡ 1) ⊎ (k ≡ 13)) (sym t) B.layout;
        fits = omega (arith, B.fits);
        long = length-puts ps bs ∙ B.long ∙ sym e;
        holds = step-holds (sheet s) (sheet s') bs ps (subst (λ (n : ℕ). Step n (sheet s) (sheet s') ps) (e ∙ sym B.long) S) B.holds;
      }

  pub head_read : (q z : ℕ) (k : Kind) (P : ℕ) → In (blocks s) blocks_at 1 q (block z k) P → word_at 4 bs q ≡ head_word z k P
  head_read q z k P i = head-word-reads bs s B.loose B.fits B.long B.holds q z k P i

  pub free-word-read : word_at 4 bs free_word_at ≡ free_sum (blocks s) - 4
  free-word-read = free-word-reads bs s B.fits B.long B.holds
