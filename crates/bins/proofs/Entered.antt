-- A run of bytes becomes a free block and enters its bin, after other stores and before the free word is stored: the bytes are those that
-- the sheet of the state with the block in its bin writes. O is the state before, N the one with the block in no list yet.
use mathlib.Core.List.{List, [], ◌++◌, ◌∷◌}
use mathlib.Core.Path.{◌∙◌, ◌≡◌, ap}
use Prim.Native.Nat.{◌%◌, ◌+◌, ◌-◌, ◌≤◌, ℕ}
use native.Mathlib.Omega.{arith}
use Rattle.bins.proofs.Between.{Between, step-between}
use Rattle.bins.proofs.EnterApart.{enter-free-word, enter-last}
use Rattle.bins.proofs.EnterBytes.{enter_bin-bytes}
use Rattle.bins.specs.Enter.{enter, enter_bin, make_free}
use Rattle.paper.proofs.bins.BinLaws.{count-enter-self, count-rebin-enter}
use Rattle.paper.proofs.bins.Listed.{Loose, rebin-same}
use Rattle.paper.proofs.reads.HeadWords.{free_head-is}
use Rattle.paper.proofs.runs.Walk.{In, in-high, in-low}
use Rattle.paper.proofs.sheet.FreeWordLast.{Past, good-keeps, past_word, puts-append}
use Rattle.paper.proofs.sheet.Phases.{Step}
use Rattle.paper.proofs.sheet.Stores.{Good, length-puts, puts}
use Rattle.paper.proofs.sheet.Written.{write-over}
use Rattle.paper.proofs.steps.Leaving.{rebinned}
use Rattle.paper.specs.Bins.{count, enter as enter-list}
use Rattle.paper.specs.Blocks.{State, block, blocks, end, free}
use Rattle.paper.specs.Governed.{head_word, sheet}
use Rattle.paper.specs.Layout.{blocks_at, free_word_at, large}
use Rattle.paper.specs.Sheet.{write}
use Rattle.words.specs.Words.{put_at, word_at}

-- the head of a free block, at its start and at its end
abbrev pub free-heads : ℕ → ℕ → List (ℕ × ℕ)
free-heads q z = (q, head_word z free 1) ∷ (q + (z - 4), head_word z free 1) ∷ []

make_free-stores : (bs : List ℕ) (q z : ℕ) → q + z ≤ 65536 → 4 ≤ z → make_free bs q z ≡ puts (free-heads q z) bs
unfolding make_free
make_free-stores bs q z l m =
    let a : (q + z) % 4294967296 ≡ q + z = omega arith in
    let b : (q + z + 4294967296 - 4) % 4294967296 ≡ q + (z - 4) = omega arith in
    rw (free_head-is z (omega arith), a, b)

-- in no list yet
pub entered-alone : (N : State) (q z : ℕ) → Loose (rebinned N z (enter-list q (N.bins z))) → count q (N.bins z) ≡ 0
entered-alone N q z W = omega (arith, W.once z q, ap (count q) (rebin-same N.bins z (enter-list q (N.bins z))), count-enter-self q (N.bins z))

module _ (O : State) (cs : List ℕ) (B : Between O cs) (N : State) (top : N.top ≡ O.top) (ends : end N ≡ end O)
    (q z P : ℕ) (big : large ≤ z) (at : In (blocks N) blocks_at 1 q (block z free) P) (ps : List (ℕ × ℕ)) (past : Past ps) where
  abbrev pub with-block : State
  with-block = rebinned N z (enter-list q (N.bins z))

  abbrev pub all-stores : ℕ → List (ℕ × ℕ)
  all-stores v = ps ++ (free-heads q z ++ (free_word_at, v) ∷ [])

  inside : q + z ≤ 65536
  inside = omega (arith, ends, B.fits, in-high (blocks N) blocks_at 1 q (block z free) P at)

  abbrev freed : List ℕ
  freed = puts (free-heads q z) (puts ps cs)

  enters : enter (puts ps cs) q z ≡ enter_bin freed q z
  unfolding enter
  enters = ap (λ (k : List ℕ). enter_bin k q z) (make_free-stores (puts ps cs) q z inside (omega arith))

  module _ (W : Loose with-block) (v : ℕ) (step : Step (end N) (sheet O) (sheet N) (all-stores v)) where
    fewer : (u x : ℕ) → count x (N.bins u) ≤ count x (with-block.bins u)
    fewer u x = omega (arith, count-rebin-enter N.bins z q u x)

    -- before it enters
    loose-before : Loose N
    loose-before =
        record {
          sized = W.sized;
          top1 = W.top1;
          top13 = W.top13;
          once = λ u x. omega (arith, fewer u x, W.once u x);
          found = λ u x i. W.found u x (omega (arith, fewer u x));
        }

    abbrev bs : List ℕ
    bs = puts (all-stores v) cs

    between : Between N bs
    between = step-between O cs B N (all-stores v) loose-before top ends step

    alone : count q (N.bins z) ≡ 0
    alone = entered-alone N q z W

    stored : bs ≡ put_at 4 freed free_word_at v
    stored = puts-append ps (free-heads q z ++ (free_word_at, v) ∷ []) cs

    -- the free word is as it was
    pub entered-word : word_at 4 (enter (puts ps cs) q z) free_word_at ≡ word_at 4 cs free_word_at
    entered-word =
        let l = in-low (blocks N) blocks_at 1 q (block z free) P at in
        ap (λ (k : List ℕ). word_at 4 k free_word_at) enters
        ∙ enter-free-word N bs between freed v stored q z P at alone big
        ∙ past_word (free-heads q z) (puts ps cs) (omega arith, (omega arith, tt))
        ∙ past_word ps cs past

    pub entered-written : Good (sheet with-block) (end with-block) (all-stores v) → put_at 4 (enter (puts ps cs) q z) free_word_at v ≡ write (sheet with-block) cs
    entered-written good =
        ap (λ (k : List ℕ). put_at 4 k free_word_at v) enters
        ∙ enter-last N bs between freed v stored q z P at alone big
        ∙ enter_bin-bytes N loose-before q z P at alone big bs between
        ∙ write-over (sheet with-block) cs bs (length-puts (all-stores v) cs)
        (λ i _ e. good-keeps (sheet with-block) (end with-block) (all-stores v) cs good i e)
