-- The run touches R: with or without a free block below, the model makes what the paper's sheet writes of a remainder that starts with the run.
use mathlib.Core.List.{List, [], ◌++◌, ◌∷◌, append-nil}
use mathlib.Core.Path.{◌∙◌, ◌≡◌, ap, refl, subst, sym}
use Prim.Native.Nat.{◌%◌, ◌+◌, ◌-◌, ◌≤◌, ℕ}
use native.Mathlib.Omega.{arith}
use lib.ListN.{length}
use Rattle.bins.proofs.Between.{free-word-read}
use Rattle.bins.proofs.Left.{Left, grows_same, left-write}
use Rattle.giveback.proofs.Earning.{earned-is}
use Rattle.giveback.proofs.IntoRemainder.{rest_end, rest-step, rest-stores}
use Rattle.giveback.proofs.RunEnters.{run-gain}
use Rattle.giveback.proofs.RunLeft.{left-if-held-above}
use Rattle.giveback.proofs.RunShape.{flag-under}
use Rattle.giveback.specs.Large.{join_rest, leave_below}
use Rattle.giveback.specs.GiveBack.{earned}
use Rattle.paper.proofs.keeps.BackLargeKeeps.{run-keeps}
use Rattle.paper.proofs.sheet.FreeWordLast.{past_word}
use Rattle.paper.proofs.keeps.Kept.{Kept, sized-low, sized-rest}
use Rattle.paper.proofs.steps.Leave.{with-bins}
use Rattle.paper.proofs.bins.Listed.{Loose, loose}
use Rattle.paper.proofs.runs.Neighbours.{Run}
use Rattle.paper.proofs.sheet.Phases.{Step, step-write}
use Rattle.paper.proofs.keeps.Settled.{fewer, give_back_large-settles, into_remainder, joined, joined-total, run_ends, settle-joins}
use Rattle.paper.proofs.runs.Splitting.{sized-mid-parts}
use Rattle.paper.proofs.reads.HeadWords.{free_head-is}
use Rattle.paper.proofs.reads.Stands.{Stands}
use Rattle.paper.proofs.sheet.Stores.{puts}
use Rattle.paper.proofs.runs.Walk.{free_sum-append, free_sum-le, sized-eight, total-append}
use Rattle.paper.proofs.sheet.Written.{holds-word}
use Rattle.paper.specs.Blocks.{Block, State, block, blocks, end, free_sum, remainder, total}
use Rattle.paper.specs.GivingBack.{give_back_large, settle as settle-state}
use Rattle.paper.specs.Governed.{head_word, header_word, sheet}
use Rattle.paper.specs.Granting.{E, R}
use Rattle.paper.specs.Sheet.{write}
use Rattle.paper.specs.Sound.{Sized}
use Rattle.words.specs.Choice.{if<, if=}
use Rattle.words.specs.Words.{put_at, word_at}

module _ (s : State) (bs : List ℕ) (S : Stands s bs) (q z : ℕ) (r : Run s q z) (up : r.up ≡ 0) (over : r.over ≡ []) where
  abbrev ms : List Block
  ms = joined s q z r

  abbrev b : ℕ → List ℕ
  b = fewer s q z r

  abbrev start : ℕ
  start = q - r.down

  abbrev cs : List ℕ
  cs = leave_below bs start q

  abbrev N : State
  N = into_remainder s b r.under (total ms)

  A : Left s bs b cs
  A = left-if-held-above s bs S q z r up

  low-is : s.low ≡ r.under ++ (ms ++ [])
  low-is = r.is ∙ ap (λ (l : List Block). r.under ++ (ms ++ l)) over

  two-parts : s.low ≡ r.under ++ ms
  two-parts = low-is ∙ ap (λ (l : List Block). r.under ++ l) (append-nil ms)

  starts-at : 168 + total r.under ≡ start
  starts-at = omega (arith, r.starts)

  to_end : start + total ms ≡ q + z + r.up
  to_end = omega (arith, r.starts, joined-total s q z r)

  touches-R : q + z + r.up ≡ R s
  touches-R =
      omega (arith, run_ends s (sized-low s S.well_formed) r.under ms [] start (q + z + r.up) b low-is starts-at to_end)

  joins : settle-state s b start (q + z + r.up) ≡ N
  joins = settle-joins s (sized-low s S.well_formed) r.under ms [] start (q + z + r.up) b low-is starts-at to_end touches-R

  after : give_back_large s q z ≡ N
  after = give_back_large-settles s q z r ∙ joins

  N-loose : Loose N
  N-loose = loose N (subst (Kept s) joins (run-keeps s S.well_formed q z r)).well_formed

  parts : Sized r.under × Sized ms × Sized []
  parts = sized-mid-parts r.under ms [] (subst Sized low-is (sized-low s S.well_formed))

  long : length cs ≡ end s
  long = A.now.long

  step : Step (length cs) (sheet (with-bins s b)) (sheet N) (rest-stores s b r.under ms two-parts (flag-under s S.well_formed q z r))
  step =
      subst (λ (n : ℕ). Step n (sheet (with-bins s b)) (sheet N) (rest-stores s b r.under ms two-parts (flag-under s S.well_formed q z r)))
      (rest_end s b r.under ms two-parts (flag-under s S.well_formed q z r) ∙ sym long)
      (rest-step s b r.under ms two-parts (flag-under s S.well_formed q z r) (omega (arith, sized-eight r.under parts.0))
      (sized-rest s S.well_formed).0)

  -- what is read once the block below has left
  end-near : E s ≤ end s
  end-near = omega (arith, total-append s.low (block s.rest remainder ∷ s.high))

  end_read : word_at 4 cs 24 ≡ E s
  unfolding sheet header_word if< if=
  end_read = holds-word (sheet (with-bins s b)) cs 24 (E s) A.now.holds refl (omega (arith, long)) (omega (arith, end-near, S.well_formed.fits)) refl

  free-sum : free_sum (blocks s) ≡ free_sum r.under + free_sum ms + (s.rest + free_sum s.high)
  free-sum = omega (
    arith,
    free_sum-append s.low (block s.rest remainder ∷ s.high),
    ap free_sum two-parts,
    free_sum-append r.under ms,
  )

  low-total : total s.low ≡ total r.under + total ms
  low-total = ap total two-parts ∙ total-append r.under ms

  -- the two stores before the free word
  abbrev put_two : List ℕ
  put_two = puts ((16, start) ∷ (start, head_word (total ms + s.rest) remainder 1) ∷ []) cs

  made : join_rest bs start q ≡ put_two
  unfolding join_rest
  made =
      let d : (E s + 4294967296 - start) % 4294967296 ≡ total ms + s.rest = omega (arith, starts-at, low-total, end-near, S.well_formed.fits) in
      rw (end_read, d, free_head-is (total ms + s.rest) (omega (arith, starts-at, low-total, end-near, S.well_formed.fits)))

  word-before : word_at 4 put_two 0 ≡ free_sum (blocks s) - 4
  word-before =
      past_word ((16, start) ∷ (start, head_word (total ms + s.rest) remainder 1) ∷ []) cs (omega arith, (omega (arith, starts-at), tt))
      ∙ free-word-read (with-bins s b) cs A.now

  sum-after : free_sum (blocks s) - 4 + z ≡ free_sum r.under + (total ms + s.rest + free_sum s.high) - 4
  sum-after = omega (arith, free-sum, run-gain s q z r, (sized-rest s S.well_formed).0)

  pub rest-bytes : earned (join_rest bs start q) z ≡ write (sheet (give_back_large s q z)) bs
  rest-bytes =
      ap (λ (k : List ℕ). earned k z) made
      ∙ earned-is put_two z (free_sum (blocks s) - 4) word-before
      (omega (arith, free_sum-le (blocks s), S.well_formed.fits, run-gain s q z r, starts-at, low-total, end-near))
      ∙ ap (put_at 4 put_two 0) sum-after
      ∙ sym (λ i. puts
      ((16, starts-at i) ∷ (starts-at i, head_word (total ms + s.rest) remainder 1)
      ∷ (0, free_sum r.under + (total ms + s.rest + free_sum s.high) - 4) ∷ []) cs)
      ∙ step-write (sheet (with-bins s b)) (sheet N) cs (rest-stores s b r.under ms two-parts (flag-under s S.well_formed q z r)) step A.now.holds
      ∙ left-write s bs (sym S.ends) b cs A N N-loose refl (grows_same b)
      ∙ ap (λ (k : State). write (sheet k) bs) (sym after)
