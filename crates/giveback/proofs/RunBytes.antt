-- The run enters its bin, with none of its neighbours free, or the one below, the one above, or both: the model makes what the paper's sheet writes.
use mathlib.Core.List.{List, ◌∷◌}
use mathlib.Core.Bool.{false}
use mathlib.Core.Logic.{◌≢◌}
use mathlib.Core.Path.{◌∙◌, ◌≡◌, ap}
use Prim.Native.Nat.{◌%◌, ◌+◌, ◌-◌, ◌≤◌, ℕ}
use native.Mathlib.Omega.{arith}
use Rattle.bins.specs.Leave.{leave, leave_both}
use Rattle.giveback.proofs.RunEnters.{enters-below-held, enters-past-free}
use Rattle.giveback.proofs.RunLeft.{above-left, both-neighbours-left, left-if-held-above}
use Rattle.giveback.proofs.RunReads.{free-above-read, held-above-read}
use Rattle.giveback.proofs.RunShape.{in-above, in-over}
use Rattle.giveback.specs.Large.{join_run, leave_below, settle}
use Rattle.giveback.specs.GiveBack.{earned}
use Rattle.heads.specs.Heads.{head_of, with_p}
use Rattle.heads.specs.declared.head.Head.{Head}
use Rattle.paper.proofs.reads.HeadWords.{head-of-word, with_p-held}
use Rattle.paper.proofs.runs.Neighbours.{Run, gap}
use Rattle.paper.proofs.reads.Stands.{Stands}
use Rattle.paper.proofs.runs.Walk.{flag_past, in-high}
use Rattle.paper.specs.Blocks.{Block, State, block, blocks, free, held}
use Rattle.paper.specs.GivingBack.{give_back_large}
use Rattle.paper.specs.Governed.{head_word, sheet}
use Rattle.paper.specs.Sheet.{write}
use Rattle.words.specs.Choice.{by=, if=-no, if=-yes, when-no, when-yes}
use Rattle.words.specs.Words.{Bytes, put_at, word_at}

module _ (s : State) (bs : List ℕ) (S : Stands s bs) (B : Bytes bs) (q z : ℕ) (r : Run s q z) (y : ℕ) (ys : List Block)
    (over : r.over ≡ block y held ∷ ys) (y72 : 72 ≤ y) where
  abbrev start : ℕ
  start = q - r.down

  -- a held block above
  below-held : r.up ≡ 0 → earned (join_run bs start q (q + z)) z ≡ write (sheet (give_back_large s q z)) bs
  unfolding join_run
  below-held e =
      let w : word_at 4 bs (q + z) ≡ head_word y held 1 = held-above-read s bs S q z r e y ys over in
      let y-near : y ≤ 65536 =
      omega (
        arith,
        S.well_formed.fits,
        in-high (blocks s) 168 1 (q + z + r.up) (block y held) (flag_past 1 (gap r.up)) (in-over s S.well_formed q z r y ys over),
      ) in
      ap (λ (k : List ℕ). earned k z)
      (when-yes (head_of (word_at 4 bs (q + z))).held _ _ (ap (λ (k : ℕ). (head_of k).held) w ∙ ap (λ (k : Head). k.held) (head-of-word y held 1 (omega arith)))
      ∙ ap (λ (k : ℕ). settle (put_at 4 (leave_below bs start q) (q + z) k) start (q + z))
      (ap (λ (k : ℕ). with_p k false) w ∙ with_p-held y 1 false y-near (omega arith)))
      ∙ enters-below-held s bs S q z r y ys over y72 (leave_below bs start q) (left-if-held-above s bs S q z r e) e

  -- a free block above, and then a held one
  past-free : r.up ≢ 0 → earned (join_run bs start q (q + z)) z ≡ write (sheet (give_back_large s q z)) bs
  unfolding join_run
  past-free n =
      let w : word_at 4 bs (q + z) ≡ head_word r.up free 1 = free-above-read s bs S q z r n in
      let u : (head_of (word_at 4 bs (q + z))).size ≡ r.up = ap (λ (k : ℕ). (head_of k).size) w ∙ ap (λ (k : Head). k.size) (head-of-word r.up free 1 (omega arith)) in
      let e : (q + z + r.up) % 4294967296 ≡ q + z + r.up =
      omega (arith, S.well_formed.fits, in-high (blocks s) 168 1 (q + z) (block r.up free) 1 (in-above s S.well_formed q z r n)) in
      ap (λ (k : List ℕ). earned k z)
      (when-no (head_of (word_at 4 bs (q + z))).held _ _ (ap (λ (k : ℕ). (head_of k).held) w ∙ ap (λ (k : Head). k.held) (head-of-word r.up free 1 (omega arith))))
      ∙ rw (u, e)
      (by= r.down 0
      (λ d. ap (λ (k : List ℕ). earned k z) (if=-yes start q _ _ (omega arith))
      ∙ enters-past-free s bs S q z r y ys over y72 (leave bs (q + z)) (above-left s bs S q z r d n) n)
      (λ d. ap (λ (k : List ℕ). earned k z) (if=-no start q _ _ (omega (arith, r.starts)))
      ∙ enters-past-free s bs S q z r y ys over y72 (leave_both bs start (q + z)) (both-neighbours-left s bs S q z r B d n) n))

  pub run-bytes : earned (join_run bs start q (q + z)) z ≡ write (sheet (give_back_large s q z)) bs
  run-bytes = by= r.up 0 below-held past-free
