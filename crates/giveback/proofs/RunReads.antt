-- What the model reads of a large block that comes back: where its run starts, by P and the footer below, and the head past it.
use mathlib.Core.List.{List, ◌∷◌}
use mathlib.Core.Logic.{◌≢◌}
use mathlib.Core.Path.{◌∙◌, ◌≡◌, ap, refl, sym}
use Prim.Native.Nat.{◌%◌, ◌+◌, ◌-◌, ◌≤◌, ℕ}
use native.Mathlib.Omega.{arith}
use Rattle.giveback.proofs.RunShape.{down-large, flag-none, flag-some, in-above, in-below, in_held, in-over}
use Rattle.giveback.specs.Large.{run_start}
use Rattle.heads.specs.Heads.{head_of}
use Rattle.heads.specs.declared.head.Head.{Head}
use Rattle.paper.proofs.reads.HeadWords.{head-of-word}
use Rattle.paper.proofs.sheet.Fields.{at-foot}
use Rattle.paper.proofs.runs.Neighbours.{Run, gap}
use Rattle.paper.proofs.reads.Readings.{head-reads, reads}
use Rattle.paper.proofs.reads.Stands.{Stands}
use Rattle.paper.proofs.runs.Walk.{flag_past, in-aligned, in-high}
use Rattle.paper.specs.Blocks.{Block, State, block, blocks, free, held}
use Rattle.paper.specs.Governed.{head_word, sheet}
use Rattle.words.specs.Choice.{by=, when-no, when-yes}
use Rattle.words.specs.Words.{word_at}

module _ (s : State) (bs : List ℕ) (S : Stands s bs) (q z : ℕ) (r : Run s q z) where
  -- the places of the run are in the pool
  pub near : q + z ≤ 65536
  near = omega (arith, S.well_formed.fits, in-high (blocks s) 168 1 q (block z held) (flag_past 1 (gap r.down)) (in_held s S.well_formed q z r))

  head_read : word_at 4 bs q ≡ head_word z held (flag_past 1 (gap r.down))
  head_read =
      head-reads bs s S.well_formed (sym S.ends) S.holds q z held (flag_past 1 (gap r.down)) (in_held s S.well_formed q z r)

  -- the head again, at the end of the free block below
  foot-read : r.down ≢ 0 → word_at 4 bs (q - 4) ≡ head_word r.down free 1
  foot-read n =
      let i = in-below s S.well_formed q z r n in
      let large = down-large s S.well_formed q z r n in
      let hi = in-high (blocks s) 168 1 (q - r.down) (block r.down free) 1 i in
      let al = in-aligned (blocks s) 168 1 q (block z held) (flag_past 1 (gap r.down)) S.well_formed.sized refl (in_held s S.well_formed q z r) in
      reads bs s S.well_formed (sym S.ends) S.holds (q - 4) (head_word r.down free 1) (omega (arith, r.starts)) (omega (arith, r.starts))
      (omega (arith, S.well_formed.fits))
      (ap (sheet s) (omega (arith, r.starts)) ∙ at-foot s (q - r.down) r.down 1 i large)

  pub run-start : run_start bs q ≡ q - r.down
  unfolding run_start
  run-start =
      by= r.down 0
      (λ e. when-yes (head_of (word_at 4 bs q)).p _ _
      (ap (λ (w : ℕ). (head_of w).p) (head_read ∙ ap (head_word z held) (flag-none s S.well_formed q z r r.down e)) ∙ ap (λ (k : Head). k.p) (head-of-word z held 1 (omega arith)))
      ∙ omega arith)
      (λ n. let large = down-large s S.well_formed q z r n in
      let a : (q + 4294967296 - 4) % 4294967296 ≡ q - 4 = omega (arith, near, r.starts) in
      let d : (head_of (word_at 4 bs (q - 4))).size ≡ r.down = ap (λ (w : ℕ). (head_of w).size) (foot-read n) ∙ ap (λ (k : Head). k.size) (head-of-word r.down free 1 (omega arith)) in
      when-no (head_of (word_at 4 bs q)).p _ _
      (ap (λ (w : ℕ). (head_of w).p) (head_read ∙ ap (head_word z held) (flag-some s S.well_formed q z r r.down large)) ∙ ap (λ (k : Head). k.p) (head-of-word z held 0 (omega arith)))
      ∙ rw (a, d) (omega (arith, near, r.starts)))

  -- the head past the block that comes back
  pub free-above-read : r.up ≢ 0 → word_at 4 bs (q + z) ≡ head_word r.up free 1
  free-above-read n =
      head-reads bs s S.well_formed (sym S.ends) S.holds (q + z) r.up free 1 (in-above s S.well_formed q z r n)

  pub held-above-read : r.up ≡ 0 → (y : ℕ) (ys : List Block) → r.over ≡ block y held ∷ ys → word_at 4 bs (q + z) ≡ head_word y held 1
  held-above-read e y ys o =
      let i : q + z + r.up ≡ q + z = omega arith in
      ap (word_at 4 bs) (sym i)
      ∙ head-reads bs s S.well_formed (sym S.ends) S.holds (q + z + r.up) y held (flag_past 1 (gap r.up))
      (in-over s S.well_formed q z r y ys o)
      ∙ ap (head_word y held) (flag-none s S.well_formed q z r r.up e)
