-- What the sheet has at each field of each block: no field hides another.
use mathlib.Core.Logic.{◌≢◌}
use mathlib.Core.Option.{none, some}
use mathlib.Core.Path.{◌∙◌, ◌≡◌, ap, refl}
use Prim.Native.Nat.{◌*◌, ◌+◌, ◌-◌, ◌<◌, ◌≤◌, ℕ}
use native.Mathlib.Omega.{arith}
use Rattle.heads.specs.Links.{link_word}
use Rattle.paper.proofs.runs.Walk.{In, in-low, walk-in}
use Rattle.paper.specs.Bins.{first, next_in, prev_in}
use Rattle.paper.specs.Blocks.{Block, Kind, State, block, blocks, end, free, size}
use Rattle.paper.specs.Governed.{above, block_word, head_word, height, index, large_word, link, sheet}
use Rattle.paper.specs.Layout.{blocks_at, chain_at, false_block, large, level_at, next_at, previous_at}
use Rattle.words.specs.Choice.{if<, if=, if=-no, if=-yes, ifs}

pub height-le : (t z : ℕ) → height t z ≤ t
unfolding height
height-le t z = omega arith

module _ (s : State) where
  abbrev pub At : ℕ → Block → ℕ → Type 0
  At q b P = In (blocks s) blocks_at 1 q b P

  abbrev pub S·above : ℕ → ℕ → ℕ
  S·above = above s.top (end s) s.bins

  pub at_block : (q : ℕ) (b : Block) (P o : ℕ) → At q b P → o < size b → sheet s (q + o) ≡ block_word s.top (end s) s.bins q b P o
  unfolding sheet
  at_block q b P o h l =
      let m : blocks_at ≤ q = in-low (blocks s) blocks_at 1 q b P h in
      let m1 : 96 ≤ q + o = omega arith in let m2 : 168 ≤ q + o = omega arith in
      simp ifs (walk-in (block_word s.top (end s) s.bins) (blocks s) blocks_at 1 q b P (q + o) h (omega arith) (omega arith)
      ∙ ap (block_word s.top (end s) s.bins q b P) (omega arith))

  pub at_head : (q z : ℕ) (k : Kind) (P : ℕ) → At q (block z k) P → 0 < z → sheet s q ≡ some (head_word z k P)
  at_head q z k P h l = ap (sheet s) (omega arith) ∙ at_block q (block z k) P 0 h l ∙ if=-yes 0 0 _ _ refl

  module _ (q z P : ℕ) (h : At q (block z free) P) (l : large ≤ z) where
    at-large : (o : ℕ) → o ≢ 0 → o < z → sheet s (q + o) ≡ large_word s.top (end s) s.bins q z P o
    at-large o n m = at_block q (block z free) P o h m ∙ simp ifs

    pub at_back : sheet s (q + previous_at) ≡ link q (prev_in 0 (s.bins z) q)
    unfolding large_word
    at_back = at-large 4 (omega arith) (omega arith) ∙ if=-yes 4 4 _ _ refl

    pub at_on : sheet s (q + next_at) ≡ link q (next_in (s.bins z) q)
    unfolding large_word
    at_on = at-large 8 (omega arith) (omega arith) ∙ if=-no 8 4 _ _ (omega arith) ∙ if=-yes 8 8 _ _ refl

    pub at-foot : sheet s (q + (z - 4)) ≡ some (head_word z free P)
    unfolding large_word
    at-foot =
        let a : z - 4 ≢ 4 = omega arith in let b : z - 4 ≢ 8 = omega arith in
        at-large (z - 4) (omega arith) (omega arith) ∙ simp ifs

    module _ (f : first (s.bins z) ≡ q) where
      at-index : (o : ℕ) → level_at ≤ o → o ≤ chain_at → sheet s (q + o) ≡ index s.top (end s) s.bins none (height s.top z) q z o
      unfolding large_word
      at-index o a b =
          let a1 : o ≢ 4 = omega arith in let a2 : o ≢ 8 = omega arith in let a3 : o ≢ z - 4 = omega arith in
          at-large o (omega arith) (omega arith) ∙ simp ifs

      pub at_level : sheet s (q + level_at) ≡ some (height s.top z)
      unfolding index
      at_level = at-index 12 (omega arith) (omega arith) ∙ if=-yes 12 12 _ _ refl

      pub at-word : (j : ℕ) → 1 ≤ j → j ≤ height s.top z → s.top ≤ 13 → sheet s (q + (68 - 4 * j)) ≡ some (link_word q (S·above j z))
      unfolding index
      at-word j a b c =
          let d : j ≤ 13 = omega (arith, height-le s.top z) in
          let a1 : 68 - 4 * j ≢ 12 = omega arith in
          let a2 : 68 - 4 * height s.top z ≤ 68 - 4 * j = omega arith in
          let a3 : 68 - 4 * j ≤ 64 = omega arith in
          at-index (68 - 4 * j) (omega arith) (omega arith) ∙ simp ifs (ap (λ (k : ℕ). some (link_word q (S·above k z))) (omega arith))

  -- the false block
  pub false-level : sheet s (false_block + level_at) ≡ some s.top
  unfolding sheet index if= if<
  false-level = refl

  pub false-word : (j : ℕ) → 1 ≤ j → j ≤ s.top → s.top ≤ 13 → sheet s (false_block + (68 - 4 * j)) ≡ some (link_word false_block (S·above j 64))
  unfolding sheet index
  false-word j a b c =
      let b1 : 96 ≤ 96 + (68 - 4 * j) = omega arith in
      let b2 : 96 + (68 - 4 * j) < 168 = omega arith in
      let e : 96 + (68 - 4 * j) - 96 ≡ 68 - 4 * j = omega arith in
      let a1 : 68 - 4 * j ≢ 12 = omega arith in
      let a2 : 68 - 4 * s.top ≤ 68 - 4 * j = omega arith in
      let a3 : 68 - 4 * j ≤ 64 = omega arith in
      simp (ifs, e) (ap (λ (k : ℕ). some (link_word false_block (S·above k 64))) (omega arith))
