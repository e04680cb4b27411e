-- What a pool reads that holds the sheet of a state between two steps: heads, links and index words, each by the sheet's own word.
use mathlib.Core.List.{List, ◌∷◌}
use mathlib.Core.Logic.{◌≢◌}
use mathlib.Core.Option.{some}
use mathlib.Core.Path.{◌∙◌, ◌≡◌, ap, refl}
use Prim.Native.Nat.{◌%◌, ◌*◌, ◌+◌, ◌-◌, ◌<◌, ◌^◌, ◌≤◌, suc, ℕ}
use native.Mathlib.Omega.{arith}
use lib.ListN.{length}
use Rattle.heads.specs.Links.{link_word}
use Rattle.paper.proofs.bins.Bins.{first_count}
use Rattle.paper.proofs.bins.Distances.{link_word-small}
use Rattle.paper.proofs.sheet.Fields.{at_back, at_head, at_on, at-word, false-word, height-le}
use Rattle.paper.proofs.steps.First.{reach-is}
use Rattle.paper.proofs.bins.Listed.{Loose, start}
use Rattle.paper.proofs.reads.HeadWords.{held_bit-le}
use Rattle.paper.proofs.bins.Seek.{seek-none, seek-spec}
use Rattle.paper.proofs.runs.Walk.{In, in-aligned, in-flag, in-high, in-sized, in-unique, sized-parts, total-append}
use Rattle.paper.proofs.sheet.Written.{holds-word}
use Rattle.paper.specs.Bins.{count, first, next_in, prev_in}
use Rattle.paper.specs.Blocks.{Kind, State, block, blocks, end, free, remainder, size}
use Rattle.paper.specs.Governed.{above, head_word, height, index, link, reach, sheet}
use Rattle.paper.specs.Layout.{blocks_at, false_block, large, level_at, next_at, previous_at}
use Rattle.paper.specs.Sheet.{Holds}
use Rattle.words.specs.Choice.{by<, by=, if<, if=}
use Rattle.words.specs.Words.{word_at}

-- the bins of the index: what `above` finds is the first block of a larger bin, with none between
module _ (s : State) (W : Loose s) where
  abbrev reaches : ℕ → ℕ → ℕ
  reaches = reach s.top (end s) s.bins

  abbrev next-bin : ℕ → ℕ → ℕ
  next-bin = above s.top (end s) s.bins

  pub height-pos : (z : ℕ) → 1 ≤ height s.top z
  unfolding height
  height-pos z = omega (arith, W.top1)

  -- where a bin stands in a level, its first block is a free block of that size
  pub reach-in : (j z w : ℕ) → reaches j z ≡ w → w ≢ 0 → (first (s.bins z) ≡ w) × (j ≤ height s.top z) × (1 ≤ count w (s.bins z))
  reach-in j z w e n =
      let r = reach-is s.top (end s) s.bins j z w e n in
      (r.0, r.1, first_count (s.bins z) w r.0 n)

  -- no bin is larger than the pool
  pub reach-past : (j z : ℕ) → end s < z → reaches j z ≡ 0
  reach-past j z l =
      by= (reaches j z) 0 (λ e. e) (λ n. absurd (omega (arith, start s W z (reaches j z) (reach-in j z (reaches j z) refl n).2)))

  pub above-some : (j y : ℕ) → next-bin j y ≢ 0
      → (z : ℕ) × (y < z) × (reaches j z ≡ next-bin j y) × ((u : ℕ) → y < u → u < z → reaches j u ≡ 0)
  unfolding above
  above-some j y n = seek-spec (reaches j) (end s) (suc y) n

  pub above-none : (j y : ℕ) → next-bin j y ≡ 0 → (u : ℕ) → y < u → reaches j u ≡ 0
  unfolding above
  above-none j y e u l =
      by< (end s) u (λ m. reach-past j u m) (λ m. seek-none (reaches j) (end s) (suc y) e u l (omega arith))

  -- a start stands in one bin alone
  pub bin-unique : (q y z : ℕ) → 1 ≤ count q (s.bins y) → 1 ≤ count q (s.bins z) → y ≡ z
  bin-unique q y z i k =
      let f = W.found y q i in let g = W.found z q k in
      ap size (in-unique (blocks s) blocks_at 1 q (block y free) (block z free) f.0 g.0 W.sized f.1 g.1).0

  pub listed-size : (q y : ℕ) → 1 ≤ count q (s.bins y) → (8 ≤ y) × (y % 8 ≡ 0)
  listed-size q y i = let f = W.found y q i in in-sized (blocks s) blocks_at 1 q (block y free) f.0 W.sized f.1

  pub no-zero-listed : (y : ℕ) → count 0 (s.bins y) ≡ 0
  no-zero-listed y = by= (count 0 (s.bins y)) 0 (λ e. e) (λ n. absurd (omega (arith, (start s W y 0 (omega arith)).0)))

module _ (bs : List ℕ) (s : State) (W : Loose s) (fits : end s ≤ 65536) (l : length bs ≡ end s) (h : Holds (sheet s) bs) where
  pub word-reads : (a v : ℕ) → a % 4 ≡ 0 → a + 4 ≤ end s → v < 256 ^ 4 → sheet s a ≡ some v → word_at 4 bs a ≡ v
  word-reads a v al b c e = holds-word (sheet s) bs a v h al (omega arith) c e

  pub head-word-reads : (q z : ℕ) (k : Kind) (P : ℕ) → In (blocks s) blocks_at 1 q (block z k) P → word_at 4 bs q ≡ head_word z k P
  head-word-reads q z k P i =
      let sol = in-sized (blocks s) blocks_at 1 q (block z k) P W.sized i in
      let hi = in-high (blocks s) blocks_at 1 q (block z k) P i in
      let al = in-aligned (blocks s) blocks_at 1 q (block z k) P W.sized refl i in
      let fl = in-flag (blocks s) blocks_at 1 q (block z k) P (omega arith) i in
      word-reads q (head_word z k P) (omega arith) (omega arith) (omega (arith, held_bit-le k)) (at_head s q z k P i (omega arith))

  -- of a listed large block q
  module _ (q z : ℕ) (is-large : large ≤ z) (i : 1 ≤ count q (s.bins z)) where
    pub previous-reads : (v : ℕ) → prev_in 0 (s.bins z) q ≡ some v → word_at 4 bs (q + previous_at) ≡ link_word q v
    previous-reads v e =
        let f = W.found z q i in let st = start s W z q i in
        word-reads (q + previous_at) (link_word q v) (omega arith) (omega arith) (link_word-small q v) (at_back s q z f.0 f.1 is-large ∙ ap (link q) e)

    pub following-reads : (v : ℕ) → next_in (s.bins z) q ≡ some v → word_at 4 bs (q + next_at) ≡ link_word q v
    following-reads v e =
        let f = W.found z q i in let st = start s W z q i in
        word-reads (q + next_at) (link_word q v) (omega arith) (omega arith) (link_word-small q v) (at_on s q z f.0 f.1 is-large ∙ ap (link q) e)

    -- the index words of a first block
    pub index_reads : first (s.bins z) ≡ q → (j : ℕ) → 1 ≤ j → j ≤ height s.top z
        → word_at 4 bs (q + (68 - 4 * j)) ≡ link_word q (above s.top (end s) s.bins j z)
    index_reads e j j1 jh =
        let f = W.found z q i in let st = start s W z q i in
        let j13 : j ≤ 13 = omega (arith, height-le s.top z, W.top13) in
        word-reads (q + (68 - 4 * j)) _ (omega arith) (omega arith) (link_word-small q _) (at-word s q z f.0 f.1 is-large e j j1 jh W.top13)

  long : 176 ≤ end s
  long = omega (
    arith,
    (sized-parts s.low (block s.rest remainder ∷ s.high) W.sized).1.0.0,
    total-append s.low
        (block s.rest remainder ∷ s.high),
  )

  -- the false block
  pub false-reads : (j : ℕ) → 1 ≤ j → j ≤ s.top → word_at 4 bs (false_block + (68 - 4 * j)) ≡ link_word false_block (above s.top (end s) s.bins j 64)
  false-reads j j1 jt =
      word-reads (false_block + (68 - 4 * j)) _ (omega (arith, W.top13)) (omega (arith, long)) (link_word-small false_block _) (false-word s j j1 jt W.top13)

  pub top-reads : word_at 4 bs (false_block + level_at) ≡ s.top
  unfolding sheet index if= if<
  top-reads = word-reads 108 s.top refl (omega (arith, long)) (omega (arith, W.top13)) refl
