-- What a pool reads that holds the sheet of a well_formed state, word by word. A well_formed state is one between two steps too, so
-- heads and links are read as LooseReads reads them.
use mathlib.Core.List.{List, ◌∷◌}
use mathlib.Core.Logic.{◌≢◌, ◌⊎◌, inl, inr}
use mathlib.Core.Option.{some}
use mathlib.Core.Path.{◌∙◌, ◌≡◌, ap, refl, subst, sym}
use Prim.Native.Nat.{◌%◌, ◌*◌, ◌+◌, ◌/◌, ◌<◌, ◌^◌, ◌≤◌, ℕ}
use native.Mathlib.Omega.{arith}
use lib.ListN.{length}
use Rattle.heads.specs.Links.{link_word}
use Rattle.paper.proofs.bins.Bins.{first_count, next-mem, prev-first, prev-mem, prev-of-first, prev-some}
use Rattle.paper.proofs.bins.Distances.{link_word-inj, link_word-small}
use Rattle.paper.proofs.sheet.Fields.{at_block, at_on}
use Rattle.paper.proofs.bins.Listed.{loose, start}
use Rattle.paper.proofs.reads.LooseReads.{head-word-reads, no-zero-listed, previous-reads, word-reads, top-reads as loose-top-reads}
use Rattle.paper.proofs.runs.Walk.{In, in-sized, sized-parts, total-append}
use Rattle.paper.specs.Bins.{count, first, next_in, prev_in}
use Rattle.paper.specs.Blocks.{Kind, State, block, blocks, end, free, remainder, total}
use Rattle.paper.specs.Governed.{head_word, header_word, link, sheet, small_word}
use Rattle.paper.specs.Layout.{blocks_at, end_at, false_block, large, level_at, next_at, previous_at, small_bins, small_next_at, start_at}
use Rattle.paper.specs.Sheet.{Holds}
use Rattle.paper.specs.Sound.{WellFormed}
use Rattle.words.specs.Choice.{by=, if<-yes, if=, if=-no, if=-yes, ifs}
use Rattle.words.specs.Words.{word_at}

-- ---- what one state says of the bytes
module _ (bs : List ℕ) (s : State) (W : WellFormed s) (l : length bs ≡ end s) (h : Holds (sheet s) bs) where
  pub reads : (a v : ℕ) → a % 4 ≡ 0 → a + 4 ≤ end s → v < 256 ^ 4 → sheet s a ≡ some v → word_at 4 bs a ≡ v
  reads = word-reads bs s (loose s W) W.fits l h

  pub head-reads : (q z : ℕ) (k : Kind) (P : ℕ) → In (blocks s) blocks_at 1 q (block z k) P → word_at 4 bs q ≡ head_word z k P
  head-reads = head-word-reads bs s (loose s W) W.fits l h

  pub end-big : 176 ≤ end s
  end-big = omega (
    arith,
    (sized-parts s.low (block s.rest remainder ∷ s.high) W.sized).1.0.0,
    total-append s.low
        (block s.rest remainder ∷ s.high),
  )

  pub header-reads : (w : ℕ) → w < 12 → header_word s w < 256 ^ 4 → word_at 4 bs (8 * w) ≡ header_word s w
  unfolding sheet
  header-reads w a b =
      let c : 8 * w < 96 = omega arith in let d : 8 * w % 8 ≡ 0 = omega arith in
      reads (8 * w) (header_word s w) (omega arith) (omega (arith, end-big)) b (simp ifs (ap (λ (v : ℕ). some (header_word s v)) (omega arith)))

  pub start_of : (y q : ℕ) → 1 ≤ count q (s.bins y) → (blocks_at ≤ q) × (q + y ≤ 65536) × (q % 8 ≡ 0) × (8 ≤ y) × (y % 8 ≡ 0) × (q + y ≤ end s)
  start_of y q o =
      let f = (loose s W).found y q o in
      let sol = in-sized (blocks s) blocks_at 1 q (block y free) f.0 W.sized f.1 in
      let st = start s (loose s W) y q o in
      (st.0, omega (arith, W.fits), st.2, sol.0, sol.1, st.1)

  -- the way on from q, as a number
  pub next-reads : (y q : ℕ) → 1 ≤ count q (s.bins y) → (v : ℕ) × (next_in (s.bins y) q ≡ some v) × (v ≤ 65536) × (v ≢ q)
      × (y < large → word_at 4 bs (q + small_next_at) ≡ v) × (large ≤ y → word_at 4 bs (q + next_at) ≡ link_word q v)
  unfolding small_word
  next-reads y q o =
      let m = next-mem q (s.bins y) o in
      let st = start_of y q o in
      let f = (loose s W).found y q o in
      let small : m.0 ≤ 65536 = bound m.0 m.2 in (
        m.0,
        m.1,
        small,
        apart m.0 m.2 st.0,
        (λ y72. reads (q + small_next_at) m.0 (omega arith) (omega arith) (omega arith)
            (at_block s q (block y free) f.0 4 f.1 (omega arith) ∙ if=-no 4 0 _ _ (omega arith) ∙ if<-yes y 72 _ _ y72 ∙ if=-yes 4 4 _ _ refl
            ∙ m.1)),
        (λ y72. reads (q + next_at) (link_word q m.0) (omega arith) (omega arith) (link_word-small q m.0)
            (at_on s q y f.0 f.1 y72 ∙ ap (link q) m.1)),
      )
    where
      bound : (v : ℕ) → (v ≡ 0) ⊎ ((1 ≤ count v (s.bins y)) × ((v ≡ q) → 2 ≤ count q (s.bins y))) → v ≤ 65536
      bound v (inl e) = omega arith
      bound v (inr k) = omega (arith, start_of y v k.0)

      apart : (v : ℕ) → (v ≡ 0) ⊎ ((1 ≤ count v (s.bins y)) × ((v ≡ q) → 2 ≤ count q (s.bins y))) → blocks_at ≤ q → v ≢ q
      apart v (inl e) b = omega arith
      apart v (inr k) b = λ e. omega (arith, k.1 e, (loose s W).once y q)

  pub no_zero : (y : ℕ) → count 0 (s.bins y) ≡ 0
  no_zero = no-zero-listed s (loose s W)

  -- of a large bin, the first is the one whose way back is 0
  pub back-reads : (y q : ℕ) → large ≤ y → 1 ≤ count q (s.bins y) → first (s.bins y) ≡ q → word_at 4 bs (q + previous_at) ≡ 0
  unfolding link_word
  back-reads y q y72 o e =
      previous-reads bs s (loose s W) W.fits l h q y y72 o 0
      (subst (λ (v : ℕ). prev_in 0 (s.bins y) v ≡ some 0) e (prev-of-first 0 (s.bins y) (omega (arith, (start_of y q o).0))))
      ∙ if=-yes 0 0 _ _ refl

  pub first_reads : (y q : ℕ) → large ≤ y → 1 ≤ count q (s.bins y) → word_at 4 bs (q + previous_at) ≡ 0 → first (s.bins y) ≡ q
  unfolding link_word
  first_reads y q y72 o e =
      let st = start_of y q o in
      let m = prev-some 0 q (s.bins y) (omega (arith, st.0)) o in
      let b : m.0 ≤ 65536 = bound m.0 (prev-mem 0 q m.0 (s.bins y) m.1) in
      let d : word_at 4 bs (q + previous_at) ≡ link_word q m.0 = previous-reads bs s (loose s W) W.fits l h q y y72 o m.0 m.1 in
      let z : m.0 ≡ 0 = link_word-inj q m.0 0 (omega arith) b (omega arith) m.2 (omega (arith, st.0))
      (sym d ∙ e ∙ sym (if=-yes 0 0 _ _ refl)) in
      prev-first 0 q (s.bins y) (no_zero y) (m.1 ∙ ap some z)
    where
      bound : (v : ℕ) → (v ≡ 0) ⊎ (1 ≤ count v (s.bins y)) → v ≤ 65536
      bound v (inl e) = omega arith
      bound v (inr k) = omega (arith, start_of y v k)

  -- the first of a small bin stands in the header
  pub small-reads : (y : ℕ) → 8 ≤ y → y ≤ 64 → y % 8 ≡ 0 → word_at 4 bs (y + small_bins) ≡ first (s.bins y)
  unfolding header_word
  small-reads y a b c =
      let w : ℕ = y / 8 + 3 in
      let n0 : y / 8 + 3 ≢ 0 = omega arith in let n1 : y / 8 + 3 ≢ 1 = omega arith in let n2 : y / 8 + 3 ≢ 2 = omega arith in
      let n3 : y / 8 + 3 ≢ 3 = omega arith in
      let e : header_word s (y / 8 + 3) ≡ first (s.bins y) = simp ifs (ap (λ (k : ℕ). first (s.bins k)) (omega arith)) in
      let f : first (s.bins y) ≤ 65536 = by= (first (s.bins y)) 0 (λ k. omega arith)
      (λ k. omega (arith, start_of y (first (s.bins y)) (first_count (s.bins y) (first (s.bins y)) refl k))) in
      ap (word_at 4 bs) (omega arith) ∙ header-reads (y / 8 + 3) (omega arith) (omega arith) ∙ e

  pub low_reads : word_at 4 bs start_at ≡ blocks_at + total s.low
  unfolding header_word if=
  low_reads = header-reads 2 (omega arith) (omega (arith, W.fits, total-append s.low (block s.rest remainder ∷ s.high)))

  pub rest-reads : word_at 4 bs end_at ≡ blocks_at + total s.low + s.rest
  unfolding header_word if=
  rest-reads = header-reads 3 (omega arith) (omega (arith, W.fits, total-append s.low (block s.rest remainder ∷ s.high)))

  pub top-reads : word_at 4 bs (false_block + level_at) ≡ s.top
  top-reads = loose-top-reads bs s (loose s W) W.fits l h
