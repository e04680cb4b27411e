-- Other small lists, and the words that lead along them stored: elsewhere nothing is new. A small block that is in no list has no word for one, and
-- large blocks and the index see the large lists alone, which are as they were.
use mathlib.Core.List.{List}
use mathlib.Core.Logic.{inl, inr}
use mathlib.Core.Option.{none, some}
use mathlib.Core.Path.{◌≡◌, ap, refl}
use Prim.Native.Nat.{◌%◌, ◌+◌, ◌-◌, ◌/◌, ◌<◌, ◌≤◌, suc, ℕ}
use native.Mathlib.Omega.{arith}
use Rattle.homing.proofs.Chain.{not-at-first, not-at-member}
use Rattle.homing.proofs.ListGood.{all_links, elsewhere-each}
use Rattle.paper.proofs.bins.Bins.{next-absent}
use Rattle.paper.proofs.bins.Listed.{Loose}
use Rattle.paper.proofs.bins.Seek.{seek-cong}
use Rattle.paper.proofs.runs.Walk.{In, in-aligned, in-sized, walk-rel}
use Rattle.paper.proofs.sheet.Fields.{height-le}
use Rattle.paper.proofs.sheet.Stores.{Elsewhere}
use Rattle.paper.proofs.steps.Leave.{NothingNew, index_same, reach-same, with-bins}
use Rattle.paper.specs.Bins.{count, first, next_in}
use Rattle.paper.specs.Blocks.{Block, State, block, blocks, end, free, held, remainder}
use Rattle.paper.specs.Governed.{above, block_word, header_word, height, index, large_word, reach, sheet, small_word}
use Rattle.paper.specs.Layout.{blocks_at, false_block, large, small_bins, small_next_at}
use Rattle.words.specs.Choice.{by<, by=, ifs}

module _ (s : State) (L : Loose s) (b : ℕ → List ℕ) (same : (y : ℕ) → 64 < y → b y ≡ s.bins y) (a : ℕ) (al : a % 4 ≡ 0)
    (out : Elsewhere a (all_links b 8 8)) where
  abbrev t : ℕ
  t = s.top

  abbrev n : ℕ
  n = end s

  above_kept : (j y : ℕ) → 64 ≤ y → above t n b j y ≡ above t n s.bins j y
  unfolding above
  above_kept j y m =
      seek-cong (reach t n b j) (reach t n s.bins j) n (suc y) (λ u k. reach-same t n s.bins b j u (ap first (same u (omega arith))))

  large-kept : (r y P o : ℕ) → large ≤ y → o % 4 ≡ 0 → large_word t n b r y P o ≡ large_word t n s.bins r y P o
  unfolding large_word
  large-kept r y P o m e =
      let k : b y ≡ s.bins y = same y (omega arith) in
      let i : index t n b none (height t y) r y o ≡ index t n s.bins none (height t y) r y o =
      index_same t n s.bins b none (height t y) r y o e (omega (arith, height-le t y, L.top13)) (λ j _ _ _. above_kept j y (omega arith)) in
      rw (k, i)

  -- no small list has a member whose word is at a
  no_member : (y q : ℕ) → 8 ≤ y → y ≤ 64 → y % 8 ≡ 0 → a ≡ q + small_next_at → next_in (b y) q ≡ none
  no_member y q y8 y64 ye e =
      by= (count q (b y)) 0 (next-absent (b y) q)
      (λ o. absurd (not-at-member a (small_bins + y) (b y) (elsewhere-each b 8 8 a out y y8 (omega arith) (omega arith)) q (omega arith) e))

  -- all the words of a block that is somewhere
  word_kept : (r : ℕ) (c : Block) (P : ℕ) → In (blocks s) blocks_at 1 r c P → r ≤ a
      → NothingNew (block_word t n b r c P (a - r)) (block_word t n s.bins r c P (a - r))
  unfolding small_word
  word_kept r (block y held) P i ra = inr refl
  word_kept r (block y remainder) P i ra = inr refl
  word_kept r (block y free) P i ra =
      let z = in-sized (blocks s) blocks_at 1 r (block y free) P L.sized i in
      let e8 = in-aligned (blocks s) blocks_at 1 r (block y free) P L.sized refl i in
      by= (a - r) 0 (λ e. inr (simp ifs))
      (λ e0. by< y large
      (λ m. by= (a - r) small_next_at (λ e. inl (simp ifs (no_member y r z.0 (omega arith) z.1 (omega arith)))) (λ e. inr (simp ifs)))
      (λ m. inr (simp ifs (large-kept r y P (a - r) m (omega arith)))))

  header-kept : a < false_block → a % 8 ≡ 0 → header_word (with-bins s b) (a / 8) ≡ header_word s (a / 8)
  unfolding header_word
  header-kept m e =
      by= (a / 8) 0 (λ k. simp ifs) (λ n0. by= (a / 8) 1 (λ k. simp ifs) (λ n1. by= (a / 8) 2 (λ k. simp ifs) (λ n2. by= (a / 8) 3 (λ k. simp ifs)
      (λ n3. absurd (not-at-first a (small_bins + (a - small_bins)) (b (a - small_bins))
      (elsewhere-each b 8 8 a out (a - small_bins) (omega arith) (omega arith) (omega arith)) (omega arith))))))

  pub list-frame : NothingNew (sheet (with-bins s b) a) (sheet s a)
  unfolding sheet
  list-frame =
      by< a false_block
      (λ m. inr (simp ifs (by= (a % 8) 0 (λ e. simp ifs (ap some (header-kept m e))) (λ e. simp ifs))))
      (λ m. by< a blocks_at
      (λ k. inr (simp ifs (index_same t n s.bins b (some 0) t false_block 64 (a - false_block) (omega arith) L.top13
      (λ j _ _ _. above_kept j 64 (omega arith)))))
      (λ k. simp ifs
      (walk-rel NothingNew (inr refl) (block_word t n b) (block_word t n s.bins) (blocks s) blocks_at 1 a k
      (λ r c P i ra ab. word_kept r c P i ra))))
