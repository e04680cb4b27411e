-- The sheets with q at the front of a small bin and without it: where they can differ at all. Over any reflexive relation, so that
-- leaving the front and coming to it share this frame.
use mathlib.Core.List.{List, ◌∷◌}
use mathlib.Core.Logic.{◌≢◌}
use mathlib.Core.Option.{Option, none, some}
use mathlib.Core.Path.{◌∙◌, ◌≡◌, ap, refl, sym}
use Prim.Native.Nat.{◌%◌, ◌*◌, ◌+◌, ◌-◌, ◌/◌, ◌<◌, ◌≤◌, suc, ℕ}
use native.Mathlib.Omega.{arith}
use Rattle.paper.proofs.sheet.Fields.{height-le}
use Rattle.paper.proofs.steps.Leave.{index_same, reach-same}
use Rattle.paper.proofs.steps.Leaving.{rebinned}
use Rattle.paper.proofs.bins.Listed.{Loose, rebin-other, rebin-same}
use Rattle.paper.proofs.bins.Seek.{seek-cong}
use Rattle.paper.proofs.runs.Walk.{in-aligned, walk-rel}
use Rattle.paper.specs.Bins.{first, next_in, rebin}
use Rattle.paper.specs.Blocks.{Block, State, block, blocks, end, free, held, remainder}
use Rattle.paper.specs.Governed.{above, block_word, header_word, height, index, large_word, reach, sheet, small_word}
use Rattle.paper.specs.Layout.{blocks_at, false_block, large, small_bins, small_next_at}
use Rattle.words.specs.Choice.{by<, by=, if=-no, ifs}

module _ (Q : Option ℕ → Option ℕ → Type 0) (q-refl : (x y : Option ℕ) → x ≡ y → Q x y)
    (t n : ℕ) (top13 : t ≤ 13) (bins : ℕ → List ℕ) (z q : ℕ) (l : List ℕ) (is-in : bins z ≡ q ∷ l) (small : z ≤ 64) where
  abbrev popped : ℕ → List ℕ
  popped = rebin bins z l

  other : (y : ℕ) → y ≢ z → popped y ≡ bins y
  other y m = rebin-other bins z l y m

  above_kept : (j y : ℕ) → 64 ≤ y → above t n popped j y ≡ above t n bins j y
  unfolding above
  above_kept j y m =
      seek-cong (reach t n popped j) (reach t n bins j) n (suc y)
      (λ u a. reach-same t n bins popped j u (ap first (other u (omega arith))))

  next-kept : (r y : ℕ) → (r ≡ q → Q (next_in l q) (next_in (q ∷ l) q)) → Q (next_in (popped y) r) (next_in (bins y) r)
  unfolding next_in
  next-kept r y own =
      by= y z
      (λ e. let a : popped y ≡ l = ap popped e ∙ rebin-same bins z l in
      let c : bins y ≡ q ∷ l = ap bins e ∙ is-in in
      by= r q
      (λ f. rw (a, c, f) (own f))
      (λ m. let m' : q ≢ r = (λ k. m (sym k)) in
      q-refl _ _ (ap (λ (k : List ℕ). next_in k r) a ∙ sym (ap (λ (k : List ℕ). next_in k r) c ∙ if=-no q r _ _ m'))))
      (λ m. q-refl _ _ (ap (λ (k : List ℕ). next_in k r) (other y m)))

  large-kept : (r y P o : ℕ) → large ≤ y → o % 4 ≡ 0 → large_word t n popped r y P o ≡ large_word t n bins r y P o
  unfolding large_word
  large-kept r y P o m al =
      let e : popped y ≡ bins y = other y (omega arith) in
      let i : index t n popped none (height t y) r y o ≡ index t n bins none (height t y) r y o =
      index_same t n bins popped none (height t y) r y o al (omega (arith, height-le t y)) (λ j _ _ _. above_kept j y (omega arith)) in
      rw (e, i)

  -- all the words of a block that is somewhere
  word_kept : (r : ℕ) (b : Block) (P o : ℕ) → o % 4 ≡ 0 → (r ≡ q → o ≡ 4 → Q (next_in l q) (next_in (q ∷ l) q))
      → Q (block_word t n popped r b P o) (block_word t n bins r b P o)
  unfolding small_word
  word_kept r (block y held) P o al own = q-refl _ _ refl
  word_kept r (block y remainder) P o al own = q-refl _ _ refl
  word_kept r (block y free) P o al own =
      by= o 0 (λ e. simp ifs (q-refl _ _ refl))
      (λ e0. by< y large
      (λ m. by= o small_next_at (λ e. simp ifs (next-kept r y (λ f. own f e))) (λ e. simp ifs (q-refl _ _ refl)))
      (λ m. simp ifs (q-refl _ _ (large-kept r y P o m al))))

module _ (s : State) (W : Loose s) (z q : ℕ) (l : List ℕ) (is-in : s.bins z ≡ q ∷ l) (small : z ≤ 64) (least : 8 ≤ z) (eights : z % 8 ≡ 0) where
  header-kept : (w : ℕ) → w < 12 → 8 * w ≢ small_bins + z → header_word (rebinned s z l) w ≡ header_word s w
  unfolding header_word
  header-kept w m n =
      by= w 0 (λ e. simp ifs) (λ n0. by= w 1 (λ e. simp ifs) (λ n1. by= w 2 (λ e. simp ifs) (λ n2. by= w 3 (λ e. simp ifs)
      (λ n3. simp ifs (ap first (rebin-other s.bins z l (8 * (w - 3)) (omega arith)))))))

  -- address a, with q and without
  pub small-frame : (Q : Option ℕ → Option ℕ → Type 0) (q-refl : (x y : Option ℕ) → x ≡ y → Q x y) (a : ℕ) → a % 4 ≡ 0 → a ≢ small_bins + z
      → (a ≡ q + small_next_at → Q (next_in l q) (next_in (q ∷ l) q)) → Q (sheet (rebinned s z l) a) (sheet s a)
  unfolding sheet
  small-frame Q q-refl a al n own =
      by< a false_block
      (λ m. q-refl _ _ (simp ifs (by= (a % 8) 0 (λ e. simp ifs (ap some (header-kept (a / 8) (omega arith) (omega arith)))) (λ e. simp ifs))))
      (λ m. by< a blocks_at
      (λ k. q-refl _ _ (simp ifs (index_same s.top (end s) s.bins (rebin s.bins z l) (some 0) s.top false_block 64 (a - false_block)
      (omega arith) W.top13 (λ j _ _ _. above_kept Q q-refl s.top (end s) W.top13 s.bins z q l is-in small j 64 (omega arith)))))
      (λ k. simp ifs
      (walk-rel Q (q-refl _ _ refl) (block_word s.top (end s) (rebin s.bins z l)) (block_word s.top (end s) s.bins) (blocks s) blocks_at 1 a k
      (λ r b P h ra ab. word_kept Q q-refl s.top (end s) W.top13 s.bins z q l is-in small r b P (a - r)
      (omega (arith, in-aligned (blocks s) blocks_at 1 r b P W.sized refl h)) (λ e f. own (omega arith))))))
