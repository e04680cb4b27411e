-- A run of blocks that stand in no bin becomes one free block, below a held one: the step between the sheets.
use mathlib.Core.List.{List, [], ◌++◌, ◌∷◌, append_assoc}
use mathlib.Core.Logic.{◌≢◌, inl, inr}
use mathlib.Core.Option.{none, some}
use mathlib.Core.Path.{◌∙◌, ◌≡◌, ap, refl, sym}
use Prim.Native.Nat.{◌%◌, ◌+◌, ◌-◌, ◌/◌, ◌<◌, ◌≤◌, ℕ}
use native.Mathlib.Omega.{arith}
use Rattle.paper.proofs.bins.Bins.{first_count, next-absent, prev-absent}
use Rattle.paper.proofs.sheet.Fields.{at-foot, at_head}
use Rattle.paper.proofs.steps.Leave.{NothingNew}
use Rattle.paper.proofs.sheet.Phases.{Step}
use Rattle.paper.proofs.steps.Segment.{walk-mid, walk-skip}
use Rattle.paper.proofs.sheet.Stores.{Elsewhere, Good}
use Rattle.paper.proofs.runs.Walk.{In, flag_past, free_sum-append, in-mid, total-append}
use Rattle.paper.specs.Bins.{count, first}
use Rattle.paper.specs.Blocks.{Block, State, block, blocks, end, free, free_sum, held, remainder, total}
use Rattle.paper.specs.Governed.{block_word, head_word, header_word, index, large_word, link, sheet, walk}
use Rattle.paper.specs.Layout.{blocks_at, false_block, free_word_at, large}
use Rattle.words.specs.Choice.{by<, by=, if<, if<-no, if<-yes, if=, ifs}

module _ (t rest : ℕ) (xs ms ys high : List Block) (y : ℕ) where
  abbrev pub unjoined : (ℕ → List ℕ) → State
  unjoined b = record { top = t; low = xs ++ (ms ++ block y held ∷ ys); rest = rest; high = high; bins = b }

  abbrev pub joined : (ℕ → List ℕ) → State
  joined b = record { top = t; low = xs ++ block (total ms) free ∷ block y held ∷ ys; rest = rest; high = high; bins = b }

  abbrev join-tail : List Block
  join-tail = block y held ∷ (ys ++ block rest remainder ∷ high)

  abbrev join-at : ℕ
  join-at = blocks_at + total xs

  old-blocks : (b : ℕ → List ℕ) → blocks (unjoined b) ≡ xs ++ (ms ++ join-tail)
  old-blocks b = append_assoc xs (ms ++ block y held ∷ ys) (block rest remainder ∷ high)
      ∙ ap (λ (l : List Block). xs ++ l) (append_assoc ms (block y held ∷ ys) (block rest remainder ∷ high))

  new-blocks : (b : ℕ → List ℕ) → blocks (joined b) ≡ xs ++ block (total ms) free ∷ join-tail
  new-blocks b = append_assoc xs (block (total ms) free ∷ block y held ∷ ys) (block rest remainder ∷ high)

  old-total : (b : ℕ → List ℕ) → total (blocks (unjoined b)) ≡ total xs + (total ms + total join-tail)
  old-total b = ap total (old-blocks b) ∙ total-append xs (ms ++ join-tail) ∙ ap (λ (k : ℕ). total xs + k) (total-append ms join-tail)

  new-total : (b : ℕ → List ℕ) → total (blocks (joined b)) ≡ total xs + (total ms + total join-tail)
  new-total b = ap total (new-blocks b) ∙ total-append xs (block (total ms) free ∷ join-tail)

  pub end-join : (b : ℕ → List ℕ) → end (joined b) ≡ end (unjoined b)
  end-join b = omega (arith, old-total b, new-total b)

  low_same : (b : ℕ → List ℕ) → total (joined b).low ≡ total (unjoined b).low
  low_same b = total-append xs (block (total ms) free ∷ block y held ∷ ys)
      ∙ sym (total-append xs (ms ++ block y held ∷ ys) ∙ ap (λ (k : ℕ). total xs + k) (total-append ms (block y held ∷ ys)))

  unfoldable pub join-puts : List (ℕ × ℕ)
  join-puts =
      (free_word_at, free_sum xs + (total ms + free_sum join-tail) - 4) ∷ (join-at, head_word (total ms) free (flag_past 1 xs)) ∷
      (join-at + (total ms - 4), head_word (total ms) free (flag_past 1 xs)) ∷ (join-at + total ms, head_word y held 0) ∷ []

  header-same : (b : ℕ → List ℕ) (w : ℕ) → w ≢ 0 → header_word (joined b) w ≡ header_word (unjoined b) w
  unfolding header_word
  header-same b w n = let e = low_same b in simp ifs (rw e)

  module _ (big : large ≤ total ms) (y8 : 8 ≤ y) where
    join-walk : (b : ℕ → List ℕ) (n a : ℕ) → count join-at (b (total ms)) ≡ 0
        → blocks_at ≤ a → a ≢ join-at → a ≢ join-at + (total ms - 4) → a ≢ join-at + total ms
        → NothingNew (walk (block_word t n b) (xs ++ block (total ms) free ∷ join-tail) blocks_at 1 a)
        (walk (block_word t n b) (xs ++ (ms ++ join-tail)) blocks_at 1 a)
    unfolding walk large_word
    join-walk b n a un l n0 n1 n2 =
        walk-mid NothingNew (λ x. inr refl) (block_word t n b) xs (block (total ms) free ∷ join-tail) (ms ++ join-tail) blocks_at 1 a l
        (λ m. by< a (join-at + total ms)
        (λ i. inl (if<-yes a (join-at + total ms) _ _ i ∙ inside i m))
        (λ i. by< a (join-at + total ms + y)
        (λ k. let o : a - (join-at + total ms) ≢ 0 = omega arith in inl (simp ifs))
        (λ k. inr (simp ifs (sym (walk-skip (block_word t n b) ms join-tail join-at (flag_past 1 xs) a i ∙ simp ifs))))))
      where
        inside : a < join-at + total ms → join-at ≤ a → block_word t n b join-at (block (total ms) free) (flag_past 1 xs) (a - join-at) ≡ none
        inside i m =
            let o0 : a - join-at ≢ 0 = omega arith in let of : a - join-at ≢ total ms - 4 = omega arith in
            let fp : first (b (total ms)) ≢ join-at = (λ e. omega (arith, un, first_count (b (total ms)) join-at e (omega arith))) in
            by= (a - join-at) 4 (λ e. simp ifs (ap (link join-at) (prev-absent 0 (b (total ms)) join-at un)))
            (λ e4. by= (a - join-at) 8 (λ e. simp ifs (ap (link join-at) (next-absent (b (total ms)) join-at un))) (λ e8. simp ifs))

    pub join-frame : (b : ℕ → List ℕ) → count join-at (b (total ms)) ≡ 0 → (a : ℕ) → a % 4 ≡ 0 → Elsewhere a join-puts
        → NothingNew (sheet (joined b) a) (sheet (unjoined b) a)
    unfolding sheet join-puts
    join-frame b un a al out =
        by< a false_block
        (λ l. inr (simp ifs (by= (a % 8) 0 (λ e. simp ifs (ap some (header-same b (a / 8) (omega arith)))) (λ e. simp ifs))))
        (λ l. by< a blocks_at
        (λ m. inr (simp ifs (ap (λ (n : ℕ). index t n b (some 0) t false_block 64 (a - false_block)) (end-join b))))
        (λ m. simp ifs (rw (end-join b, new-blocks b, old-blocks b)
        (join-walk b (blocks_at + total (xs ++ (ms ++ join-tail))) a un m out.1.0 out.1.1.0 out.1.1.1.0))))

    module _ (pz : total ms % 8 ≡ 0) (px : (blocks_at + total xs) % 8 ≡ 0) where
      pub join-good : (b : ℕ → List ℕ) → Good (sheet (joined b)) (end (joined b)) join-puts
      unfolding join-puts sheet header_word if< if=
      join-good b = (
        (refl, omega arith, ap some (omega (arith, ap free_sum (new-blocks b) ∙ free_sum-append xs (block (total ms) free ∷ join-tail)))),
        (
          (omega arith, omega (arith, new-total b), at_head (joined b) join-at (total ms) free (flag_past 1 xs) at (omega arith)),
          (
            (omega arith, omega (arith, new-total b), at-foot (joined b) join-at (total ms) (flag_past 1 xs) at big),
            ((omega arith, omega (arith, new-total b), at_head (joined b) (join-at + total ms) y held 0 next (omega arith)), tt),
          ),
        ),
      )
        where
          at : In (blocks (joined b)) blocks_at 1 join-at (block (total ms) free) (flag_past 1 xs)
          at = rw (new-blocks b) (in-mid xs (block (total ms) free ∷ join-tail) blocks_at 1 join-at (block (total ms) free) (flag_past 1 xs)
              (inl (refl, refl, refl)))

          next : In (blocks (joined b)) blocks_at 1 (join-at + total ms) (block y held) 0
          next = rw (new-blocks b) (in-mid xs (block (total ms) free ∷ join-tail) blocks_at 1 (join-at + total ms) (block y held) 0
              (inr (inl (refl, refl, sym (if<-no (total ms) 72 1 0 big)))))

      pub join_step : (b : ℕ → List ℕ) → count join-at (b (total ms)) ≡ 0 → Step (end (joined b)) (sheet (unjoined b)) (sheet (joined b)) join-puts
      join_step b un = record { good = join-good b; frame = λ a al _ o. join-frame b un a al o }
