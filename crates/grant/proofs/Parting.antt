-- A free large block that stands in no bin is parted, below a held one: its low part is held, the rest is a free block in no bin.
-- An instance of the law of segments.
use mathlib.Core.List.{List, [], ◌++◌, ◌∷◌, append_assoc}
use mathlib.Core.Logic.{◌≢◌, inl, inr}
use mathlib.Core.Option.{none, some}
use mathlib.Core.Path.{◌∙◌, ◌≡◌, ap, refl, subst, sym}
use Prim.Native.Nat.{◌%◌, ◌+◌, ◌-◌, ◌/◌, ◌<◌, ◌≤◌, ℕ}
use native.Mathlib.Nat.{add-zero}
use native.Mathlib.Omega.{arith}
use Rattle.bins.proofs.Entered.{free-heads}
use Rattle.paper.proofs.bins.Bins.{first_count, next-absent, prev-absent}
use Rattle.paper.proofs.sheet.Fields.{at-foot, at_head}
use Rattle.paper.proofs.steps.Leave.{NothingNew}
use Rattle.paper.proofs.sheet.Phases.{Step}
use Rattle.paper.proofs.steps.Segment.{after_same, seg-frame}
use Rattle.paper.proofs.sheet.Stores.{Elsewhere, Good}
use Rattle.paper.proofs.runs.Walk.{In, flag_past, free_sum-append, in-mid, total-append}
use Rattle.paper.specs.Bins.{count, first}
use Rattle.paper.specs.Blocks.{Block, State, block, blocks, end, free, free_sum, held, remainder, total}
use Rattle.paper.specs.Governed.{block_word, head_word, header_word, large_word, link, sheet, walk}
use Rattle.paper.specs.Layout.{blocks_at, free_word_at, large}
use Rattle.words.specs.Choice.{by<, by=, if<, if<-no, if=, ifs}

past_by : (a p d : ℕ) → p ≤ a → a ≢ p + d → a - p ≢ d
past_by a p d l n = omega arith

module _ (t rest : ℕ) (us ys high : List Block) (z b y : ℕ) where
  abbrev pub unparted : (ℕ → List ℕ) → State
  unparted bins = record { top = t; low = us ++ block z free ∷ block y held ∷ ys; rest = rest; high = high; bins = bins }

  abbrev pub parted : (ℕ → List ℕ) → State
  parted bins = record { top = t; low = us ++ block b held ∷ block (z - b) free ∷ block y held ∷ ys; rest = rest; high = high; bins = bins }

  abbrev pub part_at : ℕ
  part_at = blocks_at + total us

  abbrev part-tail : List Block
  part-tail = block y held ∷ (ys ++ block rest remainder ∷ high)

  old-blocks : (bins : ℕ → List ℕ) → blocks (unparted bins) ≡ us ++ block z free ∷ part-tail
  old-blocks bins = append_assoc us (block z free ∷ block y held ∷ ys) (block rest remainder ∷ high)

  new-blocks : (bins : ℕ → List ℕ) → blocks (parted bins) ≡ us ++ block b held ∷ block (z - b) free ∷ part-tail
  new-blocks bins = append_assoc us (block b held ∷ block (z - b) free ∷ block y held ∷ ys) (block rest remainder ∷ high)

  -- the low part, and what is left, are both large
  module _ (b-large : large ≤ b) (more : b + large ≤ z) where
    new-total : (bins : ℕ → List ℕ) → total (blocks (parted bins)) ≡ total us + (b + (z - b + total part-tail))
    new-total bins = ap total (new-blocks bins) ∙ total-append us (block b held ∷ block (z - b) free ∷ part-tail)

    pub part_end : (bins : ℕ → List ℕ) → end (parted bins) ≡ end (unparted bins)
    part_end bins = omega (arith, new-total bins, ap total (old-blocks bins) ∙ total-append us (block z free ∷ part-tail))

    low_same : (bins : ℕ → List ℕ) → total (parted bins).low ≡ total (unparted bins).low
    low_same bins =
        omega (
          arith,
          total-append us (block b held ∷ block (z - b) free ∷ block y held ∷ ys),
          total-append us (block z free ∷ block y held ∷ ys),
        )

    pub part_free : (bins : ℕ → List ℕ) → free_sum (blocks (parted bins)) + b ≡ free_sum (blocks (unparted bins))
    part_free bins =
        omega (
          arith,
          ap free_sum (new-blocks bins),
          ap free_sum (old-blocks bins),
          free_sum-append us (block b held ∷ block (z - b) free ∷ part-tail),
          free_sum-append us (block z free ∷ part-tail),
        )

    pub part_room : (bins : ℕ → List ℕ) → b + 8 ≤ free_sum (blocks (unparted bins))
    part_room bins = omega (arith, ap free_sum (old-blocks bins), free_sum-append us (block z free ∷ part-tail))

    -- the low part's head, the free block's, and the free word
    abbrev pub part-stores : (ℕ → List ℕ) → List (ℕ × ℕ)
    part-stores bins =
        (part_at, head_word b held (flag_past 1 us)) ∷ (free-heads (part_at + b) (z - b) ++ (free_word_at, free_sum (blocks (unparted bins)) - 4 - b) ∷ [])

    header-same : (bins : ℕ → List ℕ) (w : ℕ) → w ≢ 0 → header_word (parted bins) w ≡ header_word (unparted bins) w
    unfolding header_word
    header-same bins w n = let e = low_same bins in simp ifs (rw e)

    -- the new free block has only its head and its foot
    bare : (n : ℕ) (bins : ℕ → List ℕ) (o : ℕ) → count (part_at + b) (bins (z - b)) ≡ 0 → o ≢ 0 → o ≢ z - b - 4
        → block_word t n bins (part_at + b) (block (z - b) free) 1 o ≡ none
    unfolding large_word
    bare n bins o un o0 of =
        let big : 72 ≤ z - b = omega arith in
        let fp : first (bins (z - b)) ≢ part_at + b = (λ e. omega (arith, un, first_count (bins (z - b)) (part_at + b) e (omega arith))) in
        by= o 4 (λ e. simp ifs (ap (link (part_at + b)) (prev-absent 0 (bins (z - b)) (part_at + b) un)))
        (λ e4. by= o 8 (λ e. simp ifs (ap (link (part_at + b)) (next-absent (bins (z - b)) (part_at + b) un))) (λ e8. simp ifs))

    whole : part_at + b + (z - b) ≡ part_at + (z + 0)
    whole = omega arith

    part-frame : (bins : ℕ → List ℕ) → count (part_at + b) (bins (z - b)) ≡ 0 → (a : ℕ) → a % 4 ≡ 0 → Elsewhere a (part-stores bins)
        → NothingNew (sheet (parted bins) a) (sheet (unparted bins) a)
    unfolding walk
    part-frame bins un a al out =
        seg-frame (unparted bins) (parted bins) us (block z free ∷ []) (block b held ∷ block (z - b) free ∷ []) part-tail a refl refl
        (old-blocks bins) (new-blocks bins) (part_end bins) (omega arith)
        (λ l e. header-same bins (a / 8) (omega (arith, out.1.1.1.0)))
        (λ n l. after_same (block_word t n bins) part-tail _ _ _ a (if<-no (z - b) 72 1 0 (omega arith) ∙ sym (if<-no z 72 1 0 (omega arith))))
        (λ n l m. inl (by< a (part_at + b)
        (λ i. let o : a - part_at ≢ 0 = past_by a part_at 0 l (λ e. out.0 (e ∙ add-zero part_at)) in simp ifs)
        (λ i. let j : a < part_at + b + (z - b) = subst (λ (k : ℕ). a < k) (sym whole) m in
        simp ifs (bare n bins (a - (part_at + b)) un (past_by a (part_at + b) 0 i (λ e. out.1.0 (e ∙ add-zero (part_at + b))))
        (past_by a (part_at + b) (z - b - 4) i out.1.1.0)))))

    module _ (y8 : 8 ≤ y) (pz : z % 8 ≡ 0) (pb : b % 8 ≡ 0) (px : (168 + total us) % 8 ≡ 0) where
      pub parted-in : (bins : ℕ → List ℕ) → In (blocks (parted bins)) 168 1 (part_at + b) (block (z - b) free) 1
      parted-in bins =
          rw (new-blocks bins) (in-mid us (block b held ∷ block (z - b) free ∷ part-tail) 168 1 (part_at + b) _ _ (inr (inl (refl, refl, refl))))

      -- whatever the bins are afterwards
      pub part-good : (bins bins' : ℕ → List ℕ) → Good (sheet (parted bins')) (end (parted bins')) (part-stores bins)
      unfolding sheet header_word if< if=
      part-good bins bins' = (
        (omega arith, omega (arith, new-total bins'), at_head (parted bins') part_at b held (flag_past 1 us) low (omega arith)),
        (
          (omega arith, omega (arith, new-total bins'), at_head (parted bins') (part_at + b) (z - b) free 1 (parted-in bins') (omega arith)),
          (
            (omega arith, omega (arith, new-total bins'), at-foot (parted bins') (part_at + b) (z - b) 1 (parted-in bins') (omega arith)),
            ((refl, omega arith, ap some (omega (arith, part_free bins'))), tt),
          ),
        ),
      )
        where
          low : In (blocks (parted bins')) 168 1 part_at (block b held) (flag_past 1 us)
          low = rw (new-blocks bins') (in-mid us (block b held ∷ block (z - b) free ∷ part-tail) 168 1 part_at _ _ (inl (refl, refl, refl)))

      pub part_step : (bins : ℕ → List ℕ) → count (part_at + b) (bins (z - b)) ≡ 0
          → Step (end (parted bins)) (sheet (unparted bins)) (sheet (parted bins)) (part-stores bins)
      part_step bins un = record { good = part-good bins bins; frame = λ a al _ o. part-frame bins un a al o }
