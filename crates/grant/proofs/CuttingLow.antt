-- A large block is cut from the remainder's low end: the stores that do it, an instance of the law of segments.
use mathlib.Core.List.{List, [], ◌++◌, ◌∷◌, append_assoc}
use mathlib.Core.Logic.{◌≢◌, inl, inr}
use mathlib.Core.Option.{some}
use mathlib.Core.Path.{◌∙◌, ◌≡◌, ap, refl, subst, sym}
use Prim.Native.Nat.{◌%◌, ◌+◌, ◌-◌, ◌/◌, ◌<◌, ◌≤◌, ℕ}
use native.Mathlib.Omega.{arith}
use lib.ListN.{length}
use Rattle.paper.proofs.sheet.Fields.{at_head}
use Rattle.paper.proofs.steps.Leave.{NothingNew}
use Rattle.paper.proofs.steps.Segment.{after_same, seg-frame}
use Rattle.paper.proofs.sheet.Stores.{Elsewhere, Good, finish, puts}
use Rattle.paper.proofs.runs.Walk.{In, flag_past, free_sum-append, in-mid, total-append}
use Rattle.paper.specs.Blocks.{State, block, blocks, end, free_sum, held, remainder, total}
use Rattle.paper.specs.Governed.{block_word, head_word, header_word, sheet, walk}
use Rattle.paper.specs.Granting.{R}
use Rattle.paper.specs.Sheet.{Holds, write}
use Rattle.words.specs.Choice.{by<, by=, if<, if=, ifs}

module _ (s : State) (b : ℕ) (least : 8 ≤ b) (room : b + 8 ≤ s.rest) where
  abbrev pub low-cut : State
  low-cut = record { top = s.top; low = s.low ++ block b held ∷ []; rest = s.rest - b; high = s.high; bins = s.bins }

  unfoldable pub low-cut-puts : List (ℕ × ℕ)
  low-cut-puts = (0, free_sum (blocks s) - 4 - b) ∷ (16, R s + b) ∷ (R s, head_word b held (flag_past 1 s.low)) ∷
      (R s + b, head_word (s.rest - b) remainder 1) ∷ []

  new-blocks : blocks low-cut ≡ s.low ++ block b held ∷ block (s.rest - b) remainder ∷ s.high
  new-blocks = append_assoc s.low (block b held ∷ []) (block (s.rest - b) remainder ∷ s.high)

  low-total : total low-cut.low ≡ total s.low + b
  low-total = omega (arith, total-append s.low (block b held ∷ []))

  new-total : total (blocks low-cut) ≡ total s.low + (b + (s.rest - b + total s.high))
  new-total = ap total new-blocks ∙ total-append s.low (block b held ∷ block (s.rest - b) remainder ∷ s.high)

  end_same : end low-cut ≡ end s
  end_same = omega (arith, new-total, total-append s.low (block s.rest remainder ∷ s.high))

  pub low-cut-free : free_sum (blocks low-cut) + b ≡ free_sum (blocks s)
  low-cut-free =
      omega (
        arith,
        ap free_sum new-blocks,
        free_sum-append s.low (block b held ∷ block (s.rest - b) remainder ∷ s.high),
        free_sum-append s.low (block s.rest remainder ∷ s.high),
      )

  header-same : (w : ℕ) → w ≢ 0 → w ≢ 2 → header_word low-cut w ≡ header_word s w
  unfolding header_word
  header-same w n0 n2 =
      by= w 3 (λ e. let n1 : w ≢ 1 = omega arith in simp ifs (omega (arith, low-total))) (λ n3. simp ifs)

  low-cut-frame : (a : ℕ) → a % 4 ≡ 0 → Elsewhere a low-cut-puts → NothingNew (sheet low-cut a) (sheet s a)
  unfolding low-cut-puts walk
  low-cut-frame a al out =
      seg-frame s low-cut s.low (block s.rest remainder ∷ []) (block b held ∷ block (s.rest - b) remainder ∷ []) s.high a
      refl refl refl new-blocks end_same (omega arith)
      (λ l z. header-same (a / 8) (omega arith) (omega arith))
      (λ n l. after_same (block_word s.top n s.bins) s.high (168 + total s.low + total (block s.rest remainder ∷ [])) 1 1 a refl)
      (λ n l m. inl (by< a (R s + b)
      (λ i. let o : a - R s ≢ 0 = omega arith in simp ifs)
      (λ i. let o : a - (R s + b) ≢ 0 = omega arith in let j : a < R s + b + (s.rest - b) = omega arith in simp ifs)))

  low-cut-good : R s % 8 ≡ 0 → s.rest % 8 ≡ 0 → b % 8 ≡ 0 → Good (sheet low-cut) (end low-cut) low-cut-puts
  unfolding low-cut-puts sheet header_word if< if=
  low-cut-good p8 r8 c8 = (
    (refl, omega arith, ap some (omega (arith, low-cut-free))),
    (
      (refl, omega (arith, new-total), ap some (omega (arith, low-total))),
      (
        (omega arith, omega (arith, new-total), at_head low-cut (R s) b held (flag_past 1 s.low) at (omega arith)),
        ((omega arith, omega (arith, new-total), at_head low-cut (R s + b) (s.rest - b) remainder 1 next (omega arith)), tt),
      ),
    ),
  )
    where
      at : In (blocks low-cut) 168 1 (R s) (block b held) (flag_past 1 s.low)
      at = rw new-blocks (in-mid s.low (block b held ∷ block (s.rest - b) remainder ∷ s.high) 168 1 (R s) _ _ (inl (refl, refl, refl)))

      next : In (blocks low-cut) 168 1 (R s + b) (block (s.rest - b) remainder) 1
      next = rw new-blocks (in-mid s.low (block b held ∷ block (s.rest - b) remainder ∷ s.high) 168 1 (R s + b) _ _ (inr (inl (refl, refl, refl))))

  pub low-cut-written : R s % 8 ≡ 0 → s.rest % 8 ≡ 0 → b % 8 ≡ 0 → (bs : List ℕ) → length bs ≡ end s → Holds (sheet s) bs
      → puts low-cut-puts bs ≡ write (sheet low-cut) bs
  low-cut-written p8 r8 c8 bs l h =
      finish (sheet s) (sheet low-cut) bs low-cut-puts h
      (subst (λ (n : ℕ). Good (sheet low-cut) n low-cut-puts) (end_same ∙ sym l) (low-cut-good p8 r8 c8))
      (λ a al _ o. low-cut-frame a al o)
