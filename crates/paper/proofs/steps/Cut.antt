-- A small block is cut from the remainder's high end: an instance of the law of segments.
use mathlib.Core.List.{List, [], ◌∷◌}
use mathlib.Core.Logic.{◌≢◌, inl, inr}
use mathlib.Core.Option.{some}
use mathlib.Core.Path.{◌∙◌, ◌≡◌, ap, refl, subst, sym}
use Prim.Native.Nat.{◌%◌, ◌+◌, ◌-◌, ◌/◌, ◌<◌, ◌≤◌, ℕ}
use native.Mathlib.Omega.{arith}
use lib.ListN.{length}
use Rattle.paper.proofs.sheet.Fields.{at_head}
use Rattle.paper.proofs.steps.Leave.{NothingNew}
use Rattle.paper.proofs.steps.Segment.{after_same, seg-frame}
use Rattle.paper.proofs.sheet.Stores.{Elsewhere, Good, finish, puts}
use Rattle.paper.proofs.runs.Walk.{In, flag_past, free_sum-append, in-mid, total-append}
use Rattle.paper.specs.Blocks.{State, block, blocks, end, free_sum, held, remainder, total}
use Rattle.paper.specs.Governed.{block_word, head_word, header_word, sheet, walk}
use Rattle.paper.specs.Layout.{blocks_at, end_at, free_word_at}
use Rattle.paper.specs.Sheet.{Holds, write}
use Rattle.words.specs.Choice.{by<, if<, if=, ifs}

module _ (s : State) (b : ℕ) (b8 : 8 ≤ b) (room : b + 8 ≤ s.rest) where
  abbrev pub cut : State
  cut = record { top = s.top; low = s.low; rest = s.rest - b; high = block b held ∷ s.high; bins = s.bins }

  abbrev low-end : ℕ
  low-end = blocks_at + total s.low

  unfoldable pub cut-puts : List (ℕ × ℕ)
  cut-puts = (free_word_at, free_sum (blocks s) - b - 4) ∷ (end_at, low-end + s.rest - b) ∷ (low-end, head_word (s.rest - b) remainder (flag_past 1 s.low)) ∷
      (low-end + (s.rest - b), head_word b held 1) ∷ []

  total-same : total (blocks cut) ≡ total (blocks s)
  total-same = omega (
    arith,
    total-append s.low (block (s.rest - b) remainder ∷ block b held ∷ s.high),
    total-append s.low
        (block s.rest remainder ∷ s.high),
  )

  header-same : (w : ℕ) → w ≢ 0 → w ≢ 3 → header_word cut w ≡ header_word s w
  unfolding header_word
  header-same w n0 n3 = simp ifs

  cut-frame : (a : ℕ) → a % 4 ≡ 0 → Elsewhere a cut-puts → NothingNew (sheet cut a) (sheet s a)
  unfolding cut-puts walk
  cut-frame a al out =
      seg-frame s cut s.low (block s.rest remainder ∷ []) (block (s.rest - b) remainder ∷ block b held ∷ []) s.high a refl refl refl refl
      (ap (λ (k : ℕ). blocks_at + k) total-same) (omega arith)
      (λ l z. header-same (a / 8) (omega arith) (omega arith))
      (λ n l. after_same (block_word s.top n s.bins) s.high (blocks_at + total s.low + total (block s.rest remainder ∷ [])) 1 1 a refl)
      (λ n l m. inl (by< a (low-end + (s.rest - b))
      (λ i. let o : a - low-end ≢ 0 = omega arith in simp ifs)
      (λ i. let o : a - (low-end + (s.rest - b)) ≢ 0 = omega arith in let j : a < low-end + (s.rest - b) + b = omega arith in simp ifs)))

  cut-good : (low-end % 4 ≡ 0) → (s.rest % 4 ≡ 0) → b % 4 ≡ 0 → Good (sheet cut) (end cut) cut-puts
  unfolding cut-puts sheet header_word if< if=
  cut-good p8 r8 c8 = (
    (
      refl,
      omega (arith, tot),
      ap some
          (omega (
            arith,
            free_sum-append s.low (block (s.rest - b) remainder ∷ block b held ∷ s.high),
            free_sum-append s.low
                (block s.rest remainder ∷ s.high),
          )),
    ),
    (
      (refl, omega (arith, tot), ap some (omega arith)),
      (
        (p8, omega (arith, tot), at_head cut low-end (s.rest - b) remainder (flag_past 1 s.low) at (omega arith)),
        ((omega arith, omega (arith, tot), at_head cut (low-end + (s.rest - b)) b held 1 next (omega arith)), tt),
      ),
    ),
  )
    where
      tot : total (blocks cut) ≡ total s.low + (s.rest - b + (b + total s.high))
      tot = total-append s.low (block (s.rest - b) remainder ∷ block b held ∷ s.high)

      at : In (blocks cut) blocks_at 1 low-end (block (s.rest - b) remainder) (flag_past 1 s.low)
      at = in-mid s.low (block (s.rest - b) remainder ∷ block b held ∷ s.high) blocks_at 1 low-end _ _ (inl (refl, refl, refl))

      next : In (blocks cut) blocks_at 1 (low-end + (s.rest - b)) (block b held) 1
      next = in-mid s.low (block (s.rest - b) remainder ∷ block b held ∷ s.high) blocks_at 1 (low-end + (s.rest - b)) _ _ (inr (inl (refl, refl, refl)))

  pub take-cut : low-end % 4 ≡ 0 → s.rest % 4 ≡ 0 → b % 4 ≡ 0 → (bs : List ℕ) → length bs ≡ end s → Holds (sheet s) bs
      → puts cut-puts bs ≡ write (sheet cut) bs
  take-cut p8 r8 c8 bs l h =
      finish (sheet s) (sheet cut) bs cut-puts h
      (subst (λ (n : ℕ). Good (sheet cut) n cut-puts) (ap (λ (k : ℕ). blocks_at + k) total-same ∙ sym l) (cut-good p8 r8 c8))
      (λ a al _ o. cut-frame a al o)
