-- A run of blocks that stand in no bin, just below R, is with the remainder: the step between the sheets, an instance of the law of segments.
use mathlib.Core.List.{List, [], ◌++◌, ◌∷◌, append_assoc}
use mathlib.Core.Logic.{◌≢◌, inl}
use mathlib.Core.Option.{some}
use mathlib.Core.Path.{◌∙◌, ◌≡◌, ap, refl, sym}
use Prim.Native.Nat.{◌%◌, ◌+◌, ◌-◌, ◌/◌, ◌<◌, ◌≤◌, ℕ}
use native.Mathlib.Omega.{arith}
use Rattle.paper.proofs.sheet.Fields.{at_head}
use Rattle.paper.proofs.runs.Flags.{flag-append}
use Rattle.paper.proofs.steps.Leave.{NothingNew, with-bins}
use Rattle.paper.proofs.sheet.Phases.{Step}
use Rattle.paper.proofs.steps.Segment.{after_same, seg-frame}
use Rattle.paper.proofs.keeps.Settled.{into_remainder}
use Rattle.paper.proofs.sheet.Stores.{Elsewhere, Good}
use Rattle.paper.proofs.runs.Walk.{In, flag_past, free_sum-append, in-mid, total-append}
use Rattle.paper.specs.Blocks.{Block, State, block, blocks, end, free_sum, remainder, total}
use Rattle.paper.specs.Governed.{block_word, head_word, header_word, sheet, walk}
use Rattle.words.specs.Choice.{if<, if=, ifs}

module _ (s : State) (b : ℕ → List ℕ) (us ms : List Block) (is : s.low ≡ us ++ ms) (flag : flag_past 1 us ≡ 1) where
  abbrev m : ℕ
  m = total ms

  abbrev a : ℕ
  a = 168 + total us

  abbrev O : State
  O = with-bins s b

  abbrev N : State
  N = into_remainder s b us m

  abbrev pub rest-stores : List (ℕ × ℕ)
  rest-stores = (16, a) ∷ (a, head_word (m + s.rest) remainder 1) ∷ (0, free_sum us + (m + s.rest + free_sum s.high) - 4) ∷ []

  low-total : total s.low ≡ total us + m
  low-total = ap total is ∙ total-append us ms

  old-blocks : blocks O ≡ us ++ ((ms ++ block s.rest remainder ∷ []) ++ s.high)
  old-blocks =
      ap (λ (l : List Block). l ++ block s.rest remainder ∷ s.high) is ∙ append_assoc us ms (block s.rest remainder ∷ s.high)
      ∙ ap (λ (l : List Block). us ++ l) (sym (append_assoc ms (block s.rest remainder ∷ []) s.high))

  same_total : total (block (m + s.rest) remainder ∷ []) ≡ total (ms ++ block s.rest remainder ∷ [])
  same_total = omega (arith, total-append ms (block s.rest remainder ∷ []))

  new-end : end N ≡ a + (m + s.rest + total s.high)
  new-end = omega (arith, total-append us (block (m + s.rest) remainder ∷ s.high))

  pub rest_end : end N ≡ end O
  rest_end = omega (arith, new-end, total-append s.low (block s.rest remainder ∷ s.high), low-total)

  header-same : (w : ℕ) → w ≢ 0 → w ≢ 2 → header_word N w ≡ header_word O w
  unfolding header_word
  header-same w n0 n2 =
      let e : 168 + total us + (m + s.rest) ≡ 168 + total s.low + s.rest = omega (arith, low-total) in
      simp ifs (rw e)

  rest-frame : (k : ℕ) → k % 4 ≡ 0 → Elsewhere k rest-stores → NothingNew (sheet N k) (sheet O k)
  unfolding walk
  rest-frame k al out =
      seg-frame O N us (ms ++ block s.rest remainder ∷ []) (block (m + s.rest) remainder ∷ []) s.high k refl refl old-blocks refl rest_end
      same_total
      (λ l z. header-same (k / 8) (omega (arith, out.1.1.0)) (omega (arith, out.0)))
      (λ n l. after_same (block_word (with-bins s b).top n (with-bins s b).bins) s.high (168 + total us + total (ms ++ block s.rest remainder ∷ [])) (flag_past (flag_past 1 us) (ms ++ block s.rest remainder ∷ [])) 1 k
      (sym (flag-append (flag_past 1 us) ms (block s.rest remainder ∷ []))))
      (λ n l i. let o : k - a ≢ 0 = omega (arith, out.1.0) in let j : k < a + (m + s.rest) = omega (arith, same_total) in inl (simp ifs))

  module _ (px : a % 8 ≡ 0) (rest8 : 8 ≤ s.rest) where
    pub rest-good : Good (sheet N) (end N) rest-stores
    unfolding sheet header_word if< if=
    rest-good = (
      (refl, omega (arith, new-end), refl),
      (
        (omega arith, omega (arith, new-end), at_head N a (m + s.rest) remainder 1 at (omega arith)),
        (
          (
            refl,
            omega arith,
            ap some (omega (arith, free_sum-append us (block (m + s.rest) remainder ∷ s.high))),
          ),
          tt,
        ),
      ),
    )
      where
        at : In (blocks N) 168 1 a (block (m + s.rest) remainder) 1
        at = in-mid us (block (m + s.rest) remainder ∷ s.high) 168 1 a (block (m + s.rest) remainder) 1 (inl (refl, refl, sym flag))

    pub rest-step : Step (end N) (sheet O) (sheet N) rest-stores
    rest-step = record { good = rest-good; frame = λ k al n o. rest-frame k al o }
