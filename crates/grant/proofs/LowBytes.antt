-- Cutting a large block from the remainder's low end, on bytes, is the paper's: by the stores that do it.
use mathlib.Core.List.{List, [], ◌∷◌}
use mathlib.Core.Path.{◌∙◌, ◌≡◌, ap, sym}
use Prim.Native.Nat.{◌%◌, ◌+◌, ◌-◌, ◌≤◌, ℕ}
use native.Mathlib.Omega.{arith}
use Rattle.grant.proofs.CuttingLow.{low-cut, low-cut-puts, low-cut-written}
use Rattle.choosing.proofs.RestRead.{rest_is}
use Rattle.grant.proofs.Spending.{granted-leaves, spent-stores}
use Rattle.grant.specs.Large.{cut_low as cut_low-model}
use Rattle.grant.specs.Granted.{spent}
use Rattle.heads.specs.Heads.{free_head, held_head}
use Rattle.paper.proofs.runs.Flags.{low-flag}
use Rattle.paper.proofs.keeps.Kept.{sized-low, sized-rest}
use Rattle.paper.proofs.reads.HeadWords.{free_head-is, held_head-is}
use Rattle.paper.proofs.reads.HeaderReads.{end-near, free-near, free-read}
use Rattle.paper.proofs.reads.Stands.{Stands}
use Rattle.paper.proofs.sheet.Stores.{puts}
use Rattle.paper.proofs.runs.Walk.{flag_past, free_sum-append, sized-eight}
use Rattle.paper.specs.Blocks.{State, block, blocks, free_sum, held, remainder}
use Rattle.paper.specs.Calls.{leaves}
use Rattle.paper.specs.Governed.{head_word, sheet}
use Rattle.paper.specs.Granting.{R, cut_low}
use Rattle.paper.specs.Layout.{start_at}
use Rattle.paper.specs.Sheet.{write}
use Rattle.words.specs.Sums.{minus, plus}

module _ (s : State) (bs : List ℕ) (S : Stands s bs) (b : ℕ) (least : 8 ≤ b) (eights : b % 8 ≡ 0) (room : b + 8 ≤ s.rest) where
  above : plus (R s) b ≡ R s + b
  above = omega (arith, end-near s bs S)

  held-head : held_head b ≡ head_word b held (flag_past 1 s.low)
  held-head =
      held_head-is b (omega (arith, end-near s bs S)) ∙ ap (head_word b held) (sym (low-flag s.low S.well_formed.low_ok))

  rest-head : free_head (minus s.rest b) ≡ head_word (s.rest - b) remainder 1
  rest-head =
      let e : minus s.rest b ≡ s.rest - b = omega (arith, end-near s bs S) in
      ap free_head e ∙ free_head-is (s.rest - b) (omega (arith, end-near s bs S))

  abbrev stores : List (ℕ × ℕ)
  stores = (start_at, R s + b) ∷ (R s, head_word b held (flag_past 1 s.low)) ∷ (R s + b, head_word (s.rest - b) remainder 1) ∷ []

  low-cut-bytes : spent (puts ((start_at, plus (R s) b) ∷ (R s, held_head b) ∷ (plus (R s) b, free_head (minus s.rest b)) ∷ []) bs) b
      ≡ write (sheet (low-cut s b least room)) bs
  unfolding low-cut-puts
  low-cut-bytes =
      let al : R s % 8 ≡ 0 = omega (arith, sized-eight s.low (sized-low s S.well_formed)) in
      let r = sized-rest s S.well_formed in
      (λ i. spent (puts ((start_at, above i) ∷ (R s, held-head i) ∷ (above i, rest-head i) ∷ []) bs) b)
      ∙ spent-stores stores bs b (free_sum (blocks s) - 4) (omega arith, (omega arith, (omega arith, tt))) (free-read s bs S)
      (omega (arith, free-near s bs S)) (omega (arith, free_sum-append s.low (block s.rest remainder ∷ s.high)))
      ∙ low-cut-written s b least room (omega arith) (omega arith) eights bs (sym S.ends) S.holds

  pub cut_low-bytes : cut_low-model bs (rest_is s) b ≡ leaves (cut_low s b) bs
  unfolding cut_low-model cut_low
  cut_low-bytes = granted-leaves _ (R s) b (low-cut s b least room) bs (omega (arith, end-near s bs S)) low-cut-bytes
