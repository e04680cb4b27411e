-- Granting a small block on bytes is the paper's: the model's stores are those of popping and of cutting, and the free word falls first or last.
use mathlib.Core.List.{List, [], ◌∷◌}
use mathlib.Core.Option.{some}
use mathlib.Core.Path.{◌∙◌, ◌≡◌, ap, refl, sym}
use Prim.Native.Nat.{◌%◌, ◌+◌, ◌-◌, ◌≤◌, ℕ}
use native.Mathlib.Omega.{arith}
use Rattle.grant.proofs.Popping.{after-pop, pop-place, pop-puts, pop-room, pop-written, take_first-is}
use Rattle.choosing.proofs.RestRead.{rest_is}
use Rattle.grant.proofs.Spending.{granted-leaves, spent-stores}
use Rattle.grant.specs.Granted.{spent, granted as granted-model}
use Rattle.grant.specs.Small.{cut_high as cut_high-model, take_first as take_first-model}
use Rattle.heads.specs.Heads.{free_head, held_head}
use Rattle.paper.proofs.bins.Bins.{count-here}
use Rattle.paper.proofs.steps.Cut.{cut, cut-puts, take-cut}
use Rattle.paper.proofs.runs.Flags.{low-flag}
use Rattle.paper.proofs.keeps.Kept.{sized-low, sized-rest}
use Rattle.paper.proofs.reads.HeadWords.{free_head-is, held_head-is}
use Rattle.paper.proofs.reads.HeaderReads.{end-near, free-near, free-read}
use Rattle.paper.proofs.reads.Readings.{next-reads}
use Rattle.paper.proofs.reads.Stands.{Stands}
use Rattle.paper.proofs.sheet.Stores.{puts}
use Rattle.paper.proofs.runs.Walk.{flag_past, free_sum-append, sized-eight}
use Rattle.paper.specs.Bins.{count, first, next_in}
use Rattle.paper.specs.Blocks.{State, block, blocks, free_sum, held, remainder}
use Rattle.paper.specs.Calls.{leaves}
use Rattle.paper.specs.Governed.{head_word, sheet}
use Rattle.paper.specs.Granting.{E, R, Result, cut_high, take_first}
use Rattle.paper.specs.Layout.{end_at, free_word_at, small_bins, small_next_at}
use Rattle.paper.specs.Sheet.{write}
use Rattle.words.specs.Choice.{if=-yes}
use Rattle.words.specs.Sums.{minus}
use Rattle.words.specs.Words.{word_at}

module _ (s : State) (bs : List ℕ) (S : Stands s bs) (b : ℕ) (least : 8 ≤ b) (small : b ≤ 64) (eights : b % 8 ≡ 0) where
  -- ---- the first of its bin
  module _ (q : ℕ) (l : List ℕ) (is-in : s.bins b ≡ q ∷ l) where
    next_word : word_at 4 bs (q + small_next_at) ≡ first l
    unfolding next_in
    next_word =
        let m = next-reads bs s S.well_formed (sym S.ends) S.holds b q (omega (arith, ap (count q) is-in, count-here q l)) in
        let e : some (first l) ≡ some m.0 = sym (ap (λ (k : List ℕ). next_in k q) is-in ∙ if=-yes q q _ _ refl) ∙ m.1 in
        let v : first l ≡ m.0 = cc in
        m.4 (omega arith) ∙ sym v

    pop-bytes : spent (puts ((small_bins + b, word_at 4 bs (q + small_next_at)) ∷ (q, held_head b) ∷ []) bs) b
        ≡ write (sheet (after-pop s S.well_formed b small least eights q l is-in)) bs
    unfolding pop-puts
    pop-bytes =
        (λ i. spent (puts ((small_bins + b, next_word i) ∷ (q, held_head-is b (omega arith) i) ∷ []) bs) b)
        ∙ spent-stores ((small_bins + b, first l) ∷ (q, head_word b held 1) ∷ []) bs b (free_sum (blocks s) - 4)
        (omega arith, (omega (arith, pop-place s S.well_formed b small least eights q l is-in), tt)) (free-read s bs S)
        (omega (arith, free-near s bs S)) (omega (arith, pop-room s S.well_formed b small least eights q l is-in))
        ∙ pop-written s S.well_formed b small least eights q l is-in bs (sym S.ends) S.holds

    pub take_first-bytes : take_first-model bs q b ≡ leaves (take_first s b) bs
    unfolding take_first-model
    take_first-bytes =
        granted-leaves _ q b (after-pop s S.well_formed b small least eights q l is-in) bs
        (omega (arith, pop-place s S.well_formed b small least eights q l is-in, S.well_formed.fits)) pop-bytes
        ∙ ap (λ (r : Result). leaves r bs) (sym (take_first-is s S.well_formed b small least eights q l is-in))

  -- ---- the remainder's high end
  module _ (room : b + 8 ≤ s.rest) where
    place : minus (E s) b ≡ E s - b
    place = omega (arith, end-near s bs S)

    rest-head : free_head (minus s.rest b) ≡ head_word (s.rest - b) remainder (flag_past 1 s.low)
    rest-head =
        let e : minus s.rest b ≡ s.rest - b = omega (arith, end-near s bs S) in
        ap free_head e ∙ free_head-is (s.rest - b) (omega (arith, end-near s bs S))
        ∙ ap (head_word (s.rest - b) remainder) (sym (low-flag s.low S.well_formed.low_ok))

    same_place : E s - b ≡ R s + (s.rest - b)
    same_place = omega arith

    abbrev cut-rest : List (ℕ × ℕ)
    cut-rest =
        (end_at, E s - b) ∷ (R s, head_word (s.rest - b) remainder (flag_past 1 s.low)) ∷ (R s + (s.rest - b), head_word b held 1) ∷ []

    cut-bytes : spent (puts ((end_at, E s - b) ∷ (R s, free_head (minus s.rest b)) ∷ (E s - b, held_head b) ∷ []) bs) b ≡ write (sheet (cut s b least room)) bs
    unfolding cut-puts
    cut-bytes =
        let al : R s % 8 ≡ 0 = omega (arith, sized-eight s.low (sized-low s S.well_formed)) in
        let r = sized-rest s S.well_formed in
        let f : free_sum (blocks s) - 4 - b ≡ free_sum (blocks s) - b - 4 = omega arith in
        (λ i. spent (puts ((end_at, E s - b) ∷ (R s, rest-head i) ∷ (same_place i, held_head-is b (omega arith) i) ∷ []) bs) b)
        ∙ spent-stores cut-rest bs b (free_sum (blocks s) - 4) (omega arith, (omega arith, (omega arith, tt))) (free-read s bs S)
        (omega (arith, free-near s bs S)) (omega (arith, free_sum-append s.low (block s.rest remainder ∷ s.high)))
        ∙ ap (λ (k : ℕ). puts ((free_word_at, k) ∷ cut-rest) bs) f
        ∙ take-cut s b least room (omega arith) (omega arith) (omega arith) bs (sym S.ends) S.holds

    pub cut_high-bytes : cut_high-model bs (rest_is s) b ≡ leaves (cut_high s b) bs
    unfolding cut_high-model cut_high
    cut_high-bytes =
        (λ i. granted-model (puts ((end_at, place i) ∷ (R s, free_head (minus s.rest b)) ∷ (place i, held_head b) ∷ []) bs) (place i) b)
        ∙ granted-leaves _ (E s - b) b (cut s b least room) bs (omega (arith, end-near s bs S)) cut-bytes
