-- The first of the small blocks become the remainder's, by the law of segments: E and the remainder's head are stored, and elsewhere nothing is new.
use mathlib.Core.List.{List, [], ◌++◌, ◌∷◌}
use mathlib.Core.Logic.{◌≢◌, inl}
use mathlib.Core.Path.{◌≡◌, ap, refl, subst, sym}
use Prim.Native.Nat.{◌%◌, ◌+◌, ◌-◌, ◌/◌, ◌<◌, ℕ}
use native.Mathlib.Omega.{arith}
use Rattle.paper.proofs.runs.Flags.{high-flag}
use Rattle.paper.proofs.runs.LowHigh.{high_parts}
use Rattle.paper.proofs.runs.Walk.{flag_past, total-append}
use Rattle.paper.proofs.steps.Leave.{NothingNew}
use Rattle.paper.proofs.steps.Segment.{after_same, seg-frame}
use Rattle.paper.specs.Blocks.{Block, State, block, blocks, end, free_sum, remainder, total}
use Rattle.paper.specs.Governed.{block_word, header_word, sheet, walk}
use Rattle.paper.specs.Granting.{R}
use Rattle.paper.specs.Layout.{blocks_at, end_at, free_word_at}
use Rattle.paper.specs.Sound.{High}
use Rattle.words.specs.Choice.{by=, ifs}

module _ (s : State) (gone above : List Block) (is : s.high ≡ gone ++ above) (small : High s.high) where
  abbrev rest : ℕ
  rest = s.rest + total gone

  abbrev pub grown : State
  grown = record { top = s.top; low = s.low; rest = rest; high = above; bins = s.bins }

  old-blocks : blocks s ≡ s.low ++ ((block s.rest remainder ∷ gone) ++ above)
  old-blocks = ap (λ (xs : List Block). s.low ++ block s.rest remainder ∷ xs) is

  same_end : end grown ≡ end s
  same_end =
      omega (
        arith,
        ap total is,
        total-append gone above,
        total-append s.low (block s.rest remainder ∷ s.high),
        total-append s.low (block rest remainder ∷ above),
      )

  header-kept : (w : ℕ) → (w ≡ 0 → free_sum (blocks grown) ≡ free_sum (blocks s)) → w ≢ 3 → header_word grown w ≡ header_word s w
  unfolding header_word
  header-kept w f n3 =
      by= w 0 (λ e. simp ifs (ap (λ (k : ℕ). k - 4) (f e))) (λ n0. by= w 1 (λ e. simp ifs) (λ n1. by= w 2 (λ e. simp ifs) (λ n2. simp ifs)))

  pub edge-frame : (a : ℕ) → a % 4 ≡ 0 → a ≢ end_at → a ≢ R s → (a ≡ free_word_at → free_sum (blocks grown) ≡ free_sum (blocks s))
      → NothingNew (sheet grown a) (sheet s a)
  unfolding walk
  edge-frame a al n24 nR f =
      seg-frame s grown s.low (block s.rest remainder ∷ gone) (block rest remainder ∷ []) above a refl refl old-blocks refl same_end
      (omega arith)
      (λ l e. header-kept (a / 8) (λ k. f (omega arith)) (omega arith))
      (λ n l. after_same (block_word s.top n s.bins) above (blocks_at + total s.low + total (block s.rest remainder ∷ gone)) (flag_past 1 gone) 1 a (sym (high-flag gone (high_parts gone above (subst High is small)).0)))
      (λ n l m. let i : a < blocks_at + total s.low + rest = omega arith in
      let o : a - (blocks_at + total s.low) ≢ 0 = omega arith in
      inl (simp ifs))
