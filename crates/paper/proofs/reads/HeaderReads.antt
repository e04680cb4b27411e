-- What is read in the header of a pool that stands for a state: R, E, the free word and the small bins.
use mathlib.Core.List.{List, ◌∷◌}
use mathlib.Core.Path.{◌∙◌, ◌≡◌, ap, sym}
use Prim.Native.Nat.{◌%◌, ◌+◌, ◌-◌, ◌≤◌, ℕ}
use native.Mathlib.Nat.{add_comm}
use native.Mathlib.Omega.{arith}
use Rattle.paper.proofs.reads.Readings.{low_reads, rest-reads, small-reads}
use Rattle.paper.proofs.reads.Stands.{StandsBy}
use Rattle.paper.proofs.runs.Walk.{free_sum-le, total-append}
use Rattle.paper.proofs.sheet.FreeWordLast.{free-word-reads}
use Rattle.paper.specs.Bins.{first}
use Rattle.paper.specs.Blocks.{State, block, blocks, free_sum, remainder}
use Rattle.paper.specs.Granting.{E, R}
use Rattle.paper.specs.Layout.{end_at, free_word_at, small_bins, start_at}
use Rattle.words.specs.Words.{word_at}

module _ {Rule : State → Type 0} (s : State) (bs : List ℕ) (S : StandsBy Rule s bs) where
  -- no place of the pool is past 65,536
  pub end-near : E s ≤ 65536
  end-near = omega (arith, S.well_formed.fits, total-append s.low (block s.rest remainder ∷ s.high))

  pub start-read : word_at 4 bs start_at ≡ R s
  start-read = low_reads bs s S.well_formed (sym S.ends) S.holds

  pub end_read : word_at 4 bs end_at ≡ E s
  end_read = rest-reads bs s S.well_formed (sym S.ends) S.holds

  pub free-near : free_sum (blocks s) ≤ 65536
  free-near = omega (arith, S.well_formed.fits, free_sum-le (blocks s))

  pub free-read : word_at 4 bs free_word_at ≡ free_sum (blocks s) - 4
  free-read = free-word-reads bs s S.well_formed.fits (sym S.ends) S.holds

  pub bin-read : (b : ℕ) → 8 ≤ b → b ≤ 64 → b % 8 ≡ 0 → word_at 4 bs (small_bins + b) ≡ first (s.bins b)
  bin-read b least small eights =
      ap (word_at 4 bs) (add_comm small_bins b) ∙ small-reads bs s S.well_formed (sym S.ends) S.holds b least small eights
