-- The remainder of a pool that stands for a state, as the header gives it.
use mathlib.Core.List.{List}
use mathlib.Core.Path.{◌≡◌}
use native.Mathlib.Omega.{arith}
use Prim.Native.Nat.{ℕ}
use Rattle.choosing.specs.Remainder.{remainder}
use Rattle.choosing.specs.declared.remainder.Rest.{Rest}
use Rattle.paper.proofs.reads.HeaderReads.{end-near, end_read, start-read}
use Rattle.paper.proofs.reads.Stands.{Stands}
use Rattle.paper.specs.Blocks.{State}
use Rattle.paper.specs.Granting.{E, R}
use Rattle.paper.specs.Layout.{end_at, start_at}
use Rattle.words.specs.Sums.{minus}
use Rattle.words.specs.Words.{word_at}

abbrev pub rest_is : State → Rest
rest_is s = record { start = R s; end = E s; size = s.rest }

pub rest_read : (s : State) (bs : List ℕ) → Stands s bs → remainder bs ≡ rest_is s
unfolding remainder
rest_read s bs S =
    let d : minus (word_at 4 bs end_at) (word_at 4 bs start_at) ≡ s.rest = omega (arith, start-read s bs S, end_read s bs S, end-near s bs S) in
    λ i. record { start = start-read s bs S i; end = end_read s bs S i; size = d i }
