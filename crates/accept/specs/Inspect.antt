-- The inspection as the code does it: header, remainder and false block, one pass over the blocks, one along the lists. Over any set of marks.
use Rattle.std.specs.Prelude.{Bool, false, List, [], ◌∷◌, ℕ, ◌+◌, ◌-◌, length}
use Rattle.words.specs.Words.{word_at}
use Rattle.paper.specs.Layout.{free_word_at}
use Rattle.paper.specs.Allowed.{allowed}
use Rattle.guards.specs.Tests.{Test, same, holds, guard}
use Rattle.marks.specs.MarkSets.{MarkSet}
use Rattle.header.specs.Header.{R, E, rest_tests, false_tests}
use Rattle.runs.specs.Runs.{Scanned, if_seen, scanned_between}
use Rattle.lists.specs.Lists.{lists}

abbrev pub size_tests : List ℕ → List Test
size_tests bs = holds (allowed (length bs)) ∷ []

module _ {M : Type 0} (O : MarkSet M) (bs : List ℕ) where
  unfoldable pub scanned : Scanned M
  scanned = scanned_between O bs (R bs) (E bs) (length bs) O.empty

  unfoldable pub inspect : Bool
  inspect =
      guard (size_tests bs) false (guard (rest_tests bs) false (guard (false_tests bs) false
      (if_seen scanned false (λ n ms sum. guard (same (word_at 4 bs free_word_at) (sum + (E bs - R bs) - 4) ∷ []) false (lists O bs n ms)))))
