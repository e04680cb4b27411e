-- "A bring-in call accepts a pool sound under the old rule, does these returns and answers the number of blocks returned" (request 2026-06).
-- "Refusals: bring-in gives 1, then 2 by the old rule."
use Rattle.std.specs.Prelude.{List, ℕ}
use Rattle.paper.specs.Calls.{Reading, by_reading, unchanged}
use Rattle.paper.specs.GoingHome.{free_first, go_home}
use Rattle.paper.specs.Governed.{sheet}
use Rattle.paper.specs.Sheet.{write}
use Rattle.reading.specs.Read.{old_read}
use Rattle.std.specs.declared.result.Result.TheVariants.{Ok}
use Rattle.paper.specs.Answers.{out, Out}

-- of a pool that reads so by the old rule
abbrev pub bring_in_call : Reading → List ℕ → Out
bring_in_call r bs = by_reading r (unchanged bs) (λ s. out (Ok (free_first s.high)) (write (sheet (go_home s)) bs))

unfoldable pub bring_in : List ℕ → Out
bring_in bs = bring_in_call (old_read bs) bs
