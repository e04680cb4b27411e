-- "The greatest payload size that take would grant at this moment, 0 if there is none" (request 2026-01): take itself is asked.
use Rattle.std.specs.Prelude.{ℕ, zero, suc}
use Rattle.paper.specs.Blocks.{State}
use Rattle.paper.specs.Granting.{take}
use Rattle.std.specs.declared.result.Result.TheVariants.{Ok, Err}
use Rattle.paper.specs.Answers.{Answer}

-- x for a grant, y for a refusal
abbrev pub if_granted : Answer → ℕ → ℕ → ℕ
if_granted (Ok offset) x y = x
if_granted (Err k) x y = y

-- of the sizes from 1 to m the greatest that is granted, 0 if none is
unfoldable pub greatest_grant : State → ℕ → ℕ
greatest_grant s zero = 0
greatest_grant s (suc m) = if_granted (take s (suc m)).answer (suc m) (greatest_grant s m)

-- and of all sizes that a call can name, which are the numbers of 32 bits
unfoldable pub largest_grant : State → ℕ
largest_grant s = greatest_grant s 4294967295
