-- Asking about a list of offsets at once, as a bank of pistons does: it may not name "an offset not held, or one offset twice" (request 2026-03).
-- 0 is no offset, and names nothing.
use Rattle.std.specs.Prelude.{Bool, true, false, List, [], ◌∷◌, ℕ}
use Rattle.words.specs.Choice.{if=, when}
use Rattle.paper.specs.Bins.{count}
use Rattle.paper.specs.Blocks.{State}
use Rattle.paper.specs.GivingBack.{ask}
use Rattle.std.specs.declared.result.Result.TheVariants.{Ok, Err}
use Rattle.paper.specs.Answers.{Answer}

abbrev pub is_done : Answer → Bool
is_done (Ok v) = true
is_done (Err k) = false

-- each number of the list but 0 is one that h has, and stands in the list once
module _ (h : ℕ → Bool) where
  unfoldable pub each_once : List ℕ → Bool
  each_once [] = true
  each_once (o ∷ os) = if= o 0 (each_once os) (if= (count o os) 0 (when (h o) (each_once os) false) false)

-- what is told of the one that is meant: of 0 nothing
unfoldable pub ask_one : State → ℕ → Answer
ask_one s o = if= o 0 (Ok 0) (ask s o)

-- each is the offset of a held payload
unfoldable pub all_held : State → List ℕ → Bool
all_held s offsets = each_once (λ o. is_done (ask s o)) offsets
