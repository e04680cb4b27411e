-- One call undone: a state before, from which the call gives this state, and which governs no word that this state does not. The weight of
-- a state, 2 for each free block and 1 for each held one, is 1 less before: undoing comes to an end.
use mathlib.Core.Path.{◌≡◌}
use Prim.Native.Nat.{◌<◌, ◌^◌, suc, ℕ}
use Rattle.paper.proofs.keeps.Kept.{Kept}
use Rattle.paper.proofs.sheet.Within.{Within}
use Rattle.paper.specs.Blocks.{Block, State, block, blocks, free, held, remainder}
use Rattle.paper.specs.GivingBack.{give_back}
use Rattle.paper.specs.Governed.{sheet}
use Rattle.paper.specs.Granting.{take}
use Rattle.paper.specs.Honest.{Call, gives, number_of, takes}
use Rattle.paper.specs.Runs.{sum_of}

abbrev pub weight_of : Block → ℕ
weight_of (block z held) = 1
weight_of (block z free) = 2
weight_of (block z remainder) = 0

abbrev pub weight : State → ℕ
weight s = sum_of weight_of (blocks s)

-- the state after a call
abbrev pub state_after : State → Call → State
state_after s (takes size) = (take s size).state
state_after s (gives offset) = (give_back s offset).state

pub record Undone (s : State) : Type 0 where
  pub before : State
  pub kept : Kept s before
  pub call : Call
  pub number_fits : number_of call < 2 ^ 32
  pub leads-back : state_after before call ≡ s
  pub within : Within (sheet before) (sheet s)
  pub lighter : suc (weight before) ≡ weight s
