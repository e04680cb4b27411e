-- A pool of bytes that stands for a state: well formed, with an edge by a rule, as long as the state ends, and each governed byte has its value.
use mathlib.Core.Path.{◌≡◌}
use mathlib.Core.List.{List}
use Prim.Native.Nat.{ℕ}
use lib.ListN.{length}
use Rattle.paper.specs.Blocks.{State, end}
use Rattle.paper.specs.Sheet.{Holds}
use Rattle.paper.specs.Governed.{sheet}
use Rattle.paper.specs.Sound.{Edge, OldEdge, WellFormed}

pub record StandsBy (Rule : State → Type 0) (s : State) (bs : List ℕ) : Type 0 where
  pub well_formed : WellFormed s
  pub edge : Rule s
  pub ends : end s ≡ length bs
  pub holds : Holds (sheet s) bs

abbrev pub Stands : State → List ℕ → Type 0
Stands s bs = StandsBy Edge s bs

-- by the old rule
abbrev pub OldStands : State → List ℕ → Type 0
OldStands s bs = StandsBy OldEdge s bs
