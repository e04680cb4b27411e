-- Taking serves: by the bytes of the grant, and by what every take keeps.
use mathlib.Core.List.{List}
use Prim.Native.Nat.{ℕ}
use Rattle.grant.proofs.TakeBytes.{take-bytes}
use Rattle.paper.proofs.keeps.TakeKeeps.{take-keeps}
use Rattle.paper.proofs.reads.Stands.{Stands}
use Rattle.paper.specs.Blocks.{State}
use Rattle.paper.specs.Granting as paper
use Rattle.serving.specs.Models as model
use Rattle.serving.proofs.Serves.{Serves, kept-serves}

pub take-serves : (s : State) (bs : List ℕ) → Stands s bs → (size : ℕ) → Serves (model.take bs size) (paper.take s size) bs
take-serves s bs S size = kept-serves s bs S (paper.take s size) (take-keeps s S.well_formed size) (take-bytes s bs S size)
