-- What a call keeps makes its new bytes a pool: the state after, written over a pool that stands for the state before, stands.
use mathlib.Core.List.{List}
use mathlib.Core.Path.{◌∙◌}
use Prim.Native.Nat.{ℕ}
use Rattle.paper.proofs.keeps.Kept.{Kept}
use Rattle.paper.proofs.reads.RoundTrip.{write-stands}
use Rattle.paper.proofs.reads.Stands.{Stands}
use Rattle.paper.specs.Blocks.{State}
use Rattle.paper.specs.Governed.{sheet}
use Rattle.paper.specs.Sheet.{write}

pub kept-stands : (s s' : State) (bs : List ℕ) → Stands s bs → Kept s s' → Stands s' (write (sheet s') bs)
kept-stands s s' bs S k = write-stands s' k.well_formed (k.edge S.edge) bs (k.ends ∙ S.ends)
