-- Asking about a list of offsets serves: one walk says of each what asking about it alone says.
use mathlib.Core.List.{List}
use mathlib.Core.Path.{◌≡◌}
use Prim.Native.Nat.{ℕ}
use Rattle.asking.proofs.AllHeldRead.{all-held-read}
use Rattle.asking.proofs.UsedUp.{Offsets}
use Rattle.paper.proofs.reads.Stands.{Stands}
use Rattle.paper.specs.AskingAll.{all_held}
use Rattle.paper.specs.Blocks.{State}
use Rattle.serving.specs.Models as model

pub all-held-serves : (s : State) (bs : List ℕ) → Stands s bs → (offsets : List ℕ) → Offsets offsets → model.all_held bs offsets ≡ all_held s offsets
all-held-serves s bs S offsets w = all-held-read s bs S offsets w
