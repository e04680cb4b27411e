-- Taking on bytes is the paper's, for every payload: what is chosen is what the paper chooses, and carrying it out is the paper's.
use mathlib.Core.List.{List}
use mathlib.Core.Path.{◌∙◌, ◌≡◌, ap}
use Prim.Native.Nat.{ℕ}
use Rattle.grant.proofs.CarryBytes.{carry_out-bytes}
use Rattle.choosing.proofs.ChoiceRead.{choose-reads}
use Rattle.choosing.specs.Choosing.{choose as choose-model}
use Rattle.grant.specs.Take.{take as take-model}
use Rattle.paper.proofs.reads.Stands.{Stands}
use Rattle.paper.specs.Blocks.{State}
use Rattle.paper.specs.Calls.{leaves}
use Rattle.paper.specs.Granting.{Choice, carry_out, take}

pub take-bytes : (s : State) (bs : List ℕ) → Stands s bs → (payload : ℕ) → take-model bs payload ≡ leaves (take s payload) bs
unfolding take-model take
take-bytes s bs S payload =
    let r = choose-reads s bs S payload in
    carry_out-bytes s bs S (choose-model bs payload) r.carries ∙ ap (λ (c : Choice). leaves (carry_out s c) bs) r.says
