-- The promise of the inspection: its answer is the model's, and it says exactly whether the pool is sound by the old rule.
use Rattle.std.specs.Prelude.{◌≡◌, Bool, true, List, ℕ}
use Rattle.paper.specs.Sound.{OldSound}
use Rattle.inspect.specs.Inspection.{old_inspected}

pub record OldInspected (r : Bool) (bs : List ℕ) : Type 0 where
  pub same : r ≡ old_inspected bs
  pub only : r ≡ true → OldSound bs
  pub every : OldSound bs → r ≡ true
