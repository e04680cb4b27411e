-- `sound_by_old_rule` answers as `inspect` does, and that is exactly whether the pool is sound by the old rule.
use native.Mathlib.Omega.{arith}
use Rattle.inspect.proofs.Decide.{old-inspection}
use Rattle.inspect.proofs.sound_by_old_rule.Goals as goal

pub returns : goal.returns
returns c = old-inspection _ _ (λ i l. omega (arith, c.type_inv.pool i)) c.inspect.ensures
