-- pool::lend_mut meets its contract: the range between the bounds is the part.
use mathlib.Core.Path.{refl}
use Rattle.pool.proofs.Lent.{lent-mut-part}
use Rattle.pool.proofs.lend_mut.Goals as goal

pub returns : goal.returns
returns c = lent-mut-part _ _ _ _ c.bounds-part.ensures refl refl
