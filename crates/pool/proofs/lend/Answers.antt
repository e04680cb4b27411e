-- pool::lend meets its contract: the range between the bounds is the part.
use mathlib.Core.Path.{refl}
use Rattle.pool.proofs.Lent.{lent-part}
use Rattle.pool.proofs.lend.Goals as goal

pub returns : goal.returns
returns c = lent-part _ _ _ _ c.bounds-part.ensures refl refl
