-- bank::ask meets its contract, by the place that was found.
use Rattle.bank.proofs.Finding.{found-short}
use native.Mathlib.Omega.{arith}
use Rattle.bank.proofs.recalling.ask.Goals as goal

pub overflow_cast-result : goal.overflow_cast-result
overflow_cast-result c = omega (arith, found-short _ _ _ _ c.find-place.ensures)
