-- convert::convert meets its contract: refused, or moved.
use borrow.Author.Rules.{rules}
use mathlib.Core.Path.{◌≡◌}
use native.Mathlib.Omega.{arith}
use Rattle.std.specs.declared.result.Result.TheVariants.{Err}
use Rattle.convert.proofs.Outcomes.{done-with, refused-with, served-allowed}
use Rattle.convert.proofs.convert.Goals as goal

pub returns-in_err-check : goal.returns-in_err-check
returns-in_err-check c =
    let e : c.from_residual.result ≡ Err c.in_err-check.field-0.0 = search rules in
    rw e (refused-with _ _ c.check.ensures c.in_err-check.was)

pub overflow_cast-result : goal.overflow_cast-result
overflow_cast-result c = omega (arith, c.move_to.auto.pool, served-allowed _ _ c.check.ensures c.in_ok-check.was)

pub returns : goal.returns
returns c = done-with _ _ c.check.ensures c.in_ok-check.was c.other_top.ensures c.move_to.ensures c.move_to.auto.pool
