-- pool::inspect meets its contract: refused by the reading, or its length.
use borrow.Author.Rules.{rules}
use Rattle.pool.specs.Calls as call
use Rattle.reading.proofs.Asked.{refused, served, served-allowed}
use Rattle.std.specs.declared.result.Result.TheVariants.{Err}
use mathlib.Core.Path.{◌≡◌, refl, sym}
use native.Mathlib.Omega.{arith}
use Rattle.pool.proofs.inspect.Goals as goal

pub returns-in_err-check : goal.returns-in_err-check
unfolding call.inspect
returns-in_err-check c =
    let e : c.from_residual.result ≡ Err c.in_err-check.field-0.0 = search rules in
    rw e (sym (refused _ c.check.ensures _ _ c.in_err-check.was))

pub overflow_cast-result : goal.overflow_cast-result
overflow_cast-result c = omega (arith, served-allowed _ c.check.ensures c.in_ok-check.was)

pub returns : goal.returns
unfolding call.inspect
returns c = sym (served _ c.check.ensures _ _ c.in_ok-check.was (λ s S B. refl))
