-- pool::take meets its contract: refused by the reading, or served.
use borrow.Author.Rules.{rules}
use Rattle.pool.specs.Calls as call
use Rattle.reading.proofs.Asked.{refused, served}
use Rattle.serving.proofs.TakeServes.{take-serves}
use Rattle.std.specs.declared.result.Result.TheVariants.{Err}
use mathlib.Core.Path.{◌≡◌, sym, ◌∙◌}
use Rattle.pool.proofs.take.Goals as goal

pub returns-in_err-check : goal.returns-in_err-check
unfolding call.take
returns-in_err-check c =
    let e : c.from_residual.result ≡ Err c.in_err-check.field-0.0 = search rules in
    rw e (refused _ c.check.ensures _ _ c.in_err-check.was)

pub returns : goal.returns
unfolding call.take
returns c =
    served _ c.check.ensures _ _ c.in_ok-check.was
    (λ s S B. sym (take-serves s _ S _).by-paper ∙ c.take.ensures)
