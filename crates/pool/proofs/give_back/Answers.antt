-- pool::give_back meets its contract: refused by the reading, or served.
use borrow.Author.Rules.{rules}
use Rattle.pool.specs.Calls as call
use Rattle.reading.proofs.Asked.{refused, served}
use Rattle.serving.proofs.BackServes.{give-back-serves}
use Rattle.std.specs.declared.result.Result.TheVariants.{Err}
use mathlib.Core.Path.{◌≡◌, sym, ◌∙◌}
use Rattle.pool.proofs.give_back.Goals as goal

pub returns-in_err-check : goal.returns-in_err-check
unfolding call.give_back
returns-in_err-check c =
    let e : c.from_residual.result ≡ Err c.in_err-check.field-0.0 = search rules in
    rw e (refused _ c.check.ensures _ _ c.in_err-check.was)

pub returns : goal.returns
unfolding call.give_back
returns c =
    served _ c.check.ensures _ _ c.in_ok-check.was
    (λ s S B. sym (give-back-serves s _ S B _).by-paper ∙ c.give_back.ensures)
