-- pool::figures meets its contract: refused by the reading, or served.
use borrow.Author.Rules.{rules}
use Rattle.pool.specs.Calls as call
use Rattle.reading.proofs.Asked.{refused, served}
use Rattle.serving.proofs.CountServes.{figures-serve}
use Rattle.std.specs.declared.result.Result.TheVariants.{Ok, Err}
use mathlib.Core.Path.{◌≡◌, ap, sym, ◌∙◌}
use Rattle.pool.proofs.figures.Goals as goal

pub returns-in_err-check : goal.returns-in_err-check
unfolding call.figures
returns-in_err-check c =
    let e : c.from_residual.result ≡ Err c.in_err-check.field-0.0 = search rules in
    rw e (sym (refused _ c.check.ensures _ _ c.in_err-check.was))

pub returns : goal.returns
unfolding call.figures
returns c =
    sym (served _ c.check.ensures _ _ c.in_ok-check.was
    (λ s S B. ap Ok (sym (c.tally.ensures ∙ figures-serve s _ S))))
