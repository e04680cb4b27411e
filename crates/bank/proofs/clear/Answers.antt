-- bank::clear meets its contract: refused by what is asked first, or the old block is given back.
use Rattle.bank.proofs.AskedOnce.{asked-passes, asked-refuses}
use Rattle.bank.proofs.Outcomes.{clear-done, clear-refused, clear-short}
use Rattle.bank.proofs.Refusals.{nothing-refuses}
use Rattle.std.specs.declared.result.Result.TheVariants.{Err}
use borrow.Author.Rules.{rules}
use mathlib.Core.Path.{◌≡◌}
use native.Mathlib.Omega.{arith}
use Rattle.bank.proofs.clear.Goals as goal

pub returns-in_err-asked : goal.returns-in_err-asked
returns-in_err-asked c =
    let e : c.from_residual.result ≡ Err c.in_err-asked.field-0.0 = search rules in
    rw e (clear-refused _ _ _ _ (asked-refuses _ _ _ c.asked.ensures _ c.in_err-asked.was))

pub bounds-bank-at : goal.bounds-bank-at
bounds-bank-at c = (nothing-refuses _ _ _ (asked-passes _ _ _ c.asked.ensures c.in_ok-asked.was)).below

pub bounds-bank-at-2 : goal.bounds-bank-at-2
bounds-bank-at-2 c = (nothing-refuses _ _ _ (asked-passes _ _ _ c.asked.ensures c.in_ok-asked.was)).below

pub overflow_cast-result : goal.overflow_cast-result
overflow_cast-result c =
    omega (
      arith,
      clear-short _ _ _ (asked-passes _ _ _ c.asked.ensures c.in_ok-asked.was) _ c.release.ensures (λ i. search rules),
    )

pub returns : goal.returns
returns c = clear-done _ _ _ (asked-passes _ _ _ c.asked.ensures c.in_ok-asked.was) _ c.release.ensures
