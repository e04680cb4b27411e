-- bank::set meets its contract: refused by what is asked first, by the kind and the body, or by take; or the record is stored.
use Rattle.bank.proofs.AskedOnce.{asked-passes, asked-refuses}
use Rattle.bank.proofs.Outcomes.{record-put, set-done, set-fits, set-no-record, set-no-room, set-refused, set-short}
use Rattle.bank.proofs.RecordLaws.{is-one, record-short}
use Rattle.bank.proofs.Refusals.{nothing-refuses}
use Rattle.bank.specs.Calls.{refused}
use Rattle.words.specs.Words.{Bytes}
use Rattle.std.specs.declared.result.Result.TheVariants.{Err}
use borrow.Author.Rules.{rules}
use mathlib.Core.Path.{◌≡◌, ap, sym, ◌∙◌}
use native.Mathlib.Omega.{arith}
use Rattle.bank.proofs.set.Goals as goal

pub returns-in_err-asked : goal.returns-in_err-asked
returns-in_err-asked c =
    let e : c.from_residual.result ≡ Err c.in_err-asked.field-0.0 = search rules in
    rw e (set-refused _ _ _ _ _ _ (asked-refuses _ _ _ c.asked.ensures _ c.in_err-asked.was))

pub returns-in_err-check : goal.returns-in_err-check
returns-in_err-check c =
    let e : c.from_residual-in_err-check.result ≡ Err c.in_err-check.field-0.0 = search rules in
    rw e (set-no-record _ _ _ _ _ (asked-passes _ _ _ c.asked.ensures c.in_ok-asked.was) _ (sym c.check.ensures ∙ ap refused c.in_err-check.was))

pub overflow_cast-size : goal.overflow_cast-size
overflow_cast-size c = omega (arith, record-short _ _ (is-one _ _ (sym c.check.ensures ∙ ap refused c.in_ok-check.was)))

pub returns-in_err-offset : goal.returns-in_err-offset
returns-in_err-offset c =
    let z = asked-passes _ _ _ c.asked.ensures c.in_ok-asked.was in
    let is = sym c.check.ensures ∙ ap refused c.in_ok-check.was in
    let e : c.from_residual-in_err-offset.result ≡ Err c.in_err-offset.field-0.0 = search rules in
    rw e (set-no-room _ _ _ _ _ z is _ _ c.take.ensures _ c.in_err-offset.was)

pub slice_bounds-write-end : goal.slice_bounds-write-end
slice_bounds-write-end c =
    let z = asked-passes _ _ _ c.asked.ensures c.in_ok-asked.was in
    let is = sym c.check.ensures ∙ ap refused c.in_ok-check.was in
    let bytes : Bytes c.args.pool.now = λ i. search rules in
    omega (arith, set-fits _ _ _ _ _ z is _ _ c.take.ensures _ c.in_ok-offset.was bytes)

pub bounds-bank-at : goal.bounds-bank-at
bounds-bank-at c = (nothing-refuses _ _ _ (asked-passes _ _ _ c.asked.ensures c.in_ok-asked.was)).below

pub bounds-bank-at-2 : goal.bounds-bank-at-2
bounds-bank-at-2 c = (nothing-refuses _ _ _ (asked-passes _ _ _ c.asked.ensures c.in_ok-asked.was)).below

pub overflow_cast-result : goal.overflow_cast-result
overflow_cast-result c =
    let z = asked-passes _ _ _ c.asked.ensures c.in_ok-asked.was in
    let is = sym c.check.ensures ∙ ap refused c.in_ok-check.was in
    let bytes : Bytes c.args.pool.now = λ i. search rules in
    let put = record-put _ _ _ _ _ (set-fits _ _ _ _ _ z is _ _ c.take.ensures _ c.in_ok-offset.was bytes) c.write.ensures in
    omega (arith, set-short _ _ _ _ _ z is _ _ c.take.ensures _ c.in_ok-offset.was bytes _ put _ c.release.ensures)

pub returns : goal.returns
returns c =
    let z = asked-passes _ _ _ c.asked.ensures c.in_ok-asked.was in
    let is = sym c.check.ensures ∙ ap refused c.in_ok-check.was in
    let bytes : Bytes c.args.pool.now = λ i. search rules in
    let put = record-put _ _ _ _ _ (set-fits _ _ _ _ _ z is _ _ c.take.ensures _ c.in_ok-offset.was bytes) c.write.ensures in
    set-done _ _ _ _ _ z is _ _ c.take.ensures _ c.in_ok-offset.was bytes _ put _ c.release.ensures
