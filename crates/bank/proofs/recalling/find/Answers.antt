-- bank::find meets its contract: refused by what is asked first, an empty piston, a payload that does not read, or the record.
use Rattle.bank.proofs.AskedOnce.{asked-passes, asked-payload, asked-refuses}
use Rattle.bank.proofs.Finding.{finds-empty, finds-record, finds-refused, finds-unread}
use Rattle.bank.proofs.Refusals.{nothing-refuses}
use Rattle.bank.specs.Records.{record_in}
use mathlib.Core.Path.{ap, sym, ◌∙◌}
use native.Mathlib.Omega.{arith}
use Rattle.bank.proofs.recalling.find.Goals as goal

pub returns-in-Err : goal.returns-in-Err
returns-in-Err c = finds-refused _ _ _ _ (asked-refuses _ _ _ c.asked.ensures _ c.in-Err.is) _ c.nothing.ensures

pub bounds-bank-at : goal.bounds-bank-at
bounds-bank-at c = (nothing-refuses _ _ _ (asked-passes _ _ _ c.asked.ensures c.in-Ok.is)).below

pub returns-then-offset-eq0 : goal.returns-then-offset-eq0
returns-then-offset-eq0 c =
    finds-empty _ _ _ (asked-passes _ _ _ c.asked.ensures c.in-Ok.is) c.if-offset-eq0.true _ c.nothing-then-offset-eq0.ensures

pub slice_bounds-record_in-end : goal.slice_bounds-record_in-end
slice_bounds-record_in-end c =
    let a = c.asked.ensures in
    omega (
      arith,
      (asked-payload _ _ _ a c.in-Ok.is c.if-offset-eq0.false (λ i. omega (arith, c.type_inv.pool i))).within,
    )

pub returns-in_default : goal.returns-in_default
returns-in_default c =
    let a = c.asked.ensures in
    let p = asked-payload _ _ _ a c.in-Ok.is c.if-offset-eq0.false (λ i. omega (arith, c.type_inv.pool i)) in
    finds-unread _ _ _ (asked-passes _ _ _ a c.in-Ok.is) c.if-offset-eq0.false
    (sym c.in_default.is ∙ c.record_in.ensures ∙ ap record_in p.is-part) _ c.nothing-in_default.ensures

pub returns : goal.returns
returns c =
    let a = c.asked.ensures in
    let p = asked-payload _ _ _ a c.in-Ok.is c.if-offset-eq0.false (λ i. omega (arith, c.type_inv.pool i)) in
    finds-record _ _ _ (asked-passes _ _ _ a c.in-Ok.is) c.if-offset-eq0.false _ (sym c.in-Some.is ∙ c.record_in.ensures ∙ ap record_in p.is-part)
    (λ i. omega (arith, c.type_inv.pool i))
