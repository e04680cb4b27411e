-- convert::check meets its contract, by its tests in their order.
use mathlib.Core.Path.{sym, ◌∙◌}
use native.Mathlib.Omega.{arith}
use Rattle.paper.proofs.reads.Allowed.{allowed-inv}
use Rattle.convert.proofs.Outcomes.{not-refused, refused-layout, refused-length, refused-name, refused-reading}
use Rattle.convert.proofs.check.Goals as goal

pub returns-then-not-allowed : goal.returns-then-not-allowed
returns-then-not-allowed c = refused-length _ _ (λ i. omega (arith, c.type_inv.pool i)) (sym c.allowed.ensures ∙ c.if-not-allowed.true)

pub returns-in_default : goal.returns-in_default
returns-in_default c =
    refused-name _ _ (λ i. omega (arith, c.type_inv.pool i)) (allowed-inv _ (sym c.allowed.ensures ∙ c.if-not-allowed.false)) c.in_default.ensures.unnamed

pub returns-in-Err : goal.returns-in-Err
returns-in-Err c =
    let n = c.in-Some.ensures.named in
    refused-reading _ _ c.check.ensures (λ z. n.1 (n.0 ∙ z)) c.in-Err.is

pub returns-in-Ok : goal.returns-in-Ok
returns-in-Ok c =
    let n = c.in-Some.ensures.named in
    refused-layout _ _ c.check.ensures (λ z. n.1 (n.0 ∙ z)) c.in-Ok.is c.top.ensures (λ e. c.if-top-named.true (e ∙ sym n.0))

pub returns-in-Ok-2 : goal.returns-in-Ok-2
returns-in-Ok-2 c =
    let n = c.in-Some.ensures.named in
    not-refused _ _ c.check.ensures (λ z. n.1 (n.0 ∙ z)) c.in-Ok-2.is c.top.ensures (c.if-top-named.false ∙ n.0)
