-- bank::records::check meets its contract, by what the kind is.
use Rattle.bank.proofs.RecordLaws.{is-unknown, other-length, same-length}
use mathlib.Core.Path.{sym, ◌∙◌}
use native.Mathlib.Omega.{arith}
use Rattle.bank.proofs.records.check.Goals as goal

pub returns-in_default : goal.returns-in_default
returns-in_default c = is-unknown _ _ c.try_from.ensures _ c.in_default.is

pub returns-then-body : goal.returns-then-body
returns-then-body c = other-length _ _ c.try_from.ensures _ c.in-Ok.is (λ e. c.if-body.true (e ∙ sym c.body.ensures))

pub returns : goal.returns
returns c = same-length _ _ c.try_from.ensures _ c.in-Ok.is (omega (arith, c.if-body.false, c.body.ensures))
