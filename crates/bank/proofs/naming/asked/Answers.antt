-- bank::asked meets its contract, by what asking about the whole bank answers.
use Rattle.bank.proofs.AskedOnce.{asks-done, asks-past, asks-past-unnamed, asks-unnamed, asks-unread}
use Rattle.bank.specs.Asks.{Asks}
use Rattle.std.specs.declared.result.Result.TheVariants.{Err}
use borrow.Author.Rules.{rules}
use mathlib.Core.Path.{◌≡◌, ap, subst, sym, ◌∙◌}
use Rattle.bank.proofs.naming.asked.Goals as goal

pub returns-in_err-check-in-Ok : goal.returns-in_err-check-in-Ok
returns-in_err-check-in-Ok c =
    let e : c.from_residual.result ≡ Err c.in_err-check-in-Ok.field-0.0 = search rules in
    subst (Asks _ _ _) (sym e) (asks-past _ _ _ c.check.ensures _ (sym c.ask_all.ensures ∙ c.in-Ok.is) _ c.in_err-check-in-Ok.was)

pub returns-in_err-check-in-Err-NotHeld : goal.returns-in_err-check-in-Err-NotHeld
returns-in_err-check-in-Err-NotHeld c =
    let e : c.from_residual-in_err-check-in-Err-NotHeld.result ≡ Err c.in_err-check-in-Err-NotHeld.field-0.0 = search rules in
    let h = sym c.ask_all.ensures ∙ c.in-Err-NotHeld.is ∙ ap Err c.in-Err-NotHeld.field-0-is in
    subst (Asks _ _ _) (sym e) (asks-past-unnamed _ _ _ c.check-in-Err-NotHeld.ensures h _ c.in_err-check-in-Err-NotHeld.was)

pub returns-in_ok-check-in-Ok : goal.returns-in_ok-check-in-Ok
returns-in_ok-check-in-Ok c = asks-done _ _ _ c.check.ensures _ (sym c.ask_all.ensures ∙ c.in-Ok.is) _ c.in_ok-check-in-Ok.was

pub returns-in_ok-check-in-Err-NotHeld : goal.returns-in_ok-check-in-Err-NotHeld
returns-in_ok-check-in-Err-NotHeld c =
    let h = sym c.ask_all.ensures ∙ c.in-Err-NotHeld.is ∙ ap Err c.in-Err-NotHeld.field-0-is in
    asks-unnamed _ _ _ c.check-in-Err-NotHeld.ensures h _ c.in_ok-check-in-Err-NotHeld.was

pub returns-in-Err : goal.returns-in-Err
returns-in-Err c = asks-unread _ _ _ _ (sym c.ask_all.ensures ∙ c.in-Err.is) (λ e. search rules)
