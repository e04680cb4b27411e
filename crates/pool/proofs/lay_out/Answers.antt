-- pool::lay_out meets its contract, by the length, then by the layout.
use Rattle.laying.proofs.LaidOut.{laid_out}
use Rattle.paper.proofs.reads.Allowed.{allowed-inv}
use Rattle.paper.specs.Calls.{laying_out, lay_out_call}
use Rattle.pool.specs.Calls as call
use Rattle.words.specs.Choice.{if=-no, if=-yes, when-yes, when-no}
use mathlib.Core.Path.{sym, ◌∙◌}
use native.Mathlib.Omega.{arith}
use Rattle.pool.proofs.lay_out.Goals as goal

pub returns-then-not-allowed : goal.returns-then-not-allowed
unfolding call.lay_out lay_out_call
returns-then-not-allowed c = rw (← c.allowed.ensures, when-no _ _ _ c.if-not-allowed.true) (cc)

pub returns-in_default : goal.returns-in_default
unfolding call.lay_out lay_out_call laying_out
returns-in_default c =
    rw (
      ← c.allowed.ensures,
      when-yes _ _ _ c.if-not-allowed.false,
      if=-yes _ _ _ _ c.in_default.ensures.unnamed,
    ) (cc)

pub overflow_cast-n : goal.overflow_cast-n
overflow_cast-n c = omega (arith, allowed-inv _ (sym c.allowed.ensures ∙ c.if-not-allowed.false))

pub overflow_cast-result : goal.overflow_cast-result
overflow_cast-result c = omega (arith, allowed-inv _ (sym c.allowed.ensures ∙ c.if-not-allowed.false))

pub returns : goal.returns
unfolding call.lay_out lay_out_call laying_out
returns c =
    let a = allowed-inv _ (sym c.allowed.ensures ∙ c.if-not-allowed.false) in
    rw (
      ← c.allowed.ensures,
      when-yes _ _ _ c.if-not-allowed.false,
      if=-no _ _ _ _ (λ e. c.in-Some.ensures.named.1 (c.in-Some.ensures.named.0 ∙ e)),
      ← c.in-Some.ensures.named.0,
      ← laid_out _ a _,
    ) (cc)
