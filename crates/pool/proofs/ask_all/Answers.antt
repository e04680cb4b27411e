-- pool::ask_all meets its contract: refused by the reading or by the list, or served by asking about one. `known` is the place where each offset is
-- known to be one of 32 bits.
use Rattle.paper.specs.AskingAll.{ask_one}
use Rattle.paper.specs.GivingBack as paper
use borrow.Author.Rules.{rules}
use Rattle.pool.specs.Calls as call
use Rattle.reading.proofs.Asked.{refused, served}
use Rattle.serving.proofs.AskAllServes.{all-held-serves}
use Rattle.serving.proofs.AskServes.{ask-serves}
use Rattle.words.specs.Choice.{if=-no, if=-yes, when-no, when-yes}
use Rattle.std.specs.declared.result.Result.TheVariants.{Err}
use mathlib.Core.Path.{◌≡◌, ap, sym, ◌∙◌}
use native.Mathlib.Omega.{arith}
use Rattle.pool.proofs.ask_all.Goals as goal

pub returns-in_err-check : goal.returns-in_err-check
unfolding call.ask_all
returns-in_err-check c =
    let e : c.from_residual.result ≡ Err c.in_err-check.field-0.0 = search rules in
    rw e (sym (refused _ c.check.ensures _ _ c.in_err-check.was))

pub returns-then-not-all_held : goal.returns-then-not-all_held
unfolding call.ask_all
returns-then-not-all_held c =
    sym (served _ c.check.ensures _ _ c.in_ok-check.was
    (λ s S B. when-no _ _ _
    (sym (c.all_held.ensures
    ∙ all-held-serves s _ S c.args.offsets.now (λ i. omega (arith, c.shared_slice_known-2-1.given i)))
    ∙ c.if-not-all_held.true)))

pub returns-then-offset-eq0 : goal.returns-then-offset-eq0
unfolding call.ask_all ask_one
returns-then-offset-eq0 c =
    sym (served _ c.check.ensures _ _ c.in_ok-check.was
    (λ s S B. when-yes _ _ _
    (sym (c.all_held.ensures
    ∙ all-held-serves s _ S c.args.offsets.now (λ i. omega (arith, c.shared_slice_known-2-1.given i)))
    ∙ c.if-not-all_held.false)
    ∙ if=-yes _ 0 _ _ (sym c.number_at-offset.ensures ∙ c.if-offset-eq0.true)))

pub returns : goal.returns
unfolding call.ask_all ask_one
returns c =
    sym (served _ c.check.ensures _ _ c.in_ok-check.was
    (λ s S B. when-yes _ _ _
    (sym (c.all_held.ensures
    ∙ all-held-serves s _ S c.args.offsets.now (λ i. omega (arith, c.shared_slice_known-2-1.given i)))
    ∙ c.if-not-all_held.false)
    ∙ if=-no _ 0 _ _ (λ z. c.if-offset-eq0.false (c.number_at-offset.ensures ∙ z))
    ∙ ap (paper.ask s) (sym c.number_at-offset.ensures)
    ∙ sym (c.ask.ensures ∙ ask-serves s _ S _)))
