-- bins::take_out meets its contract, by the test on the second block.
use Rattle.bins.specs.Leave.{used_in, take_out}
use Rattle.words.specs.Choice.{if=-yes, if=-no}
use mathlib.Core.Path.{sym, ◌∙◌}
use Rattle.bins.proofs.leaving.take_out.Goals as goal

pub returns-then-second-eq0 : goal.returns-then-second-eq0
unfolding used_in take_out
returns-then-second-eq0 c =
    let l = c.linked-second.ensures in
    let e = sym l ∙ c.if-second-eq0.true in
    record { block = sym (if=-yes _ _ _ _ e); after = c.pass_over.ensures ∙ sym (if=-yes _ _ _ _ e) }

pub returns : goal.returns
unfolding used_in take_out
returns c =
    let l = c.linked-second.ensures in
    let n = c.if-second-eq0.false in
    record { block = rw (if=-no _ _ _ _ (λ e. n (l ∙ e))) (cc); after = rw (if=-no _ _ _ _ (λ e. n (l ∙ e))) (cc) }
