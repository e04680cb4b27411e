-- bins::after meets its contract, by the test on the old first block.
use Rattle.bins.specs.Head.{after}
use Rattle.words.specs.Choice.{if=-yes, if=-no}
use mathlib.Core.Path.{sym, ◌∙◌}
use Rattle.bins.proofs.heading.after.Goals as goal

pub returns-then-old-eq0 : goal.returns-then-old-eq0
unfolding after
returns-then-old-eq0 c = c.linked.ensures ∙ sym (if=-yes _ _ _ _ c.if-old-eq0.true)

pub returns : goal.returns
unfolding after
returns c = c.linked-2.ensures ∙ sym (if=-no _ _ _ _ c.if-old-eq0.false)
