-- convert::other_top meets its contract, by its test.
use mathlib.Core.Path.{sym, ap}
use Rattle.words.specs.Choice.{if=, if=-yes, if=-no}
use Rattle.paper.specs.Fresh.{layout_top}
use Rattle.convert.specs.Converting.{other}
use Rattle.convert.proofs.other_top.Goals as goal

pub returns-then-old-eq1 : goal.returns-then-old-eq1
unfolding other layout_top if=
returns-then-old-eq1 c = ap layout_top (sym (if=-yes c.args.old 1 2 1 c.if-old-eq1.true))

pub returns : goal.returns
unfolding other layout_top if=
returns c = ap layout_top (sym (if=-no c.args.old 1 2 1 c.if-old-eq1.false))
