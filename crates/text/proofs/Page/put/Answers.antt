-- text::Page::put meets its contract: each turn puts one byte more.
use Rattle.text.proofs.Putting.{puts-none, puts-more}
use Rattle.text.proofs.Page.put.Goals as goal

pub loop-i-init : goal.loop-i-init
loop-i-init c = puts-none _

pub loop-i-preserved : goal.loop-i-preserved
loop-i-preserved c = puts-more _ c.loop-i.i c.loop-i-test.true c.loop-i.invariant c.put_one.ensures
