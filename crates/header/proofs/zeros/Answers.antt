-- `zeros`: the words so far together, and what is left, decide.
use Rattle.header.proofs.Laws.{clearing, is-cleared, clears}
use Rattle.header.proofs.zeros.Goals as goal

pub loop-i-init : goal.loop-i-init
loop-i-init c = clearing _ _ _ _

pub loop-i-preserved : goal.loop-i-preserved
loop-i-preserved c = clears c.loop-i.invariant c.loop-i-test.true c.get-all.ensures

pub returns : goal.returns
returns c = is-cleared c.loop-i.invariant c.loop-i-test.false
