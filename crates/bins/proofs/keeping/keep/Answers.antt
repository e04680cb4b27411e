-- bins::keep meets its contract: the words are kept from the front.
use Rattle.bins.proofs.KeptWords.{one_kept, all-kept}
use Rattle.bins.proofs.keeping.keep.Goals as goal

pub loop-word-preserved : goal.loop-word-preserved
loop-word-preserved c = one_kept c.loop-word.invariant (rw c.loop-word.auto.kept c.loop-word-test.true) c.field.ensures c.plus-at.ensures

pub returns : goal.returns
returns c = all-kept c.loop-word.invariant (rw c.loop-word.auto.kept c.loop-word-test.false)
