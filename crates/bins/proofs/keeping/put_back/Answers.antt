-- bins::put_back meets its contract: the words are put back from the front.
use Rattle.bins.proofs.KeptWords.{one-put, all-put}
use Rattle.bins.proofs.keeping.put_back.Goals as goal

pub loop-word-preserved : goal.loop-word-preserved
loop-word-preserved c = one-put c.loop-word.invariant c.loop-word-test.true c.put_field.auto.s c.put_field.ensures c.plus-at.ensures

pub returns : goal.returns
returns c = all-put c.loop-word.invariant c.loop-word-test.false
