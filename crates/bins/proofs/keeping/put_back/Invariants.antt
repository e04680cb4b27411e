-- bins::put_back meets its contract: the words are put back from the front.
use Rattle.bins.proofs.KeptWords.{PuttingBack}
use Rattle.bins.proofs.keeping.put_back.Given as goal

abbrev pub invariant-loop-word : goal.invariant-loop-word
invariant-loop-word l = PuttingBack l.initial.pool l.q l.offset l.kept l.pool l.word-index l.at
