-- bins::keep meets its contract: the words are kept from the front.
use Rattle.bins.proofs.KeptWords.{Keeping}
use Rattle.bins.proofs.keeping.keep.Given as goal

abbrev pub invariant-loop-word : goal.invariant-loop-word
invariant-loop-word l = Keeping l.pool l.q l.offset l.initial.kept l.kept l.word-index l.at
