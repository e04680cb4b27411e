-- tape::calls::give_back meets its contract, by the two laws of a call on the first n bytes.
use Rattle.tape.proofs.First.{past-the-buffer, up-to}
use Rattle.tape.proofs.calls.give_back.Goals as goal

pub returns-in_default : goal.returns-in_default
returns-in_default c = past-the-buffer _ _ _ c.in_default.ensures.past

pub returns : goal.returns
returns c = up-to _ _ _ c.in-Some.ensures.within c.give_back.ensures
