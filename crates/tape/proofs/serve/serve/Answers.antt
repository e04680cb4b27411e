-- tape::serve::serve meets its contract, by the law of each kind of request.
use Rattle.tape.proofs.Steps.{laid_out, laid-out-indexed, taken, given_back, counted}
use Rattle.tape.proofs.serve.serve.Goals as goal

pub returns-in-LayOut : goal.returns-in-LayOut
returns-in-LayOut c = rw c.in-LayOut.is (laid_out _ c.lay_out-a.ensures c.answer.ensures)

pub returns-in-LayOutIndexed : goal.returns-in-LayOutIndexed
returns-in-LayOutIndexed c = rw c.in-LayOutIndexed.is (laid-out-indexed _ c.lay_out-a-in-LayOutIndexed.ensures c.answer-in-LayOutIndexed.ensures)

pub returns-in-Take : goal.returns-in-Take
returns-in-Take c = rw c.in-Take.is (taken _ c.take-a.ensures c.answer-in-Take.ensures)

pub returns-in-GiveBack : goal.returns-in-GiveBack
returns-in-GiveBack c = rw c.in-GiveBack.is (given_back _ c.give_back-a.ensures c.answer-in-GiveBack.ensures)

pub returns-in-Figures : goal.returns-in-Figures
returns-in-Figures c = rw c.in-Figures.is (counted c.figures-t.ensures c.figures.ensures)
