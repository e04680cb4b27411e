-- grant::carry meets its contract, by what was chosen.
use Rattle.grant.specs.Take.{carry}
use Rattle.grant.proofs.carry.Goals as goal

pub returns-in-FirstOfBin : goal.returns-in-FirstOfBin
unfolding carry
returns-in-FirstOfBin c = rw c.in-FirstOfBin.is c.take_first.ensures

pub returns-in-HighEnd : goal.returns-in-HighEnd
unfolding carry
returns-in-HighEnd c = rw c.in-HighEnd.is c.cut_high.ensures

pub returns-in-ExactBin : goal.returns-in-ExactBin
unfolding carry
returns-in-ExactBin c = rw c.in-ExactBin.is c.take_whole.ensures

pub returns-in-LargerBin : goal.returns-in-LargerBin
unfolding carry
returns-in-LargerBin c = rw c.in-LargerBin.is c.take_part.ensures

pub returns-in-LowEnd : goal.returns-in-LowEnd
unfolding carry
returns-in-LowEnd c = rw c.in-LowEnd.is c.cut_low.ensures
