-- grant::take meets its contract, by its text.
use Rattle.grant.specs.Take.{take}
use Rattle.grant.proofs.CarriesRefusal.{carries-refusal}
use Rattle.grant.proofs.take.Goals as goal

pub returns : goal.returns
unfolding take
returns c = rw (← c.choose-choice.ensures) (carries-refusal _ _ _ _ c.carry_out.ensures)
