-- grant::take_first meets its contract, by its text.
use Rattle.grant.specs.Small.{take_first}
use Rattle.grant.proofs.small.take_first.Goals as goal

pub returns : goal.returns
unfolding take_first
returns c = rw (← c.granted.ensures, c.put.ensures, c.held_head.ensures, c.put_field.ensures, c.field-next.ensures)
