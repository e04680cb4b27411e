-- giveback::at_front meets its contract, by its text.
use Rattle.giveback.specs.Small.{at_front}
use Rattle.giveback.proofs.small.at_front.Goals as goal

pub returns : goal.returns
unfolding at_front
returns c = rw (c.put_field-2.ensures, c.put_field.ensures, c.put.ensures, c.free_head.ensures, c.field-first.ensures)
