-- bins::enter_only meets its contract, by its text.
use Rattle.bins.specs.Enter.{enter_only}
use Rattle.bins.proofs.entering.enter_only.Goals as goal

pub returns : goal.returns
unfolding enter_only
returns c = rw (c.rehead.ensures, c.put_field-3.ensures, c.put_field-2.ensures, c.put_field.ensures)
