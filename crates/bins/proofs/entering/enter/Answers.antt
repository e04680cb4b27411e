-- bins::enter meets its contract, by its text.
use Rattle.bins.specs.Enter.{enter}
use Rattle.bins.proofs.entering.enter.Goals as goal

pub returns : goal.returns
unfolding enter
returns c = rw (c.enter_bin.ensures, c.make_free.ensures)
