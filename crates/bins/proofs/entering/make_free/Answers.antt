-- bins::make_free meets its contract, by its text.
use Rattle.bins.specs.Enter.{make_free}
use Rattle.bins.proofs.entering.make_free.Goals as goal

pub returns : goal.returns
unfolding make_free
returns c = rw (c.put-2.ensures, c.put.ensures, c.minus-foot.ensures, c.plus.ensures, c.free_head-head.ensures)
