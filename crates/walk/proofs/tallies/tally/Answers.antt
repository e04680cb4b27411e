-- walk::tally meets its contract, by its text.
use Rattle.walk.specs.Tallies.{bare, closed, tally}
use Rattle.walk.proofs.tallies.tally.Goals as goal

pub returns : goal.returns
unfolding tally closed bare
returns c =
    rw (
      c.payload_of.ensures,
      c.get.ensures,
      c.tally_run-all.ensures,
      c.pool_end.ensures,
      c.tally_run-low.ensures,
      c.minus.ensures,
      c.minus-remainder.ensures,
      c.get-end.ensures,
      c.get-start.ensures,
    )
