-- grant::cut_high meets its contract, by its text.
use Rattle.grant.specs.Small.{cut_high}
use Rattle.grant.proofs.small.cut_high.Goals as goal

pub returns : goal.returns
unfolding cut_high
returns c =
    rw (
      ← c.granted.ensures,
      c.put-3.ensures,
      c.held_head.ensures,
      c.put-2.ensures,
      c.put.ensures,
      c.free_head-head.ensures,
      c.minus.ensures,
      c.minus-q.ensures,
    )
