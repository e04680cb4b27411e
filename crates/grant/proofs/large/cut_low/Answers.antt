-- grant::cut_low meets its contract, by its text.
use Rattle.grant.specs.Large.{cut_low}
use Rattle.grant.proofs.large.cut_low.Goals as goal

pub returns : goal.returns
unfolding cut_low
returns c =
    rw (
      ← c.granted.ensures,
      c.put-3.ensures,
      c.put-2.ensures,
      c.held_head.ensures,
      c.put.ensures,
      c.free_head-head.ensures,
      c.minus.ensures,
      c.plus-above.ensures,
    )
