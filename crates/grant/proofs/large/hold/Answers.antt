-- grant::hold meets its contract, by its text.
use Rattle.grant.specs.Large.{hold}
use Rattle.grant.proofs.large.hold.Goals as goal

pub returns : goal.returns
unfolding hold
returns c =
    rw (
      c.put-2.ensures,
      c.with_p.ensures,
      c.get-head.ensures,
      c.put.ensures,
      c.held_head.ensures,
      c.plus-above.ensures,
    )
