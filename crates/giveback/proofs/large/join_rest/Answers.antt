-- giveback::join_rest meets its contract, by its text.
use Rattle.giveback.specs.Large.{join_rest}
use Rattle.giveback.proofs.large.join_rest.Goals as goal

pub returns : goal.returns
unfolding join_rest
returns c =
    rw (
      c.put-2.ensures,
      c.free_head.ensures,
      c.minus.ensures,
      c.put.ensures,
      c.get-end.ensures,
      c.leave_below.ensures,
    )
