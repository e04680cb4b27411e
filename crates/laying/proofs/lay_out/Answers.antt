-- laying::lay_out meets its contract, by its text.
use Rattle.laying.specs.LayingOut.{lay_out}
use Rattle.laying.proofs.lay_out.Goals as goal

pub returns : goal.returns
unfolding lay_out
returns c =
    rw (
      c.put-5.ensures,
      c.free_head.ensures,
      c.put_field.ensures,
      c.put-4.ensures,
      c.put-3.ensures,
      c.put-2.ensures,
      c.put.ensures,
      c.minus.ensures,
      c.clear.ensures,
      c.minus-rest.ensures,
    )
