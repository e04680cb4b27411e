-- moving::move_to meets its contract, by its three steps.
use Rattle.moving.proofs.Passing.{all_moved}
use Rattle.moving.proofs.move_to.Goals as goal

pub returns : goal.returns
returns c = all_moved _ _ c.pass.ensures c.close.ensures c.put_field.ensures
