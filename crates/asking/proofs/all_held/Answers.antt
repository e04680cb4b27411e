-- asking::all_held meets its contract, by its text.
use Rattle.asking.specs.AllHeld.{all_held, held_marks}
use Rattle.asking.proofs.all_held.Goals as goal

pub returns : goal.returns
unfolding all_held held_marks
returns c =
    rw (
      c.used_up.ensures,
      c.mark_run-2.ensures,
      c.pool_end.ensures,
      c.mark_run.ensures,
      c.get-end.ensures,
      c.get-start.ensures,
    )
