-- walk::count_classes meets its contract, by its text.
use Rattle.walk.specs.Classes.{class_counts}
use Rattle.walk.proofs.class_counts.count_classes.Goals as goal

pub returns : goal.returns
unfolding class_counts
returns c =
    rw (
      c.count_run.ensures,
      c.pool_end.ensures,
      c.count_run-low.ensures,
      c.get-end.ensures,
      c.get-start.ensures,
      c.fill.ensures.after (λ y e. e),
    )
