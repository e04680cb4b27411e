-- homing::go_home meets its contract, by its steps.
use lib.ListN.{length}
use mathlib.Core.Path.{◌∙◌, ap}
use Rattle.homing.proofs.Home.{home-is, lists-left, lists-pruned}
use Rattle.homing.specs.Homing.{homes}
use Rattle.homing.specs.declared.Run.{Run}
use Rattle.homing.proofs.go_home.Goals as goal
use Rattle.homing.proofs.go_home.Goals.{then-run-ne0, else-run-ne0}

pub shape_of-pool : goal.shape_of-pool
shape_of-pool c =
    c.put-2.auto.s ∙ c.put.auto.s
    ∙ elim c.if-run-ne0.branch [ then-run-ne0 w ↦ ap length w.pool-is ∙ w.prune_all.auto.pool | else-run-ne0 w ↦ ap length w.pool-is ]

pub returns : goal.returns
unfolding homes
returns c = (
  home-is _ _ _ c.free_run-run.ensures
      (elim c.if-run-ne0.branch [
        | then-run-ne0 w ↦ lists-pruned _ _ w.if-run-ne0.true (w.pool-is ∙ w.prune_all.ensures)
        | else-run-ne0 w ↦ lists-left _ _ w.if-run-ne0.false w.pool-is
      ])
      c.get-start.ensures c.put.ensures c.minus.ensures c.free_head.ensures c.put-2.ensures,
  ap (λ (r : Run). r.blocks) c.free_run-run.ensures,
)
