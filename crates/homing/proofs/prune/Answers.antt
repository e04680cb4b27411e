-- homing::prune meets its contract: the invariant says that the whole list is the list from here.
use mathlib.Core.Path.{◌∙◌}
use Rattle.homing.proofs.Pruning.{begins, ends, leaves, out, stays}
use Rattle.homing.proofs.prune.Goals as goal
use Rattle.homing.proofs.prune.Goals.{then-edge-q, else-edge-q}

pub loop-init : goal.loop-init
loop-init c = begins _ _ _ c.get-q.ensures

pub returns-then-q-eq0 : goal.returns-then-q-eq0
returns-then-q-eq0 c = ends c.loop.invariant c.loop-test.true c.if-q-eq0.true c.lead.ensures

pub loop-preserved : goal.loop-preserved
loop-preserved c =
    elim c.if-edge-q.branch [
      | then-edge-q w ↦ stays c.loop.invariant c.loop-test.true c.if-q-eq0.false c.field-next.ensures w.if-edge-q.true
          (w.pool-is ∙ w.lead-then-edge-q.ensures) (w.at-is ∙ w.plus-at.ensures)
      | else-edge-q w ↦ leaves c.loop.invariant c.loop-test.true c.if-q-eq0.false c.field-next.ensures w.if-edge-q.false
          w.pool-is w.at-is
    ]

pub returns : goal.returns
returns c = out c.loop.invariant c.loop-test.false
