-- `higher_ok`: the invariant says that all levels are the levels from here.
use Rattle.std.proofs.Common.{arith, refl}
use Rattle.lists.proofs.Awaiting.{climbing, climbs, is-climbed, no-link-there, not-awaited, too-high}
use Rattle.lists.proofs.index.higher_ok.Goals as goal

pub returns-then-h-gt-LEVELS : goal.returns-then-h-gt-LEVELS
returns-then-h-gt-LEVELS c = too-high _ _ _ _ c.if-h-gt-LEVELS.true

pub loop-level-init : goal.loop-level-init
loop-level-init c = climbing _ _ _ _

pub returns-then-waits-i : goal.returns-then-waits-i
returns-then-waits-i c = not-awaited c.loop-level.invariant c.if-h-gt-LEVELS.false (omega arith) c.if-waits-i.true

pub returns-then-not-link_ok : goal.returns-then-not-link_ok
returns-then-not-link_ok c =
    no-link-there c.loop-level.invariant c.if-h-gt-LEVELS.false (omega arith)
    c.word.ensures c.field-w.ensures c.link_ok.ensures c.if-not-link_ok.true

pub loop-level-preserved : goal.loop-level-preserved
loop-level-preserved c =
    climbs c.loop-level.invariant c.if-h-gt-LEVELS.false (omega arith)
    c.word.ensures c.field-w.ensures c.link_ok.ensures c.if-waits-i.false c.if-not-link_ok.false c.follow.ensures refl

pub returns : goal.returns
returns c = is-climbed c.loop-level.invariant c.if-h-gt-LEVELS.false (omega arith)
