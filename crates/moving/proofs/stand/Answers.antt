-- moving::stand meets its contract: the invariant says that all levels are the levels from here.
use native.Mathlib.Omega.{arith}
use Rattle.moving.proofs.Levels.{climbing, climbs, climbed, too-high}
use Rattle.moving.proofs.stand.Goals as goal

pub returns-then-h-gt-LEVELS : goal.returns-then-h-gt-LEVELS
returns-then-h-gt-LEVELS c = too-high _ _ _ c.if-h-gt-LEVELS.true

pub loop-level-init : goal.loop-level-init
loop-level-init c = climbing _ _ _

pub loop-level-preserved : goal.loop-level-preserved
loop-level-preserved c = climbs c.loop-level.invariant (omega (arith, c.loop-level-test.true)) c.word.ensures c.link_word.ensures c.put_field-in-loop-level.ensures

pub returns : goal.returns
returns c = climbed c.loop-level.invariant (omega (arith, c.loop-level-test.false)) c.if-h-gt-LEVELS.false _ c.put_field.ensures
