-- moving::close meets its contract: the invariant says that all levels are the levels from here.
use mathlib.Core.Path.{refl}
use native.Mathlib.Omega.{arith}
use Rattle.moving.proofs.Levels.{closing, closes, all_closed}
use Rattle.moving.proofs.close.Goals as goal

pub loop-level-init : goal.loop-level-init
loop-level-init c = closing _ _

pub loop-level-preserved : goal.loop-level-preserved
loop-level-preserved c = closes c.loop-level.invariant (omega (arith, c.loop-level-test.true)) refl c.word.ensures c.put_field.ensures

pub shape_of-pool : goal.shape_of-pool
shape_of-pool c = c.loop-level.invariant.long

pub returns : goal.returns
returns c = all_closed c.loop-level.invariant c.loop-level-test.false
