-- moving::pass meets its contract. The invariant: the whole pass is the pass from here; the measure: how far the sizes may still rise.
use Prim.Native.Nat.{◌-◌}
use Rattle.moving.proofs.Passing.{Passing}
use Rattle.moving.specs.Move.{moving, sizes}
use Rattle.moving.proofs.pass.Given as goal

abbrev pub invariant-loop-f : goal.invariant-loop-f
invariant-loop-f l = Passing l.top l.initial.f (moving l.initial.pool l.initial.lasts) l.pool l.lasts l.y l.f

abbrev pub decreases-loop-f : goal.decreases-loop-f
decreases-loop-f l = sizes - l.y
