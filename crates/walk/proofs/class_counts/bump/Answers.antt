-- walk::bump meets its contract; past the end a store changes nothing.
use Rattle.walk.specs.Classes.{bumped}
use lib.Seq.{set_out}
use mathlib.Core.Path.{sym}
use Rattle.walk.proofs.class_counts.bump.Goals as goal

pub returns-then-i-counts : goal.returns-then-i-counts
unfolding bumped
returns-then-i-counts c = cc

pub returns-else-i-counts : goal.returns-else-i-counts
unfolding bumped
returns-else-i-counts c = sym (set_out _ _ _ c.if-i-counts.false)
