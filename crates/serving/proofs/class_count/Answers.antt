-- serving::class_count meets its contract, by the length of the list.
use Rattle.serving.specs.Models as model
use Rattle.words.specs.Choice.{if=-yes, if=-no}
use mathlib.Core.Logic.{◌≢◌}
use mathlib.Core.Path.{◌≡◌}
use native.Mathlib.Omega.{arith}
use lib.ListN.{length}
use Rattle.serving.proofs.class_count.Goals as goal

pub returns-then-counts-ne53 : goal.returns-then-counts-ne53
unfolding model.class_count
returns-then-counts-ne53 c =
    let n : length c.args.counts.now ≢ 53 = omega (arith, c.if-counts-ne53.true) in
    rw (if=-no _ _ _ _ n)

pub returns : goal.returns
unfolding model.class_count
returns c =
    let e : length c.args.counts.now ≡ 53 =
    omega (arith, c.if-counts-ne53.false) in
    rw (if=-yes _ _ _ _ e, ← c.count_classes.ensures)
