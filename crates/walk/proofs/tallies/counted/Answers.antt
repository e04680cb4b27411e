-- walk::counted meets its contract, by the kind of the block.
use Rattle.walk.specs.Tallies.{counted}
use Rattle.words.specs.Choice.{if<-yes, if<-no, when-yes, when-no}
use Rattle.walk.proofs.tallies.counted.Goals as goal

pub returns-then-head : goal.returns-then-head
unfolding counted
returns-then-head c = rw (when-yes _ _ _ c.if-head.true, c.plus-then-head.ensures, c.plus.ensures)

pub returns-then-head-lt-LARGE : goal.returns-then-head-lt-LARGE
unfolding counted
returns-then-head-lt-LARGE c =
    rw (
      when-no _ _ _ c.if-head.false,
      if<-yes _ _ _ _ c.if-head-lt-LARGE.true,
      c.plus-then-head-lt-LARGE.ensures,
      c.max.ensures,
    )

pub returns : goal.returns
unfolding counted
returns c =
    rw (
      when-no _ _ _ c.if-head.false,
      if<-no _ _ _ _ c.if-head-lt-LARGE.false,
      c.plus-2.ensures,
      c.max.ensures,
    )
