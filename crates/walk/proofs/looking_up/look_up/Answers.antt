-- walk::look_up meets its contract, by the tests on the address.
use Rattle.walk.specs.LookUp as model
use Rattle.words.specs.Choice.{if<-yes, if<-no}
use Rattle.walk.proofs.looking_up.look_up.Goals as goal

pub returns-then-address-lt-BLOCKS : goal.returns-then-address-lt-BLOCKS
unfolding model.look_up
returns-then-address-lt-BLOCKS c = rw (if<-yes _ _ _ _ c.if-address-lt-BLOCKS.true)

pub returns-then-address-start : goal.returns-then-address-start
unfolding model.look_up
returns-then-address-start c =
    rw (
      if<-no _ _ _ _ c.if-address-lt-BLOCKS.false,
      ← c.get-start.ensures,
      if<-yes _ _ _ _ c.if-address-start.true,
    ) c.block_at.ensures

pub returns-then-address-end : goal.returns-then-address-end
unfolding model.look_up
returns-then-address-end c =
    rw (
      if<-no _ _ _ _ c.if-address-lt-BLOCKS.false,
      ← c.get-start.ensures,
      if<-no _ _ _ _ c.if-address-start.false,
      ← c.get-end.ensures,
      if<-yes _ _ _ _ c.if-address-end.true,
      c.minus.ensures,
    )

pub returns : goal.returns
unfolding model.look_up
returns c =
    rw (
      if<-no _ _ _ _ c.if-address-lt-BLOCKS.false,
      ← c.get-start.ensures,
      if<-no _ _ _ _ c.if-address-start.false,
      ← c.get-end.ensures,
      if<-no _ _ _ _ c.if-address-end.false,
    ) c.block_at-2.ensures
