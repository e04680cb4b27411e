-- choosing::choose meets its contract, by the tests on the size.
use Rattle.choosing.specs.Choosing.{choose}
use Rattle.words.specs.Choice.{if=-yes, if=-no, if<-yes, if<-no}
use Rattle.choosing.proofs.choose.Goals as goal

pub returns-then-s-eq0 : goal.returns-then-s-eq0
unfolding choose
returns-then-s-eq0 c = rw (if=-yes _ _ _ _ c.if-s-eq0.true)

pub returns-then-b-gt65536 : goal.returns-then-b-gt65536
unfolding choose
returns-then-b-gt65536 c = rw (← c.block_size-b.ensures, if=-no _ _ _ _ c.if-s-eq0.false, if<-yes _ _ _ _ c.if-b-gt65536.true)

pub returns-then-b : goal.returns-then-b
unfolding choose
returns-then-b c =
    rw (
      ← c.block_size-b.ensures,
      if=-no _ _ _ _ c.if-s-eq0.false,
      if<-no _ _ _ _ c.if-b-gt65536.false,
      if<-yes _ _ _ _ c.if-b.true,
    ) c.choose_small.ensures

pub returns : goal.returns
unfolding choose
returns c =
    rw (
      ← c.block_size-b.ensures,
      if=-no _ _ _ _ c.if-s-eq0.false,
      if<-no _ _ _ _ c.if-b-gt65536.false,
      if<-no _ _ _ _ c.if-b.false,
    ) c.choose_large.ensures
