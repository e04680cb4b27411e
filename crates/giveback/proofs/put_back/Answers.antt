-- giveback::put_back meets its contract, by the size.
use Rattle.giveback.specs.GiveBack.{put_back}
use Rattle.words.specs.Choice.{if<-yes, if<-no}
use Rattle.giveback.proofs.put_back.Goals as goal

pub returns-then-z-lt-LARGE : goal.returns-then-z-lt-LARGE
unfolding put_back
returns-then-z-lt-LARGE c = rw (if<-yes _ _ _ _ c.if-z-lt-LARGE.true) c.give_back_small.ensures

pub returns : goal.returns
unfolding put_back
returns c = rw (if<-no _ _ _ _ c.if-z-lt-LARGE.false) c.give_back_large.ensures
