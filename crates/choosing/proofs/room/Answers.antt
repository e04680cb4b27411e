-- choosing::room meets its contract, by the test on the remainder.
use Rattle.choosing.specs.Choosing.{room}
use Rattle.words.specs.Choice.{if<-yes, if<-no}
use Rattle.choosing.proofs.room.Goals as goal

pub returns-then-rest-b : goal.returns-then-rest-b
unfolding room
returns-then-rest-b c = rw (← c.remainder-rest.ensures, if<-yes _ _ _ _ c.if-rest-b.true)

pub returns : goal.returns
unfolding room
returns c = rw (← c.remainder-rest.ensures, if<-no _ _ _ _ c.if-rest-b.false)
