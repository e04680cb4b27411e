-- bank::naming::check meets its contract, by the test.
use Rattle.bank.specs.Calls.{past}
use Rattle.words.specs.Choice.{if<-no, if<-yes}
use mathlib.Core.Path.{sym}
use Rattle.bank.proofs.naming.check.Goals as goal

pub returns-then-piston-lt-PISTONS : goal.returns-then-piston-lt-PISTONS
unfolding past
returns-then-piston-lt-PISTONS c = sym (if<-yes _ 32 _ _ c.if-piston-lt-PISTONS.true)

pub returns : goal.returns
unfolding past
returns c = sym (if<-no _ 32 _ _ c.if-piston-lt-PISTONS.false)
