-- text::Page::put_one meets its contract: the two ways are those of the page.
use Rattle.std.proofs.Common.{refl}
use Rattle.words.specs.Choice.{if<-yes, if<-no}
use Rattle.text.specs.Page.{put, put_one}
use Rattle.text.proofs.Page.put_one.Goals as goal

pub returns-then-self : goal.returns-then-self
unfolding put put_one
returns-then-self c = record { same_bytes = refl; shows = if<-yes _ _ _ _ c.if-self.true }

pub returns-else-self : goal.returns-else-self
unfolding put put_one
returns-else-self c = record { same_bytes = refl; shows = if<-no _ _ _ _ c.if-self.false }
