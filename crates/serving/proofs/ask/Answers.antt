-- serving::ask meets its contract, by what is held there.
use borrow.Author.Rules.{rules}
use Rattle.serving.specs.Models as model
use Rattle.serving.proofs.ask.Goals as goal

pub returns-in_err-z : goal.returns-in_err-z
unfolding model.ask
returns-in_err-z c = rw (← c.look_up.ensures, ← c.held_there.ensures, c.in_err-z.was) (search rules)

pub returns : goal.returns
unfolding model.ask
returns c =
    rw (
      ← c.look_up.ensures,
      ← c.held_there.ensures,
      c.in_ok-z.was,
      c.minus.ensures,
    )
