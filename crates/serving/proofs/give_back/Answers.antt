-- serving::give_back meets its contract, by what is held there.
use borrow.Author.Rules.{rules}
use Rattle.serving.specs.Models as model
use Rattle.serving.proofs.give_back.Goals as goal

pub returns-in_err-z : goal.returns-in_err-z
unfolding model.give_back
returns-in_err-z c = rw (← c.look_up.ensures, ← c.held_there.ensures, c.in_err-z.was) (search rules)

pub returns : goal.returns
unfolding model.give_back
returns c =
    rw (
      ← c.look_up.ensures,
      ← c.held_there.ensures,
      c.in_ok-z.was,
      c.minus-2.ensures,
      c.give_back.ensures,
      c.minus.ensures,
    )
