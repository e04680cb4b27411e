-- choosing::choose_small meets its contract, by the test on the first block of the bin.
use Rattle.choosing.specs.Choosing.{choose_small, high_end_choice}
use Rattle.words.specs.Choice.{if=-yes, if=-no}
use borrow.Author.Rules.{rules}
use mathlib.Core.Path.{sym, ◌∙◌}
use Rattle.choosing.proofs.choose_small.Goals as goal

pub returns-in_err-room : goal.returns-in_err-room
unfolding choose_small high_end_choice
returns-in_err-room c = rw (if=-yes _ _ _ _ (sym c.field-first.ensures ∙ c.if-first-eq0.true), ← c.room.ensures, c.in_err-room.was) (search rules)

pub returns-then-first-eq0 : goal.returns-then-first-eq0
unfolding choose_small high_end_choice
returns-then-first-eq0 c = rw (if=-yes _ _ _ _ (sym c.field-first.ensures ∙ c.if-first-eq0.true), ← c.room.ensures, c.in_ok-room.was)

pub returns : goal.returns
unfolding choose_small
returns c = rw (if=-no _ _ _ _ (λ e. c.if-first-eq0.false (c.field-first.ensures ∙ e)), ← c.field-first.ensures)
