-- choosing::choose_larger meets its contract, by the test on the bin that was found.
use Rattle.choosing.specs.Choosing.{choose_larger, low_end_choice}
use Rattle.words.specs.Choice.{when-yes, when-no}
use borrow.Author.Rules.{rules}
use mathlib.Core.Path.{sym, ◌∙◌}
use Rattle.choosing.proofs.choose_larger.Goals as goal

pub returns-in_err-room : goal.returns-in_err-room
unfolding choose_larger low_end_choice
returns-in_err-room c =
    rw (
      ← c.plus.ensures,
      ← c.find_on-larger.ensures,
      when-yes _ _ _ (sym c.is_none.ensures ∙ c.if-is_none.true),
      ← c.room.ensures,
      c.in_err-room.was,
    ) (search rules)

pub returns-then-is_none : goal.returns-then-is_none
unfolding choose_larger low_end_choice
returns-then-is_none c =
    rw (
      ← c.plus.ensures,
      ← c.find_on-larger.ensures,
      when-yes _ _ _ (sym c.is_none.ensures ∙ c.if-is_none.true),
      ← c.room.ensures,
      c.in_ok-room.was,
    )

pub returns : goal.returns
unfolding choose_larger
returns c =
    rw (
      ← c.plus.ensures,
      ← c.find_on-larger.ensures,
      when-no _ _ _ (sym c.is_none.ensures ∙ c.if-is_none.false),
    )
