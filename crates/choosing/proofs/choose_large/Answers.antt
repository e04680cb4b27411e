-- choosing::choose_large meets its contract, by whether there is a bin, then by the bin that was found.
use Rattle.choosing.specs.Choosing.{choose_large, low_end_choice}
use Rattle.words.specs.Choice.{if=-yes, if=-no, when-no, when-yes}
use borrow.Author.Rules.{rules}
use mathlib.Core.Path.{sym, ◌∙◌}
use Rattle.choosing.proofs.choose_large.Goals as goal

pub returns-in_err-room : goal.returns-in_err-room
unfolding choose_large low_end_choice
returns-in_err-room c = rw (when-yes _ _ _ (sym c.empty.ensures ∙ c.if-empty.true), ← c.room.ensures, c.in_err-room.was) (search rules)

pub returns-then-empty : goal.returns-then-empty
unfolding choose_large low_end_choice
returns-then-empty c = rw (when-yes _ _ _ (sym c.empty.ensures ∙ c.if-empty.true), ← c.room.ensures, c.in_ok-room.was)

pub returns-then-size-b : goal.returns-then-size-b
unfolding choose_large
returns-then-size-b c =
    rw (
      when-no _ _ _ (sym c.empty.ensures ∙ c.if-empty.false),
      ← c.exact-exact.ensures,
      if=-yes _ _ _ _ (sym c.size.ensures ∙ c.if-size-b.true),
    )

pub returns : goal.returns
unfolding choose_large
returns c =
    rw (
      when-no _ _ _ (sym c.empty.ensures ∙ c.if-empty.false),
      ← c.exact-exact.ensures,
      if=-no _ _ _ _ (λ e. c.if-size-b.false (c.size.ensures ∙ e)),
    ) c.choose_larger.ensures
