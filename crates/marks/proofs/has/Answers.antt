-- `has` reads the digit; past the end there is none.
use mathlib.Core.Path.{sym, ◌∙◌}
use native.Mathlib.Nat.{zero-div}
use lib.ListN.{get_or-eq_default}
use borrow.Author.Rules.{rules}
use borrow.Author.Tests.{le-ltb}
use Rattle.marks.specs.Marks.{bit_at}
use Rattle.marks.proofs.has.Goals as goal

pub returns-then-q-s : goal.returns-then-q-s
unfolding bit_at
returns-then-q-s c = search rules

pub returns-else-q-s : goal.returns-else-q-s
unfolding bit_at
returns-else-q-s c = le-ltb _ _ c.if-q-s.false ∙ sym (simp (get_or-eq_default c.args.s.now 0 c.if-q-s.false, zero-div))
