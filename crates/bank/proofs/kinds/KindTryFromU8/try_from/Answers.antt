-- bank::Kind::try_from meets its contract, number by number.
use Rattle.bank.specs.Records.{kind_of}
use Rattle.words.specs.Choice.{if=-no, if=-yes}
use mathlib.Core.Path.{sym, ◌∙◌}
use native.Mathlib.Omega.{arith}
use Rattle.bank.proofs.kinds.KindTryFromU8.try_from.Goals as goal

pub returns-in-1 : goal.returns-in-1
unfolding kind_of
returns-in-1 c = sym (if=-yes _ 1 _ _ c.in-1.is)

pub returns-in-2 : goal.returns-in-2
unfolding kind_of
returns-in-2 c = sym (if=-no _ 1 _ _ (λ e. omega (arith, c.in-2.is)) ∙ if=-yes _ 2 _ _ c.in-2.is)

pub returns-in-3 : goal.returns-in-3
unfolding kind_of
returns-in-3 c = sym (if=-no _ 1 _ _ (λ e. omega (arith, c.in-3.is)) ∙ if=-no _ 2 _ _ (λ e. omega (arith, c.in-3.is)) ∙ if=-yes _ 3 _ _ c.in-3.is)

pub returns-in_default : goal.returns-in_default
unfolding kind_of
returns-in_default c = sym (if=-no _ 1 _ _ (λ e. omega arith) ∙ if=-no _ 2 _ _ (λ e. omega arith) ∙ if=-no _ 3 _ _ (λ e. omega arith))
