-- grant::carry_out meets its contract: handed on, or carried out.
use mathlib.Core.Path.{refl}
use borrow.Author.Rules.{rules}
use Rattle.grant.proofs.carry_out.Goals as goal

pub returns-in_err-choice : goal.returns-in_err-choice
returns-in_err-choice g c = rw c.in_err-choice.was (search rules, refl)

pub returns : goal.returns
returns g c = rw c.in_ok-choice.was c.carry.ensures
