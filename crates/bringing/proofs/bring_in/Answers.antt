-- bringing::bring_in meets its contract: refused, or the free run at E has gone home.
use borrow.Author.Rules.{rules}
use mathlib.Core.Path.{◌≡◌}
use Rattle.std.specs.declared.result.Result.TheVariants.{Err}
use Rattle.bringing.proofs.Outcomes.{done-with, refused-with}
use Rattle.bringing.proofs.bring_in.Goals as goal

pub returns-in_err-read : goal.returns-in_err-read
returns-in_err-read c =
    let e : c.from_residual.result ≡ Err c.in_err-read.field-0.0 = search rules in
    rw e (refused-with _ c.check_by_old_rule-read.ensures c.in_err-read.was)

pub returns : goal.returns
returns c =
    done-with _ c.check_by_old_rule-read.ensures c.in_ok-read.was c.get-edge.ensures c.go_home.ensures.0 c.go_home.ensures.1
