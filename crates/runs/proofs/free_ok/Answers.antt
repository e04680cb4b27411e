-- `free_ok`: a failing test refuses, and the block's end decides.
use Rattle.std.proofs.Common.{sym, ◌∙◌}
use Rattle.guards.proofs.Guards.{pass-no}
use Rattle.runs.specs.Runs.{free_at}
use Rattle.runs.proofs.Laws.{free-last, not_free}
use Rattle.runs.proofs.free_ok.Goals as goal

pub returns-then-due-ne-HELD : goal.returns-then-due-ne-HELD
returns-then-due-ne-HELD g c = λ k. let x = c.args in pass-no (free_at x.pool.now x.w x.due x.p) (λ t. c.if-due-ne-HELD.true t.0)

pub returns-then-flags_of-ne-FREE : goal.returns-then-flags_of-ne-FREE
returns-then-flags_of-ne-FREE g c = λ k. not_free _ _ _ _ (λ e. c.if-flags_of-ne-FREE.true (c.flags_of.ensures ∙ e))

pub returns : goal.returns
returns g c = λ k.
    free-last _ _ _ _ c.if-due-ne-HELD.false (sym c.flags_of.ensures ∙ c.if-flags_of-ne-FREE.false) (c.ends.ensures k)
