-- reading::check_by meets its contract, by what the three tests say of the pool.
use mathlib.Core.Path.{sym, ◌∙◌}
use native.Mathlib.Omega.{arith}
use Rattle.guards.proofs.Guards.{no_both}
use Rattle.paper.proofs.reads.Allowed.{allowed-inv, allowed-yes}
use Rattle.reading.proofs.Reasons.{fails-tests, free-at-edge, not_as_long, passes}
use Rattle.reading.proofs.check_by.Goals as goal

pub returns-then-not-allowed : goal.returns-then-not-allowed
returns-then-not-allowed c =
    not_as_long _ (λ i. omega (arith, c.shared_slice_known-1.given i)) _
    (λ a. no_both (sym c.if-not-allowed.true ∙ c.allowed.ensures ∙ allowed-yes _ a))

pub returns-then-not-edge_ok : goal.returns-then-not-edge_ok
returns-then-not-edge_ok c =
    free-at-edge _ (λ i. omega (arith, c.shared_slice_known-1.given i)) _
    (allowed-inv _ (sym c.allowed.ensures ∙ c.if-not-allowed.false))
    (sym c.edge_ok.ensures ∙ c.if-not-edge_ok.true)

pub returns-then-not-sound_by_old_rule : goal.returns-then-not-sound_by_old_rule
returns-then-not-sound_by_old_rule c =
    fails-tests _ (λ i. omega (arith, c.shared_slice_known-1.given i)) _
    (allowed-inv _ (sym c.allowed.ensures ∙ c.if-not-allowed.false))
    (λ S. no_both (sym c.if-not-sound_by_old_rule.true ∙ c.sound_by_old_rule.ensures.every S))

pub returns : goal.returns
returns c =
    passes _ (λ i. omega (arith, c.shared_slice_known-1.given i)) _
    (sym c.edge_ok.ensures ∙ c.if-not-edge_ok.false) (c.sound_by_old_rule.ensures.only c.if-not-sound_by_old_rule.false)
