-- `member_ok` of large blocks: a failing test refuses; the last one decides.
use Rattle.std.proofs.Common.{sym, ◌∙◌}
use Rattle.guards.proofs.Guards.{pass-no}
use Rattle.lists.specs.Lists.{large_tests}
use Rattle.lists.proofs.Members.{large_is}
use Rattle.lists.proofs.LargeBin.member_ok.Goals as goal

pub returns-then-size_at-z : goal.returns-then-size_at-z
returns-then-size_at-z c =
    let x = c.args in
    pass-no (large_tests x.pool.now x.z x.p x.q) (λ t. c.if-size_at-z.true (c.size_at.ensures ∙ t.0))

pub returns-then-field-link_word : goal.returns-then-field-link_word
returns-then-field-link_word c =
    let x = c.args in
    pass-no (large_tests x.pool.now x.z x.p x.q)
    (λ t. c.if-field-link_word.true (c.field.ensures ∙ t.1.0 ∙ sym c.link_word.ensures))

pub returns : goal.returns
returns c =
    large_is _ _ _ _ c.size_at.ensures c.if-size_at-z.false c.field.ensures c.link_word.ensures c.if-field-link_word.false
    c.field-2.ensures c.link_ok.ensures
