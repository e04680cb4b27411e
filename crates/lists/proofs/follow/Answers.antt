-- `follow`: the invariant says that the whole list is the list from here.
use Rattle.std.proofs.Common.{rules}
use Rattle.lists.proofs.Following.{goes_on, is-done, is-failed, is-short, is-unmarked, start}
use Rattle.lists.proofs.follow.Goals as goal

pub loop-q-init : goal.loop-q-init
loop-q-init g c = start _ _ _ _ _ (search rules)

pub returns-then-left-eq0 : goal.returns-then-left-eq0
returns-then-left-eq0 g c = is-short c.loop-q.invariant c.loop-q-test.true c.if-left-eq0.true

pub returns-then-not-marked : goal.returns-then-not-marked
returns-then-not-marked g c = is-unmarked c.loop-q.invariant c.loop-q-test.true c.marked.ensures c.if-not-marked.true

pub returns-then-not-member_ok : goal.returns-then-not-member_ok
returns-then-not-member_ok g c =
    is-failed c.loop-q.invariant c.loop-q-test.true c.marked.ensures c.if-not-marked.false c.member_ok.ensures c.if-not-member_ok.true

pub loop-q-preserved : goal.loop-q-preserved
loop-q-preserved g c =
    goes_on c.loop-q.invariant c.loop-q-test.true c.marked.ensures c.if-not-marked.false c.member_ok.ensures
    c.if-left-eq0.false c.if-not-member_ok.false c.unmark.ensures (search rules) c.next-q.ensures

pub returns : goal.returns
returns g c = is-done c.loop-q.invariant c.loop-q-test.false
