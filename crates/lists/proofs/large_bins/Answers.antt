-- `large_bins`: the invariant says that the whole chain is the chain from here.
use borrow.Author.Rules.{rules}
use Rattle.lists.proofs.LargeBins.{bin-less, chain-bad, chain-lost, chain-on, chain-start, ended-decides, marks-left}
use Rattle.lists.proofs.large_bins.Goals as goal

pub loop-f-init : goal.loop-f-init
loop-f-init c = chain-start _ _ _ _ _ _ (search rules)

pub returns-then-not-first_ok : goal.returns-then-not-first_ok
returns-then-not-first_ok c =
    chain-bad c.loop-f.invariant c.loop-f-test.true c.size_at-z.ensures c.first_ok.result _
    c.first_ok.ensures c.if-not-first_ok.true

pub returns-in_default : goal.returns-in_default
returns-in_default c =
    chain-lost c.loop-f.invariant c.loop-f-test.true c.size_at-z.ensures c.first_ok.result _
    c.first_ok.ensures c.if-not-first_ok.false c.follow.result _ c.follow.ensures c.in_default.is

pub loop-f-smaller : goal.loop-f-smaller
loop-f-smaller c =
    bin-less c.loop-f.invariant c.loop-f-test.true c.size_at-z.ensures c.first_ok.result _
    c.first_ok.ensures c.if-not-first_ok.false c.follow.result _ c.follow.ensures
    c.in-Some.is

pub loop-f-preserved : goal.loop-f-preserved
loop-f-preserved c =
    chain-on c.loop-f.invariant c.loop-f-test.true c.size_at-z.ensures c.first_ok.result _
    c.first_ok.ensures c.if-not-first_ok.false c.follow.result _ c.follow.ensures
    c.in-Some.is (search rules) c.field.ensures c.follow-f.ensures (search rules)

pub returns-then-left-ne0 : goal.returns-then-left-ne0
returns-then-left-ne0 c = marks-left c.loop-f.invariant c.loop-f-test.false c.if-left-ne0.true

pub returns : goal.returns
returns c = ended-decides c.loop-f.invariant c.loop-f-test.false c.if-left-ne0.false c.ended_ok.ensures
