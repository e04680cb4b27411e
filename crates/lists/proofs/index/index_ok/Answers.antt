-- `index_ok`: the chain word refuses, or the levels above decide.
use Rattle.lists.proofs.Awaiting.{no-chain-link, on-climbed, one-level}
use Rattle.lists.proofs.index.index_ok.Goals as goal

pub returns-then-not-link_ok : goal.returns-then-not-link_ok
returns-then-not-link_ok c = no-chain-link _ _ _ _ c.field.ensures c.link_ok.ensures c.if-not-link_ok.true

pub returns-then-h-eq1 : goal.returns-then-h-eq1
returns-then-h-eq1 c = one-level _ _ _ _ c.field.ensures c.link_ok.ensures c.if-not-link_ok.false c.if-h-eq1.true

pub returns : goal.returns
returns c = on-climbed _ _ _ _ c.field.ensures c.link_ok.ensures c.if-not-link_ok.false c.higher_ok.ensures
