-- `all_listed`: the small bins, then the false block's index words, then the chain.
use Rattle.lists.proofs.LargeBins.{lists-astray, lists-lost, lists-on}
use Rattle.lists.proofs.all_listed.Goals as goal

pub returns-in_default : goal.returns-in_default
returns-in_default c = lists-lost _ _ _ _ c.small_bins.result c.small_bins.ensures c.in_default.is

pub returns-then-not-index_ok : goal.returns-then-not-index_ok
returns-then-not-index_ok c =
    lists-astray _ _ _ _ c.small_bins.result c.small_bins.ensures c.in-Some.is
    c.top-top.ensures c.index_ok.result _ c.index_ok.ensures c.if-not-index_ok.true

pub returns : goal.returns
returns c =
    lists-on _ _ _ _ c.small_bins.result c.small_bins.ensures c.in-Some.is c.top-top.ensures
    c.index_ok.result _ c.index_ok.ensures c.if-not-index_ok.false
    c.field.ensures c.follow-f.ensures
    c.large_bins.ensures
