-- `member_ok` of small blocks: the head decides.
use Rattle.lists.proofs.Members.{small_is}
use Rattle.lists.proofs.SmallBin.member_ok.Goals as goal

pub returns : goal.returns
returns c = small_is _ _ 0 _ c.size_at.ensures
