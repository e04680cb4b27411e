-- walk::block_at meets its contract: the walk from head to head.
use Rattle.walk.proofs.Looking.{LookingOn}
use Rattle.walk.proofs.looking_up.block_at.Given as goal

abbrev pub invariant-loop-block : goal.invariant-loop-block
invariant-loop-block l = LookingOn l.pool l.address l.from l.block-iterator
