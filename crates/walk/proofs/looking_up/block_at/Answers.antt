-- walk::block_at meets its contract: the walk from head to head.
use Rattle.walk.proofs.Looking.{sets_out, finds_none, finds, looks_on}
use mathlib.Core.Path.{sym, ◌∙◌}
use Rattle.walk.proofs.looking_up.block_at.Goals as goal

pub loop-block-init : goal.loop-block-init
loop-block-init c = sets_out c.up_to-block-items.ensures c.into_iter-block-iterator.ensures.into_iter_gives

pub returns-then-address-block : goal.returns-then-address-block
returns-then-address-block c = c.found_at.ensures ∙ sym (finds c.loop-block.invariant c.in-Some.ensures.steps c.if-address-block.true)

pub loop-block-preserved : goal.loop-block-preserved
loop-block-preserved c = looks_on c.loop-block.invariant c.in-Some.ensures.steps c.if-address-block.false

pub returns : goal.returns
returns c = sym (finds_none c.loop-block.invariant c.in-None.ensures.steps)
