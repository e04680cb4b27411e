-- heads::block_size meets its contract, by its text.
use Rattle.heads.specs.Heads.{block_size}
use mathlib.Core.Path.{refl}
use Rattle.heads.proofs.head.block_size.Goals as goal

pub returns : goal.returns
unfolding block_size
returns c = refl
