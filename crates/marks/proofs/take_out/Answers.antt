-- `take_out` stores the word with the digit put to 0; past the end nothing is stored.
use mathlib.Core.Path.{sym}
use lib.Seq.{set_out}
use Rattle.marks.specs.Marks.{put_bit_at}
use Rattle.marks.proofs.Laws.{stored-out}
use Rattle.marks.proofs.take_out.Goals as goal

pub returns-then-q-s : goal.returns-then-q-s
returns-then-q-s c = stored-out _ _

pub returns-else-q-s : goal.returns-else-q-s
unfolding put_bit_at
returns-else-q-s c = sym (set_out _ _ _ c.if-q-s.false)
