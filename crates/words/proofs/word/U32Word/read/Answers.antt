-- words::u32::read meets its contract: in the list a word is its four digits, each by its worth.
use Rattle.std.proofs.Common.{add_assoc, sym, arith}
use Rattle.words.proofs.Laws.{word_in, word_over}
use Rattle.words.specs.Words.{digits_at}
use Rattle.words.proofs.word.U32Word.read.Goals as goal

pub returns-then-not-is_within : goal.returns-then-not-is_within
returns-then-not-is_within c = sym (word_over 4 _ _ (c.is_within.ensures.no c.if-not-is_within.true))

pub returns : goal.returns
unfolding digits_at
returns c = rw (word_in 4 c.args.s.now c.args.at (c.is_within.ensures.yes c.if-not-is_within.false)) (simp add_assoc (omega arith))
