-- words::u64::read meets its contract: a word of 8 is two words of 4.
use Rattle.std.proofs.Common.{sym, arith}
use Rattle.words.proofs.Laws.{word_over, word-add}
use Rattle.words.proofs.word.U64Word.read.Goals as goal

pub returns-then-not-is_within : goal.returns-then-not-is_within
returns-then-not-is_within c = sym (word_over 8 _ _ (c.is_within.ensures.no c.if-not-is_within.true))

pub returns : goal.returns
returns c = omega (arith, word-add 4 4 c.args.s.now c.args.at (c.is_within.ensures.yes c.if-not-is_within.false))
