-- words::u64::write meets its contract: a word of 8 is two words of 4.
use Rattle.std.proofs.Common.{sym}
use Rattle.words.proofs.Laws.{put-over, put-halves}
use Rattle.words.proofs.word.U64Word.write.Goals as goal

pub returns-then-not-is_within : goal.returns-then-not-is_within
returns-then-not-is_within c = sym (put-over 8 _ _ _ (c.is_within.ensures.no c.if-not-is_within.true))

pub returns : goal.returns
returns c = put-halves _ _ _ _ _ (c.is_within.ensures.yes c.if-not-is_within.false) c.write.ensures c.write-2.ensures
