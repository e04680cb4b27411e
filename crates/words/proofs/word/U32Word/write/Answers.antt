-- words::u32::write meets its contract: in the list a word is its four digits, one after the other.
use Rattle.std.proofs.Common.{add_assoc, sym, ◌∙◌}
use native.Mathlib.Nat.{div-div-eq-div-mul}
use Rattle.words.proofs.Laws.{put_in, put-over}
use Rattle.words.specs.Words.{put_digits}
use Rattle.words.proofs.word.U32Word.write.Goals as goal

pub returns-then-not-is_within : goal.returns-then-not-is_within
returns-then-not-is_within c = sym (put-over 4 _ _ _ (c.is_within.ensures.no c.if-not-is_within.true))

pub returns : goal.returns
unfolding put_digits
returns c = rw (put_in 4 c.args.s.now c.args.at c.args.self (c.is_within.ensures.yes c.if-not-is_within.false)) (simp (add_assoc, div-div-eq-div-mul))
