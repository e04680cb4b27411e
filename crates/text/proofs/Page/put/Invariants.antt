-- text::Page::put, along the text: the bytes so far are put.
use Rattle.std.proofs.Common.{take}
use Rattle.text.specs.Lent.{Puts}
use Rattle.text.proofs.Page.put.Given as goal

abbrev pub invariant-loop-i : goal.invariant-loop-i
invariant-loop-i l = Puts l.fn.self (take l.i l.text) l.self
