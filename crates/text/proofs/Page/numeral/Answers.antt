-- text::Page::numeral meets its contract: the digits that are put are those that decimal printing writes, and those are the numeral.
use Rattle.std.proofs.Common.{arith}
use Rattle.text.proofs.Digits.{numeral-decimal}
use Rattle.text.proofs.Page.numeral.Goals as goal

pub returns : goal.returns
returns c = rw (numeral-decimal c.args.v (omega (arith, c.ranges.v)), ← c.format.ensures.text, ← c.as_bytes.ensures.value) c.put.ensures
