-- lines::Head::begin meets its contract: the numeral, and the two bytes after it.
use Rattle.text.proofs.Putting.{puts-append}
use Rattle.lines.specs.Lines.{begin_of}
use Rattle.lines.proofs.Head.begin.Goals as goal

pub returns : goal.returns
unfolding begin_of
returns c = puts-append c.numeral.ensures c.put.ensures
