-- lines::rest, along the numbers: what puts the rest of those that are left has put the rest of all.
use Rattle.std.proofs.Common.{drop}
use Rattle.text.specs.declared.Page.{Page as Lent}
use Rattle.text.specs.Lent.{Puts}
use Rattle.lines.specs.Lines.{rest_of}
use Rattle.lines.proofs.rest.Given as goal

abbrev pub invariant-loop-v : goal.invariant-loop-v
invariant-loop-v l = (last : Lent) → Puts l.page (rest_of (drop l.v-index l.numbers)) last → Puts l.fn.page (rest_of l.fn.numbers) last
