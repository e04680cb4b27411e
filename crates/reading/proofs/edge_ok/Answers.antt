-- reading::edge_ok meets its contract: by the old rule nothing is asked.
use Rattle.reading.proofs.Reasons.{edge-asked, edge-passed-on}
use Rattle.reading.proofs.edge_ok.Goals as goal

pub returns-then-old : goal.returns-then-old
returns-then-old c = edge-asked _ _ c.if-old.true

pub returns : goal.returns
returns c = edge-passed-on _ _ c.if-old.false c.edge_held.ensures
