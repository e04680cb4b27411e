-- reading::check meets its contract: it asks by the rule in force.
use Rattle.reading.specs.Read.{checked_by}
use Rattle.reading.proofs.check.Goals as goal

pub returns : goal.returns
unfolding checked_by
returns c = c.check_by.ensures
