-- reading::check_by_old_rule meets its contract: it asks by the old rule.
use Rattle.reading.specs.Read.{checked_by}
use Rattle.reading.proofs.check_by_old_rule.Goals as goal

pub returns : goal.returns
unfolding checked_by
returns c = c.check_by.ensures
