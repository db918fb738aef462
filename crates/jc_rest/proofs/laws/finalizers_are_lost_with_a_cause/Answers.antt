-- How the pods of a Job lost their finalizers.
use Rattle.jc_rest.proofs.HistoryFacts.{all-lost-well}
use Rattle.jc_rest.proofs.laws.finalizers_are_lost_with_a_cause.Goals as goal

pub returns : goal.returns
returns c = all-lost-well c.allowed_updates_stay_valid.ensures
