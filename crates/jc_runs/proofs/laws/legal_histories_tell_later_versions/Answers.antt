-- What the conflicts of a legal history tell.
use Rattle.jc_runs.proofs.ConflictRuns.{all-told_later}
use Rattle.jc_runs.proofs.laws.legal_histories_tell_later_versions.Goals as goal

pub returns : goal.returns
returns c = all-told_later c.allowed_updates_stay_valid.ensures
