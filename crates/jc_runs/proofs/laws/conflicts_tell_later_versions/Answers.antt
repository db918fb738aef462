-- What a conflict tells.
use Rattle.jc_runs.proofs.CountedFacts.{later_conflicts}
use Rattle.jc_runs.proofs.laws.conflicts_tell_later_versions.Goals as goal

pub returns : goal.returns
returns c = λ m run c team w sync on. later_conflicts m.shape m.deeds m.log m.teams m.fates m.now run c team on.team_is w sync on.sync_is
