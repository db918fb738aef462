-- Syncs that begin, and syncs under way.
use Rattle.jc_runs.proofs.StepRuns.{busy_at, plans_at}
use Rattle.jc_runs.proofs.laws.syncs_can_go_on.Goals as goal

pub returns : goal.returns
returns c = record {
  planned = λ m. plans_at m.shape m.deeds m.log m.teams m.fates m.now;
  processing = λ m run c team w sync on. busy_at m.shape m.deeds m.log m.teams m.fates m.now run c team on.team_is w sync on.sync_is;
}
