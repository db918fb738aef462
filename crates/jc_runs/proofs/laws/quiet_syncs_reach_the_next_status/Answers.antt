-- What a sync on current caches comes to.
use Rattle.jc_runs.proofs.QuietLegal.{comes_to_next, writes_nothing}
use Rattle.jc_runs.proofs.laws.quiet_syncs_reach_the_next_status.Goals as goal

pub returns : goal.returns
returns c = record {
  ended = λ s q. (comes_to_next c.allowed_updates_stay_valid.ensures s q).0;
  next = λ s q. (comes_to_next c.allowed_updates_stay_valid.ensures s q).1;
  nothing = writes_nothing c.allowed_updates_stay_valid.ensures;
}
