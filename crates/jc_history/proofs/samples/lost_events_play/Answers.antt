use Rattle.jc_history.proofs.SamplePlays.{one_pod-conditions, one_pod-verdicts, one_pod-replies, one_pod-counts, restart-replies, restart-counts, lagging_cache-replies, lagging_cache-counts, conflict-replies, conflict-counts}
use Rattle.jc_history.proofs.SamplePlays.{lost_status-replies, lost_status-counts, lost_creation-replies, lost_creation-counts, dropped_creation-replies, dropped_creation-counts}
use Rattle.jc_history.proofs.samples.lost_events_play.Goals as goal

pub returns : goal.returns
returns c = record {
  one_pod = one_pod-replies;
  one_pod_counts = one_pod-counts;
  restart = restart-replies;
  restart_counts = restart-counts;
  lagging_cache = lagging_cache-replies;
  lagging_cache_counts = lagging_cache-counts;
  conflict = conflict-replies;
  conflict_counts = conflict-counts;
  lost_status = lost_status-replies;
  lost_status_counts = lost_status-counts;
  lost_creation = lost_creation-replies;
  lost_creation_counts = lost_creation-counts;
  dropped_creation = dropped_creation-replies;
  dropped_creation_counts = dropped_creation-counts;
  one_pod_conditions = one_pod-conditions;
  one_pod_verdicts = one_pod-verdicts;
}
