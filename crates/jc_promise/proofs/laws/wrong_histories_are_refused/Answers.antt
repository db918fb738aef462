-- What each of them is refused by.
use Rattle.jc_promise.proofs.WrongFacts.{crowded_list-refused, early_fail_job-refused, early_release-refused, early_release-unlost, early_total-refused, failures_anew-refused, finalizer_vanishes-refused, ignored_counted-refused}
use Rattle.jc_promise.proofs.WrongFacts.{index_past-refused, index_twice-refused, index_unfailed-refused, recount-refused, stale_pod_cache-refused, stale_write-refused, suspended_counted-refused, unseen_release-refused}
use Rattle.jc_promise.proofs.WrongSyncFacts.{early_end-refused, false_conflict-refused, forgotten_pod-refused, old_caches-refused, skipped_command-refused, stuck_job-refused, two_syncs-refused}
use Rattle.jc_promise.proofs.WrongCauseFacts.{active_released-refused, failed_makes-refused, index_made_twice-refused, one_too_many-refused, overdue_makes-refused, same_status_written-refused, suspended_makes-refused, wanted_let_go-refused}
use Rattle.jc_promise.proofs.WrongCauseFacts.{wanted_marked-refused}
use Rattle.jc_promise.proofs.WrongRestFacts.{kept_orphan-refused, unmarked_pod-refused, unwritten_end-refused, wrong_status-refused}
use Rattle.jc_promise.proofs.WrongRoomFacts.{left_over_released-refused}
use Rattle.jc_promise.proofs.laws.wrong_histories_are_refused.Goals as goal

pub returns : goal.returns
returns c = record {
  early_release = early_release-refused;
  early_release_unlost = early_release-unlost;
  early_total = early_total-refused;
  stale_pod_cache = stale_pod_cache-refused;
  stale_write = stale_write-refused;
  recount = recount-refused;
  index_twice = index_twice-refused;
  ignored_counted = ignored_counted-refused;
  suspended_counted = suspended_counted-refused;
  early_fail_job = early_fail_job-refused;
  failures_anew = failures_anew-refused;
  index_unfailed = index_unfailed-refused;
  index_past = index_past-refused;
  unseen_release = unseen_release-refused;
  crowded_list = crowded_list-refused;
  finalizer_vanishes = finalizer_vanishes-refused;
  left_over_released = left_over_released-refused;
  old_caches = old_caches-refused;
  two_syncs = two_syncs-refused;
  early_end = early_end-refused;
  false_conflict = false_conflict-refused;
  skipped_command = skipped_command-refused;
  forgotten_pod = forgotten_pod-refused;
  stuck_job = stuck_job-refused;
  suspended_makes = suspended_makes-refused;
  failed_makes = failed_makes-refused;
  overdue_makes = overdue_makes-refused;
  one_too_many = one_too_many-refused;
  index_made_twice = index_made_twice-refused;
  wanted_let_go = wanted_let_go-refused;
  wanted_marked = wanted_marked-refused;
  active_released = active_released-refused;
  same_status_written = same_status_written-refused;
  unmarked_pod = unmarked_pod-refused;
  unwritten_end = unwritten_end-refused;
  kept_orphan = kept_orphan-refused;
  wrong_status = wrong_status-refused;
}
