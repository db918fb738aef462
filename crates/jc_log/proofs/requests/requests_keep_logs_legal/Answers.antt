-- The lemmas on what requests append.
use Rattle.jc_log.specs.Requests.{create_job_gives, create_pod_gives, delete_job_gives, let_go_gives, mark_pod_gives, release_gives, report_phase_gives, update_spec_gives, write_status_gives}
use Rattle.jc_log.proofs.WriteFacts.{Stored-from_legal}
use Rattle.jc_log.proofs.RequestFacts.{create_job-allowed, create_pod-allowed, delete_job-allowed, let_go-allowed, mark_pod-allowed, release-allowed, report_phase-allowed, update_spec-allowed, write_status-allowed, stays_legal}
use Rattle.jc_log.proofs.requests.requests_keep_logs_legal.Goals as goal

pub returns : goal.returns
returns c = record {
  create_job =
      λ log legal key spec now. stays_legal log legal (create_job_gives log key spec now)
      (create_job-allowed log (Stored-from_legal log legal) key spec now);
  update_spec =
      λ log legal key version change. stays_legal log legal (update_spec_gives log key version change)
      (update_spec-allowed log (Stored-from_legal log legal) key version change);
  write_status =
      λ log legal key uid version status. stays_legal log legal (write_status_gives log key uid version status)
      (write_status-allowed log (Stored-from_legal log legal) key uid version status);
  delete_job =
      λ log legal key. stays_legal log legal (delete_job_gives log key)
      (delete_job-allowed log (Stored-from_legal log legal) key);
  create_pod =
      λ log legal owner index now put. stays_legal log legal (create_pod_gives log owner index now)
      (create_pod-allowed log (Stored-from_legal log legal) owner index now put);
  mark_pod =
      λ log legal pod now. stays_legal log legal (mark_pod_gives log pod now)
      (mark_pod-allowed log (Stored-from_legal log legal) pod now);
  release =
      λ log legal pod. stays_legal log legal (release_gives log pod)
      (release-allowed log (Stored-from_legal log legal) pod);
  let_go =
      λ log legal pod version. stays_legal log legal (let_go_gives log pod version)
      (let_go-allowed log (Stored-from_legal log legal) pod version);
  report_phase =
      λ log legal pod change. stays_legal log legal (report_phase_gives log pod change)
      (report_phase-allowed log (Stored-from_legal log legal) pod change);
}
