-- The lemmas on what requests append.
use Rattle.jc_log.proofs.RequestFacts.{create_job-stored, create_pod-stored, delete_job-stored, let_go-stored, mark_pod-stored, release-stored, report_phase-stored, update_spec-stored, write_status-stored}
use Rattle.jc_log.proofs.requests.requests_are_writes.Goals as goal

pub returns : goal.returns
returns c = record {
  create_job = create_job-stored;
  update_spec = update_spec-stored;
  write_status = write_status-stored;
  delete_job = delete_job-stored;
  create_pod = create_pod-stored;
  mark_pod = mark_pod-stored;
  release = release-stored;
  let_go = let_go-stored;
  report_phase = report_phase-stored;
}
