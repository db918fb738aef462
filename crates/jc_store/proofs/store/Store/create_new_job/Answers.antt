use Rattle.std.proofs.Common.{ap, ◌∙◌}
use Rattle.jc_store.proofs.store.Store.create_new_job.Goals as goal

pub make_job-requires-clause-new_job : goal.make_job-requires-clause-new_job
make_job-requires-clause-new_job c = record {
  uid = ap (λ j. j.uid.0) c.in_ok-job.ensures ∙ ap (λ u. u.0) c.next_uid-uid.ensures;
  status = ap (λ j. j.status) c.in_ok-job.ensures;
}
