use Rattle.std.proofs.Common.{Some, ap, ◌∙◌}
use Rattle.jc_log.proofs.StepFacts.{ends_from_job, version_step}
use Rattle.jc_store.proofs.store.Store.delete_job.Goals as goal

pub end_job-requires-clause-end : goal.end_job-requires-clause-end
end_job-requires-clause-end c =
    ends_from_job c.args.key.now c.args.self.now c.deref.result.now c.in_ok-gone.gone (ap Some c.deref.ensures ∙ c.in-Some.ensures)
    (version_step c.deref.result.now c.in_ok-version.version c.in_ok-gone.gone c.in_ok-gone.ensures)
    (ap (λ j. j.spec) c.in_ok-gone.ensures) (ap (λ j. j.status) c.in_ok-gone.ensures)
