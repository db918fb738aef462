-- Without a policy, or where no rule of it fails the Job, no pod does.
use Rattle.std.proofs.Common.{ap, sym, ◌∙◌}
use Rattle.jc_types.specs.declared.specifications.JobSpec.{JobSpec}
use Rattle.jc_states.specs.Bases.{own_pods}
use Rattle.jc_finish.proofs.DecisionFacts.{failing-mildly, failing-without}
use Rattle.jc_finish.proofs.decision.is_failed_by_pod.Goals as goal

pub returns-in-None : goal.returns-in-None
returns-in-None c =
    let job = c.args.job.now in
    sym (failing-without job.spec (own_pods job c.args.pods.now) (ap (λ (spec : JobSpec). spec.failure) (sym c.deref.ensures) ∙ c.in-None.is))

pub returns-else-has_fatal_rule : goal.returns-else-has_fatal_rule
returns-else-has_fatal_rule c =
    let job = c.args.job.now in
    c.if-has_fatal_rule.false
    ∙ sym (failing-mildly job.spec c.in-Some.policy (own_pods job c.args.pods.now) (ap (λ (spec : JobSpec). spec.failure) (sym c.deref.ensures) ∙ c.in-Some.is)
    (sym c.has_fatal_rule.ensures ∙ c.if-has_fatal_rule.false))
