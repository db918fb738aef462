-- Which failed pods fail their Job at once (KEP-3329).
--     is_fail_job action               the action FailJob
--     policy_fails_job failure pod     the failure policy, where there is one, fails the Job for the pod
--     fails_job spec pod               the pod has failed, and the failure policy then fails the Job
use Rattle.std.specs.Prelude.{Bool, true, false, ◌&&◌, Option, Some, None}
use Rattle.jc_types.specs.declared.objects.Pod.{Pod}
use Rattle.jc_types.specs.declared.policies.Action.{Action}
use Rattle.jc_types.specs.declared.policies.Action.TheVariants.{FailJob, Ignore, Count, FailIndex}
use Rattle.jc_types.specs.declared.policies.FailurePolicy.{FailurePolicy}
use Rattle.jc_types.specs.declared.specifications.JobSpec.{JobSpec}
use Rattle.jc_failpol.specs.declared.outcomes.Outcome.{Outcome}
use Rattle.jc_failpol.specs.declared.outcomes.Outcome.TheVariants as outcome
use Rattle.jc_failpol.specs.Outcomes.{outcome_of}
use Rattle.jc_failpol.specs.Rules.{action_of}

-- The outcome Failed.
abbrev pub is_failure : Outcome → Bool
is_failure outcome.Alive = false
is_failure outcome.Succeeded = false
is_failure outcome.Failed = true
is_failure outcome.Ignored = false

-- The action FailJob.
abbrev pub is_fail_job : Action → Bool
is_fail_job FailJob = true
is_fail_job Ignore = false
is_fail_job Count = false
is_fail_job FailIndex = false

-- The failure policy, where there is one, fails the Job for the pod.
abbrev pub policy_fails_job : Option FailurePolicy → Pod → Bool
policy_fails_job None pod = false
policy_fails_job (Some policy) pod = is_fail_job (action_of policy pod)

-- The pod has failed, and the failure policy then fails the Job.
abbrev pub fails_job : JobSpec → Pod → Bool
fails_job spec pod = is_failure (outcome_of spec pod) && policy_fails_job spec.failure pod
