-- What a pod of a Job has come to (KEP-2307, KEP-3329, KEP-3939).
--     is_succeeded phase, is_failed phase     the phase
--     counts_marked replacement               a pod that is marked counts as failed at once
--     has_ended_badly replacement pod         the pod has failed, or counts as failed already
--     failure_of failure pod                  what a failed pod has come to
--     judged replacement failure pod          what the pod has come to, by the two policies
--     outcome_of spec pod                     what the pod has come to
--     same_outcome a b                        the outcomes are the same
--     is_verdict outcome                      Succeeded or Failed
use Rattle.std.specs.Prelude.{ℕ, ◌==◌, Bool, true, false, ◌&&◌, ◌||◌, if◌then◌else◌, Option, Some, None}
use Rattle.jc_types.specs.declared.objects.Phase.{Phase}
use Rattle.jc_types.specs.declared.objects.Phase.TheVariants as phase
use Rattle.jc_types.specs.declared.objects.Pod.{Pod}
use Rattle.jc_types.specs.declared.policies.Action.{Action}
use Rattle.jc_types.specs.declared.policies.Action.TheVariants as action
use Rattle.jc_types.specs.declared.policies.FailurePolicy.{FailurePolicy}
use Rattle.jc_types.specs.declared.specifications.JobSpec.{JobSpec}
use Rattle.jc_types.specs.declared.specifications.Replacement.{Replacement}
use Rattle.jc_types.specs.declared.specifications.Replacement.TheVariants.{TerminatingOrFailed, FailedOnly}
use Rattle.jc_states.specs.Pods.{is_marked}
use Rattle.jc_failpol.specs.declared.outcomes.Outcome.{Outcome}
use Rattle.jc_failpol.specs.declared.outcomes.Outcome.TheVariants.{Alive, Succeeded, Failed, Ignored}
use Rattle.jc_failpol.specs.Rules.{action_of}

-- The phase Succeeded.
abbrev pub is_succeeded : Phase → Bool
is_succeeded phase.Pending = false
is_succeeded phase.Running = false
is_succeeded phase.Succeeded = true
is_succeeded phase.Failed = false

-- The phase Failed.
abbrev pub is_failed : Phase → Bool
is_failed phase.Pending = false
is_failed phase.Running = false
is_failed phase.Succeeded = false
is_failed phase.Failed = true

-- A pod that is marked for deletion counts as failed at once.
abbrev pub counts_marked : Replacement → Bool
counts_marked TerminatingOrFailed = true
counts_marked FailedOnly = false

-- The phase is Failed, or the pod is marked and that counts as failed.
abbrev pub has_ended_badly : Replacement → Pod → Bool
has_ended_badly replacement pod = is_failed pod.phase || (counts_marked replacement && is_marked pod)

-- The action Ignore.
abbrev pub is_ignore : Action → Bool
is_ignore action.FailJob = false
is_ignore action.Ignore = true
is_ignore action.Count = false
is_ignore action.FailIndex = false

-- A failed pod is Ignored where the failure policy says so, and else Failed.
abbrev pub failure_of : Option FailurePolicy → Pod → Outcome
failure_of None pod = Failed
failure_of (Some policy) pod = if is_ignore (action_of policy pod) then Ignored else Failed

-- What the pod has come to, by the replacement policy and the failure policy.
abbrev pub judged : Replacement → Option FailurePolicy → Pod → Outcome
judged replacement failure pod =
    if is_succeeded pod.phase then Succeeded
    else if has_ended_badly replacement pod then failure_of failure pod
    else Alive

-- What the pod has come to.
abbrev pub outcome_of : JobSpec → Pod → Outcome
outcome_of spec pod = judged spec.replacement spec.failure pod

-- The place of an outcome among the outcomes.
abbrev pub outcome_place : Outcome → ℕ
outcome_place Alive = 0
outcome_place Succeeded = 1
outcome_place Failed = 2
outcome_place Ignored = 3

-- The outcomes are the same.
abbrev pub same_outcome : Outcome → Outcome → Bool
same_outcome a b = outcome_place a == outcome_place b

-- Succeeded or Failed: what a pod is judged.
abbrev pub is_verdict : Outcome → Bool
is_verdict outcome = same_outcome outcome Succeeded || same_outcome outcome Failed
