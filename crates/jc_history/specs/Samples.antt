-- Sample objects, commands and replies, of which the plays that are worked out consist.
--     pi_key, key_named name                         keys of the one namespace of the samples
--     sample_spec                                    a specification: one pod, one success
--     failing_spec                                   one that fails its Job on exit code 42 of a container
--     succeeding_spec                                an Indexed one with a deadline and a success policy
--     restarting_spec                                one whose pods restart their container
--     ignoring_spec                                  one that does not count disrupted pods
--     limited_spec                                   an Indexed one with a limit for each index
--     sample_script actions                          a script of one lane
--     usual_shape, two_controllers, narrow_window    the shapes
--     told_replies script shape                      what the play was answered, but to lists and deliveries
--     told_counts, told_conditions, told_indexes     the status of `d/pi` afterwards
--     told_failed                                    what that status says of failed indexes
--     told_verdicts script shape uid                 what the ledger has then judged of the Job
use Rattle.std.specs.Prelude.{ℕ, pos, Bool, true, false, List, [], ◌∷◌, map, filter, Option, Some, None}
use Rattle.std.specs.Option.{option_map}
use Rattle.jc_types.specs.declared.actions.Action1.{Action1}
use Rattle.jc_types.specs.declared.actions.ContainerChange.{ContainerChange}
use Rattle.jc_types.specs.declared.actions.End.{End}
use Rattle.jc_types.specs.declared.actions.PhaseChange.{PhaseChange}
use Rattle.jc_types.specs.declared.actions.Script.{Script}
use Rattle.jc_types.specs.declared.actions.SpecChange.{SpecChange}
use Rattle.jc_types.specs.declared.numbers.Uid.{Uid}
use Rattle.jc_types.specs.declared.numbers.Version.{Version}
use Rattle.jc_types.specs.declared.objects.Job.{Job}
use Rattle.jc_types.specs.declared.objects.KeyNames.{KeyNames as Key}
use Rattle.jc_types.specs.declared.objects.Phase.{Phase}
use Rattle.jc_types.specs.declared.policies.Action.TheVariants.{FailIndex, FailJob, Ignore}
use Rattle.jc_types.specs.declared.policies.Operator.TheVariants.{Within}
use Rattle.jc_types.specs.declared.policies.Requirement.TheVariants.{Conditions, ExitCodes}
use Rattle.jc_types.specs.declared.policies.Truth.TheVariants.{True}
use Rattle.jc_types.specs.declared.replies.Answer.TheVariants as answer
use Rattle.jc_types.specs.declared.replies.Reply.{Reply}
use Rattle.jc_types.specs.declared.replies.Reply.TheVariants as reply
use Rattle.jc_types.specs.declared.replies.Request.TheVariants as request
use Rattle.jc_types.specs.declared.runs.Past.{Past}
use Rattle.jc_types.specs.declared.runs.Shape.{Shape}
use Rattle.jc_types.specs.declared.specifications.JobSpec.{JobSpec}
use Rattle.jc_types.specs.declared.specifications.Mode.TheVariants.{NonIndexed, Indexed}
use Rattle.jc_types.specs.declared.specifications.Replacement.TheVariants.{TerminatingOrFailed, FailedOnly}
use Rattle.jc_types.specs.declared.specifications.Restart.TheVariants.{Never, OnFailure}
use Rattle.jc_types.specs.declared.statuses.CondKind.{CondKind}
use Rattle.jc_types.specs.declared.statuses.Condition.{Condition}
use Rattle.jc_types.specs.declared.statuses.IndexCount.{IndexCount}
use Rattle.jc_types.specs.declared.statuses.Reason.{Reason}
use Rattle.jc_log.specs.Log.{job_in}
use Rattle.jc_ledger.specs.Ledger.{ledger_of}
use Rattle.jc_ledger.specs.Ledger.{verdicts_of}
use Rattle.jc_ledger.specs.declared.counts.Verdicts.{Verdicts}
use Rattle.jc_history.specs.Play.{deeds_played, play_of, whole_play}

-- ---- objects

abbrev pub uid_of : ℕ → Uid
uid_of n = record { 0 = n }

abbrev pub version_at : ℕ → Version
version_at n = record { 0 = n }

-- A key of the namespace `d`.
abbrev pub key_named : List ℕ → Key
key_named name = record { namespace = 100 ∷ []; name = name }

-- The key `d/pi`.
abbrev pub pi_key : Key
pi_key = key_named (112 ∷ 105 ∷ [])

-- The containers' names `m` and `s`.
abbrev pub main_name : List ℕ
main_name = 109 ∷ []

abbrev pub side_name : List ℕ
side_name = 115 ∷ []

-- One pod, and one success.
abbrev pub sample_spec : JobSpec
sample_spec = record {
  parallelism = 1;
  completions = Some 1;
  mode = NonIndexed;
  suspend = false;
  backoff_limit = 6;
  per_index = None;
  max_failed = None;
  deadline = None;
  replacement = TerminatingOrFailed;
  failure = None;
  success = None;
  template = record { restart = Never; containers = main_name ∷ []; inits = [] };
}

-- Exit code 42 of a container fails the Job.
abbrev pub failing_spec : JobSpec
failing_spec = record sample_spec {
  replacement = FailedOnly;
  failure = Some (record {
    rules = record { action = FailJob; requirement = ExitCodes None Within (pos 42 ∷ []) } ∷ [];
  });
  template = record { restart = Never; containers = main_name ∷ side_name ∷ []; inits = [] };
}

-- Two successes of three indexes are enough, within 60 seconds.
abbrev pub succeeding_spec : JobSpec
succeeding_spec = record sample_spec {
  parallelism = 3;
  completions = Some 3;
  mode = Indexed;
  deadline = Some 60;
  success = Some (record { rules = record { indexes = Some (0 ∷ 1 ∷ 2 ∷ []); count = Some 2 } ∷ [] });
}

-- It restarts its container when that fails, and twice at most.
abbrev pub restarting_spec : JobSpec
restarting_spec = record sample_spec {
  backoff_limit = 2;
  template = record { restart = OnFailure; containers = main_name ∷ []; inits = [] };
}

-- A pod that is disrupted does not count: the condition `DisruptionTarget` is ignored.
abbrev pub disruption : List ℕ
disruption = 68 ∷ 105 ∷ 115 ∷ 114 ∷ 117 ∷ 112 ∷ 116 ∷ 105 ∷ 111 ∷ 110 ∷ 84 ∷ 97 ∷ 114 ∷ 103 ∷ 101 ∷ 116 ∷ []

abbrev pub ignoring_spec : JobSpec
ignoring_spec = record sample_spec {
  replacement = FailedOnly;
  failure = Some (record {
    rules = record {
      action = Ignore;
      requirement = Conditions (record { kind = disruption; truth = True } ∷ []);
    } ∷ [];
  });
}

-- Two indexes, each with a limit of its own.
abbrev pub limited_spec : ℕ → JobSpec
limited_spec limit = record sample_spec {
  parallelism = 2;
  completions = Some 2;
  mode = Indexed;
  per_index = Some limit;
}

-- Exit code 3 fails the index of the pod, and no index may fail.
abbrev pub unfailing_spec : JobSpec
unfailing_spec = record (limited_spec 1) {
  parallelism = 1;
  max_failed = Some 0;
  failure = Some (record {
    rules = record { action = FailIndex; requirement = ExitCodes None Within (pos 3 ∷ []) } ∷ [];
  });
}

-- A pod exits with 0.
abbrev pub good_end : End
good_end = record { exit = pos 0; restarts = 0; condition = None }

-- A pod is disrupted.
abbrev pub disrupted_end : End
disrupted_end = record { exit = pos 143; restarts = 0; condition = Some disruption }

-- ---- commands

abbrev pub no_change : SpecChange
no_change = record { parallelism = None; completions = None; suspend = None; deadline = None; backoff_limit = None }

abbrev pub phase_change : Phase → List ContainerChange → PhaseChange
phase_change phase containers = record { phase = phase; containers = containers; conditions = [] }

-- A container that exits with the code.
abbrev pub exited : List ℕ → ℕ → ContainerChange
exited name code = record { name = name; exit = Some (pos code); restarts = None }

abbrev pub exited_main : ℕ → ContainerChange
exited_main code = exited main_name code

abbrev pub exited_side : ℕ → ContainerChange
exited_side code = exited side_name code

-- The main container was restarted so often.
abbrev pub restarted_main : ℕ → ContainerChange
restarted_main times = record { name = main_name; exit = None; restarts = Some times }

-- A script of one lane.
abbrev pub sample_script : List Action1 → Script
sample_script actions = record { commands = map (λ (action : Action1). record { lane = 0; action = action }) actions }

-- The first second of 2024.
abbrev pub sample_start : ℕ
sample_start = 1704067200

-- So many controllers with one worker each, such a window, and so many events at most.
abbrev pub sample_shape : ℕ → ℕ → ℕ → Shape
sample_shape controllers window events =
    record { controllers = controllers; workers = 1; window = window; events = events; start = sample_start }

-- One controller that sees all versions, two of them, and one that sees the last two.
abbrev pub usual_shape : Shape
usual_shape = sample_shape 1 1000 80

abbrev pub two_controllers : Shape
two_controllers = sample_shape 2 1000 80

abbrev pub narrow_window : Shape
narrow_window = sample_shape 1 2 80

-- ---- replies

abbrev pub job_created : ℕ → ℕ → Reply
job_created uid version = reply.Created (uid_of uid) (version_at version)

abbrev pub written_at : ℕ → Reply
written_at version = reply.Written (version_at version)

-- A sync of `d/pi` begins, with the caches at these versions.
abbrev pub sync_begun : ℕ → ℕ → Reply
sync_begun jobs_at pods_at = reply.Begun pi_key (version_at jobs_at) (version_at pods_at)

abbrev pub pod_made : Option ℕ → ℕ → ℕ → Reply
pod_made index uid version = reply.Stepped (request.CreatePod index) (answer.Created (uid_of uid) (version_at version))

abbrev pub pod_marked : ℕ → ℕ → Reply
pod_marked uid version = reply.Stepped (request.MarkPod (uid_of uid)) (answer.Written (version_at version))

abbrev pub pod_let_go : ℕ → ℕ → Reply
pod_let_go uid version = reply.Stepped (request.LetGo (uid_of uid)) (answer.Released (version_at version))

abbrev pub pod_released : ℕ → ℕ → Reply
pod_released uid version = reply.Stepped (request.Release (uid_of uid)) (answer.Released (version_at version))

abbrev pub status_written : ℕ → Reply
status_written version = reply.Stepped request.Status (answer.Written (version_at version))

abbrev pub status_refused : ℕ → Reply
status_refused version = reply.Stepped request.Status (answer.Conflict (version_at version))

-- ---- what a play told

-- The reply is neither that of a list nor that of a delivery.
abbrev pub is_told : Reply → Bool
is_told (reply.Listed at) = false
is_told (reply.Delivered version) = false
is_told other = true

-- What the play was answered, in order, but to lists and deliveries.
abbrev pub told_replies : Script → Shape → List Reply
told_replies script shape = filter is_told (map (λ (past : Past). past.reply) (play_of script shape))

-- How many pods of `d/pi` succeeded and failed, as its status has it afterwards.
abbrev pub told_counts : Script → Shape → Option (ℕ × ℕ)
told_counts script shape =
    option_map (λ (job : Job). (job.status.succeeded, job.status.failed)) (job_in pi_key (whole_play script shape).log)

-- Its conditions: of each the type, whether it is true, and the reason.
abbrev pub told_conditions : Script → Shape → Option (List (CondKind × Bool × Reason))
told_conditions script shape =
    option_map (λ (job : Job). map (λ (c : Condition). (c.kind, c.status, c.reason)) job.status.conditions)
    (job_in pi_key (whole_play script shape).log)

-- A target and its end, both true and for the same reason.
abbrev pub both_true : CondKind → CondKind → Reason → List (CondKind × Bool × Reason)
both_true target end reason = (target, true, reason) ∷ (end, true, reason) ∷ []

-- The indexes that its status has as completed.
abbrev pub told_indexes : Script → Shape → Option (List ℕ)
told_indexes script shape =
    option_map (λ (job : Job). job.status.completed) (job_in pi_key (whole_play script shape).log)

-- The indexes that its status has as failed, and the failures of each index.
abbrev pub told_failed : Script → Shape → Option (List ℕ × List IndexCount)
told_failed script shape =
    option_map (λ (job : Job). (job.status.failed_indexes, job.status.index_failures))
    (job_in pi_key (whole_play script shape).log)

-- An index has failed once, and by the failure policy or not.
abbrev pub failed_once : ℕ → Bool → IndexCount
failed_once n fail = record { index = n; failures = 1; fail = fail }

-- What the ledger has judged of the Job of the UID: successes, failures and indexes.
abbrev pub told_verdicts : Script → Shape → ℕ → Verdicts
told_verdicts script shape uid =
    verdicts_of (ledger_of (uid_of uid) (deeds_played script (whole_play script shape)) (whole_play script shape).log)

abbrev pub verdict_counts : ℕ → ℕ → ℕ → Verdicts
verdict_counts succeeded failed indexes = record { succeeded = succeeded; failed = failed; indexes = indexes }
