-- Histories of machines whose caches, queue or syncs are wrong. Of each the deeds alone are given: what a
-- begin tells is read as it stands, and the log is what the requests then make.
--     both_listed        both caches are listed
--     old_caches         a controller goes on with its caches after a request that was not answered
--     two_syncs          a second worker begins with a key whose sync goes on
--     false_conflict     a write of the status is refused at the version that it sent
--     forgotten_pod      a sync begins on what the caches held before they were told of an ended pod
--     stuck_job          a sync begins on what the caches held before they were listed
use Rattle.std.specs.Prelude.{ℕ, List, [], ◌∷◌, None}
use Rattle.jc_log.specs.Acts as does
use Rattle.jc_types.specs.declared.actions.Fault.TheVariants.{Lose}
use Rattle.jc_types.specs.declared.objects.Kind.{Kind}
use Rattle.jc_types.specs.declared.objects.Kind.TheVariants.{Jobs, Pods}
use Rattle.jc_types.specs.declared.replies.Answer.TheVariants.{Unavailable}
use Rattle.jc_types.specs.declared.replies.Reply.TheVariants as reply
use Rattle.jc_types.specs.declared.replies.Request.TheVariants.{CreatePod}
use Rattle.jc_types.specs.declared.runs.Shape.{Shape}
use Rattle.jc_log.specs.Deeds.{Deed}
use Rattle.jc_history.specs.Samples.{pod_made, sample_spec, status_refused, status_written, sync_begun, usual_shape, version_at}
use Rattle.jc_promise.specs.Wrong.{sync_begins, done, pod_exits, job_is_made, sync_steps}

-- A cache is listed, where the log has so many entries.
abbrev pub cache_lists : Kind → ℕ → Deed
cache_lists kind length = done (does.List 0 kind) (reply.Listed (version_at length)) length

-- A cache is told of the entry of the version.
abbrev pub cache_is_told : Kind → ℕ → ℕ → Deed
cache_is_told kind version length = done (does.Deliver 0 kind) (reply.Delivered (version_at version)) length

-- The Job is made, and both caches are listed.
abbrev pub both_listed : List Deed
both_listed = cache_lists Pods 1 ∷ cache_lists Jobs 1 ∷ job_is_made sample_spec ∷ []

-- The reply to the creation of the pod is lost. The next sync begins with the caches as they were, so that
-- it does not see the pod and makes another one.
abbrev pub old_caches : List Deed
old_caches =
    sync_steps (pod_made None 3 3) 3 ∷ sync_begins 1 1 2
    ∷ sync_steps (reply.Stepped (CreatePod None) Unavailable) 2
    ∷ done (does.PutFault 0 0 Lose) reply.Done 1 ∷ sync_begins 1 1 1 ∷ both_listed

-- One controller with two workers.
abbrev pub two_workers : Shape
two_workers = record usual_shape { workers = 2 }

-- Both workers sync the Job at once, and each makes its pod.
abbrev pub two_syncs : List Deed
two_syncs =
    done (does.Step 0 1) (pod_made None 3 3) 3 ∷ sync_steps (pod_made None 2 2) 2
    ∷ done (does.Begin 0 1) (sync_begun 1 1) 1 ∷ sync_begins 1 1 1 ∷ both_listed

-- The store refuses the first status, and tells as the current version that of the Job as the sync saw it.
abbrev pub false_conflict : List Deed
false_conflict =
    sync_steps (status_refused 1) 2 ∷ sync_steps (pod_made None 2 2) 2 ∷ sync_begins 1 1 1 ∷ both_listed

-- A pod is made and succeeds, and both caches are told. The sync that begins then sees them as they were
-- before, finds nothing to ask, and ends; and nothing is left to do.
abbrev pub forgotten_pod : List Deed
forgotten_pod =
    sync_steps reply.Ended 4 ∷ sync_begins 3 3 4
    ∷ cache_is_told Pods 4 4 ∷ cache_is_told Pods 3 4 ∷ cache_is_told Pods 2 4 ∷ cache_is_told Jobs 4 4 ∷ cache_is_told Jobs 3 4 ∷ cache_is_told Jobs 2 4
    ∷ pod_exits 2 0 4 ∷ sync_steps reply.Ended 3 ∷ sync_steps (status_written 3) 3 ∷ sync_steps (pod_made None 2 2) 2
    ∷ sync_begins 1 1 1 ∷ both_listed

-- The sync that begins once both caches are listed sees them as they were before, and so no Job. It asks for
-- nothing, and ends; and nothing is left to do.
abbrev pub stuck_job : List Deed
stuck_job = sync_steps reply.Ended 1 ∷ sync_begins 0 0 1 ∷ both_listed
