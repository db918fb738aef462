-- What the plays that are worked out are answered, in order, but to lists and deliveries.
use Rattle.std.specs.Prelude.{◌+◌, List, [], ◌∷◌, Some, None}
use Rattle.jc_types.specs.declared.objects.Kind.TheVariants.{Jobs, Pods}
use Rattle.jc_types.specs.declared.objects.Phase.TheVariants.{Pending, Running, Failed}
use Rattle.jc_types.specs.declared.replies.Answer.TheVariants as answer
use Rattle.jc_types.specs.declared.replies.Field.TheVariants.{Completions}
use Rattle.jc_types.specs.declared.replies.Reply.{Reply}
use Rattle.jc_types.specs.declared.replies.Reply.TheVariants as reply
use Rattle.jc_types.specs.declared.replies.Request.TheVariants as request
use Rattle.jc_history.specs.Samples.{uid_of, version_at, sample_start, job_created, written_at, sync_begun, pod_made, pod_marked, pod_let_go, pod_released, status_written, status_refused}

-- A pod succeeds and is counted.
unfoldable pub one_pod_replies : List Reply
one_pod_replies =
    job_created 1 1 ∷ sync_begun 1 1 ∷ pod_made None 2 2 ∷ status_written 3 ∷ reply.Ended ∷ written_at 4
    ∷ sync_begun 4 4 ∷ status_written 5 ∷ pod_released 2 6 ∷ status_written 7 ∷ reply.Ended ∷ []

-- A restart between the two writes of the status.
unfoldable pub restart_replies : List Reply
restart_replies =
    job_created 1 1 ∷ sync_begun 1 1 ∷ pod_made None 2 2 ∷ status_written 3 ∷ reply.Ended ∷ written_at 4
    ∷ sync_begun 4 4 ∷ status_written 5 ∷ reply.Done ∷ sync_begun 5 5 ∷ pod_released 2 6
    ∷ status_written 7 ∷ reply.Ended ∷ []

-- A begin while the pod cache lags behind.
unfoldable pub lagging_cache_replies : List Reply
lagging_cache_replies =
    job_created 1 1 ∷ sync_begun 1 1 ∷ pod_made None 2 2 ∷ status_written 3 ∷ reply.Ended ∷ written_at 4
    ∷ sync_begun 4 4 ∷ status_written 5 ∷ pod_released 2 6 ∷ status_written 7 ∷ reply.Ended
    ∷ reply.Behind Pods (version_at 7) (version_at 4) ∷ []

-- The Job is updated before the status is written.
unfoldable pub conflict_replies : List Reply
conflict_replies =
    job_created 1 1 ∷ sync_begun 1 1 ∷ pod_made None 2 2 ∷ status_written 3 ∷ reply.Ended ∷ written_at 4
    ∷ sync_begun 4 4 ∷ written_at 5 ∷ status_refused 5 ∷ sync_begun 5 5 ∷ status_written 6
    ∷ pod_released 2 7 ∷ status_written 8 ∷ reply.Ended ∷ []

-- The reply to a write of the status is lost.
unfoldable pub lost_status_replies : List Reply
lost_status_replies =
    job_created 1 1 ∷ sync_begun 1 1 ∷ pod_made None 2 2 ∷ status_written 3 ∷ reply.Ended ∷ written_at 4
    ∷ sync_begun 4 4 ∷ reply.Done ∷ reply.Stepped request.Status answer.Unavailable ∷ sync_begun 5 5
    ∷ pod_released 2 6 ∷ status_written 7 ∷ reply.Ended ∷ []

-- The reply to the creation of a pod is lost.
unfoldable pub lost_creation_replies : List Reply
lost_creation_replies =
    job_created 1 1 ∷ sync_begun 1 1 ∷ reply.Done
    ∷ reply.Stepped (request.CreatePod None) answer.Unavailable ∷ sync_begun 2 2 ∷ status_written 3
    ∷ reply.Ended ∷ []

-- The creation of a pod is not made.
unfoldable pub dropped_creation_replies : List Reply
dropped_creation_replies =
    job_created 1 1 ∷ sync_begun 1 1 ∷ reply.Done
    ∷ reply.Stepped (request.CreatePod None) answer.Unavailable ∷ sync_begun 1 1 ∷ pod_made None 2 2
    ∷ status_written 3 ∷ reply.Ended ∷ []

-- A marked pod exits with 0 once it was judged.
unfoldable pub marked_pod_replies : List Reply
marked_pod_replies =
    job_created 1 1 ∷ sync_begun 1 1 ∷ pod_made None 2 2 ∷ status_written 3 ∷ reply.Ended ∷ written_at 4
    ∷ written_at 5 ∷ sync_begun 5 5 ∷ status_written 6 ∷ written_at 7 ∷ pod_released 2 8
    ∷ status_written 9 ∷ reply.Ended ∷ []

-- A marked pod is replaced once it has failed, and 10 seconds later.
unfoldable pub replacement_replies : List Reply
replacement_replies =
    job_created 1 1 ∷ sync_begun 1 1 ∷ pod_made None 2 2 ∷ status_written 3 ∷ reply.Ended ∷ written_at 4
    ∷ sync_begun 4 4 ∷ status_written 5 ∷ reply.Ended ∷ written_at 6 ∷ sync_begun 6 6 ∷ status_written 7
    ∷ pod_released 2 8 ∷ status_written 9 ∷ reply.Ended ∷ reply.Now (sample_start + 10) ∷ sync_begun 9 9
    ∷ pod_made None 3 10 ∷ status_written 11 ∷ reply.Ended ∷ []

-- Five indexes, of which three succeed first.
unfoldable pub indexes_replies : List Reply
indexes_replies =
    job_created 1 1 ∷ sync_begun 1 1 ∷ pod_made (Some 0) 2 2 ∷ pod_made (Some 1) 3 3
    ∷ pod_made (Some 2) 4 4 ∷ pod_made (Some 3) 5 5 ∷ pod_made (Some 4) 6 6 ∷ status_written 7
    ∷ reply.Ended ∷ written_at 8 ∷ written_at 9 ∷ written_at 10 ∷ sync_begun 10 10 ∷ status_written 11
    ∷ pod_released 3 12 ∷ pod_released 5 13 ∷ pod_released 6 14 ∷ reply.Ended ∷ written_at 15
    ∷ sync_begun 15 15 ∷ status_written 16 ∷ pod_released 4 17 ∷ reply.Ended ∷ []

-- An Indexed Job of five indexes has three, then five again; six are not as many as may run at once.
unfoldable pub elastic_replies : List Reply
elastic_replies =
    job_created 1 1 ∷ sync_begun 1 1 ∷ pod_made (Some 0) 2 2 ∷ pod_made (Some 1) 3 3
    ∷ pod_made (Some 2) 4 4 ∷ pod_made (Some 3) 5 5 ∷ pod_made (Some 4) 6 6 ∷ status_written 7
    ∷ reply.Ended ∷ written_at 8 ∷ written_at 9 ∷ sync_begun 9 9 ∷ status_written 10
    ∷ pod_released 3 11 ∷ pod_released 6 12 ∷ reply.Ended ∷ written_at 13 ∷ sync_begun 13 13
    ∷ pod_let_go 5 14 ∷ pod_marked 5 15 ∷ status_written 16 ∷ reply.Ended ∷ written_at 17
    ∷ sync_begun 17 17 ∷ pod_made (Some 3) 7 18 ∷ pod_made (Some 4) 8 19 ∷ status_written 20
    ∷ reply.Ended ∷ reply.Immutable Completions ∷ []

-- One of two indexes fails, and the other succeeds.
unfoldable pub failed_index_replies : List Reply
failed_index_replies =
    job_created 1 1 ∷ sync_begun 1 1 ∷ pod_made (Some 0) 2 2 ∷ pod_made (Some 1) 3 3 ∷ status_written 4
    ∷ reply.Ended ∷ written_at 5 ∷ written_at 6 ∷ sync_begun 6 6 ∷ status_written 7 ∷ pod_released 2 8
    ∷ pod_released 3 9 ∷ status_written 10 ∷ reply.Ended ∷ []

-- An exit code fails its index, and no index may fail.
unfoldable pub unfailing_replies : List Reply
unfailing_replies =
    job_created 1 1 ∷ sync_begun 1 1 ∷ pod_made (Some 0) 2 2 ∷ status_written 3 ∷ reply.Ended
    ∷ written_at 4 ∷ sync_begun 4 4 ∷ status_written 5 ∷ pod_released 2 6 ∷ status_written 7
    ∷ reply.Ended ∷ []

-- Two controllers make a pod each of one index.
unfoldable pub one_index_twice_replies : List Reply
one_index_twice_replies =
    job_created 1 1 ∷ sync_begun 1 1 ∷ sync_begun 1 1 ∷ pod_made (Some 0) 2 2 ∷ pod_made (Some 0) 3 3
    ∷ status_written 4 ∷ status_refused 4 ∷ reply.Ended ∷ written_at 5 ∷ written_at 6 ∷ sync_begun 6 6
    ∷ status_written 7 ∷ pod_released 2 8 ∷ pod_released 3 9 ∷ status_written 10 ∷ reply.Ended ∷ []

-- The first failure is over the limit.
unfoldable pub backoff_limit_replies : List Reply
backoff_limit_replies =
    job_created 1 1 ∷ sync_begun 1 1 ∷ pod_made None 2 2 ∷ status_written 3 ∷ reply.Ended ∷ written_at 4
    ∷ sync_begun 4 4 ∷ status_written 5 ∷ pod_released 2 6 ∷ status_written 7 ∷ reply.Ended ∷ []

-- An exit code fails the Job by its policy.
unfoldable pub failing_exit_replies : List Reply
failing_exit_replies =
    job_created 1 1 ∷ sync_begun 1 1 ∷ pod_made None 2 2 ∷ status_written 3 ∷ reply.Ended ∷ written_at 4
    ∷ sync_begun 4 4 ∷ status_written 5 ∷ pod_released 2 6 ∷ status_written 7 ∷ reply.Ended ∷ []

-- The deadline has passed when the success policy is met.
unfoldable pub deadline_replies : List Reply
deadline_replies =
    job_created 1 1 ∷ sync_begun 1 1 ∷ pod_made (Some 0) 2 2 ∷ pod_made (Some 1) 3 3
    ∷ pod_made (Some 2) 4 4 ∷ status_written 5 ∷ reply.Ended ∷ written_at 6 ∷ written_at 7
    ∷ reply.Now (sample_start + 60) ∷ sync_begun 7 7 ∷ pod_marked 4 8 ∷ status_written 9
    ∷ pod_released 2 10 ∷ pod_released 3 11 ∷ reply.Ended ∷ written_at 12 ∷ sync_begun 12 12
    ∷ status_written 13 ∷ pod_released 4 14 ∷ status_written 15 ∷ reply.Ended ∷ []

-- A pod finishes before it is let go.
unfoldable pub late_let_go_replies : List Reply
late_let_go_replies =
    job_created 1 1 ∷ sync_begun 1 1 ∷ pod_made None 2 2 ∷ pod_made None 3 3 ∷ status_written 4
    ∷ reply.Ended ∷ written_at 5 ∷ sync_begun 5 5 ∷ written_at 6
    ∷ reply.Stepped (request.LetGo (uid_of 3)) (answer.Conflict (version_at 6)) ∷ status_written 7
    ∷ reply.Ended ∷ sync_begun 7 7 ∷ status_written 8 ∷ pod_released 3 9 ∷ status_written 10
    ∷ reply.Ended ∷ []

-- A Job is deleted and made again under its name.
unfoldable pub made_again_replies : List Reply
made_again_replies =
    job_created 1 1 ∷ sync_begun 1 1 ∷ pod_made None 2 2 ∷ status_written 3 ∷ reply.Ended
    ∷ reply.Removed (version_at 4) ∷ job_created 3 5 ∷ sync_begun 5 5 ∷ pod_made None 4 6
    ∷ status_written 7 ∷ pod_released 2 8 ∷ reply.Ended
    ∷ reply.Behind Jobs (version_at 3) (version_at 1) ∷ sync_begun 4 8 ∷ reply.Ended ∷ []

-- A container restarts more often than the limit allows.
unfoldable pub restarted_container_replies : List Reply
restarted_container_replies =
    job_created 1 1 ∷ sync_begun 1 1 ∷ pod_made None 2 2 ∷ status_written 3 ∷ reply.Ended ∷ written_at 4
    ∷ sync_begun 4 4 ∷ pod_marked 2 5 ∷ status_written 6 ∷ reply.Ended
    ∷ reply.NodeDone (uid_of 2) Failed (version_at 7) ∷ sync_begun 7 7 ∷ status_written 8
    ∷ pod_released 2 9 ∷ status_written 10 ∷ reply.Ended ∷ []

-- A suspended Job is resumed 30 seconds later.
unfoldable pub suspension_replies : List Reply
suspension_replies =
    job_created 1 1 ∷ sync_begun 1 1 ∷ status_written 2 ∷ reply.Ended ∷ written_at 3
    ∷ reply.Now (sample_start + 30) ∷ sync_begun 3 3 ∷ pod_made None 2 4 ∷ status_written 5
    ∷ reply.Ended ∷ []

-- A cache falls out of the window of two versions.
unfoldable pub window_replies : List Reply
window_replies =
    job_created 1 1 ∷ job_created 2 2 ∷ job_created 3 3 ∷ reply.Expired (version_at 1) ∷ reply.NotSynced
    ∷ reply.NotSynced ∷ reply.Idle ∷ []

-- What the store refuses.
unfoldable pub refusals_replies : List Reply
refusals_replies =
    job_created 1 1 ∷ reply.AlreadyExists ∷ reply.NotFound ∷ reply.Conflict (version_at 1)
    ∷ reply.Unchanged (version_at 1) ∷ reply.Immutable Completions ∷ reply.NotFound ∷ sync_begun 1 1
    ∷ pod_made None 2 2 ∷ status_written 3 ∷ reply.Ended ∷ reply.NotFound ∷ written_at 4
    ∷ reply.BadStep Running Pending ∷ reply.NoContainer (120 ∷ []) ∷ written_at 5
    ∷ reply.Unchanged (version_at 5) ∷ reply.Released (version_at 6) ∷ reply.NotTracked ∷ written_at 7
    ∷ reply.NotFound ∷ sync_begun 7 7 ∷ pod_made None 3 8 ∷ reply.Ended ∷ reply.NoKey ∷ []
