-- The scripts of the plays that are worked out.
use Rattle.std.specs.Prelude.{pos, true, false, [], ◌∷◌, Some, None}
use Rattle.jc_types.specs.declared.actions.Action1.TheVariants as act
use Rattle.jc_types.specs.declared.actions.Fault.TheVariants as fault
use Rattle.jc_types.specs.declared.actions.Script.{Script}
use Rattle.jc_types.specs.declared.objects.Kind.TheVariants.{Jobs, Pods}
use Rattle.jc_types.specs.declared.objects.Phase.TheVariants.{Pending, Running, Failed}
use Rattle.jc_types.specs.declared.specifications.Mode.TheVariants.{Indexed}
use Rattle.jc_types.specs.declared.specifications.Replacement.TheVariants.{FailedOnly}
use Rattle.jc_history.specs.Samples.{disrupted_end, ignoring_spec, limited_spec, unfailing_spec, good_end, restarting_spec, uid_of, version_at, key_named, pi_key, sample_spec, failing_spec, succeeding_spec, no_change, phase_change, exited}
use Rattle.jc_history.specs.Samples.{exited_main, exited_side, restarted_main, sample_script}

-- A pod succeeds and is counted.
unfoldable pub one_pod_script : Script
one_pod_script =
    sample_script (act.Create pi_key sample_spec ∷ act.Sync 0 0 ∷ act.Finish (uid_of 2) (pos 0)
    ∷ act.Sync 0 0 ∷ [])

-- A restart between the two writes of the status.
unfoldable pub restart_script : Script
restart_script =
    sample_script (act.Create pi_key sample_spec ∷ act.Sync 0 0 ∷ act.Finish (uid_of 2) (pos 0)
    ∷ act.Deliver 0 Jobs ∷ act.Deliver 0 Jobs ∷ act.Deliver 0 Jobs ∷ act.Deliver 0 Pods
    ∷ act.Deliver 0 Pods ∷ act.Deliver 0 Pods ∷ act.Begin 0 0 ∷ act.Step 0 0 ∷ act.Restart 0
    ∷ act.Sync 0 0 ∷ [])

-- A begin while the pod cache lags behind.
unfoldable pub lagging_cache_script : Script
lagging_cache_script =
    sample_script (act.Create pi_key sample_spec ∷ act.Sync 0 0 ∷ act.Finish (uid_of 2) (pos 0)
    ∷ act.Sync 0 0 ∷ act.Deliver 0 Jobs ∷ act.Deliver 0 Jobs ∷ act.Deliver 0 Jobs ∷ act.Begin 0 0 ∷ [])

-- The Job is updated before the status is written.
unfoldable pub conflict_script : Script
conflict_script =
    sample_script (act.Create pi_key sample_spec ∷ act.Sync 0 0 ∷ act.Finish (uid_of 2) (pos 0)
    ∷ act.Deliver 0 Jobs ∷ act.Deliver 0 Jobs ∷ act.Deliver 0 Jobs ∷ act.Deliver 0 Pods
    ∷ act.Deliver 0 Pods ∷ act.Deliver 0 Pods ∷ act.Begin 0 0
    ∷ act.Update pi_key None (record no_change { parallelism = Some 2 }) ∷ act.Step 0 0 ∷ act.Sync 0 0
    ∷ [])

-- The reply to a write of the status is lost.
unfoldable pub lost_status_script : Script
lost_status_script =
    sample_script (act.Create pi_key sample_spec ∷ act.Sync 0 0 ∷ act.Finish (uid_of 2) (pos 0)
    ∷ act.Deliver 0 Jobs ∷ act.Deliver 0 Jobs ∷ act.Deliver 0 Jobs ∷ act.Deliver 0 Pods
    ∷ act.Deliver 0 Pods ∷ act.Deliver 0 Pods ∷ act.Begin 0 0 ∷ act.PutFault 0 0 fault.Lose
    ∷ act.Step 0 0 ∷ act.Sync 0 0 ∷ [])

-- The reply to the creation of a pod is lost.
unfoldable pub lost_creation_script : Script
lost_creation_script =
    sample_script (act.Create pi_key sample_spec ∷ act.List 0 Jobs ∷ act.List 0 Pods ∷ act.Begin 0 0
    ∷ act.PutFault 0 0 fault.Lose ∷ act.Step 0 0 ∷ act.Sync 0 0 ∷ [])

-- The creation of a pod is not made.
unfoldable pub dropped_creation_script : Script
dropped_creation_script =
    sample_script (act.Create pi_key sample_spec ∷ act.List 0 Jobs ∷ act.List 0 Pods ∷ act.Begin 0 0
    ∷ act.PutFault 0 0 fault.Drop ∷ act.Step 0 0 ∷ act.Sync 0 0 ∷ [])

-- A marked pod exits with 0 once it was judged.
unfoldable pub marked_pod_script : Script
marked_pod_script =
    sample_script (act.Create pi_key sample_spec ∷ act.Sync 0 0
    ∷ act.Report (uid_of 2) (phase_change Running []) ∷ act.Mark (uid_of 2) ∷ act.Deliver 0 Jobs
    ∷ act.Deliver 0 Jobs ∷ act.Deliver 0 Jobs ∷ act.Deliver 0 Jobs ∷ act.Deliver 0 Pods
    ∷ act.Deliver 0 Pods ∷ act.Deliver 0 Pods ∷ act.Deliver 0 Pods ∷ act.Begin 0 0 ∷ act.Step 0 0
    ∷ act.Finish (uid_of 2) (pos 0) ∷ act.Step 0 0 ∷ act.Step 0 0 ∷ act.Step 0 0 ∷ [])

-- A marked pod is replaced once it has failed, and 10 seconds later.
unfoldable pub replacement_script : Script
replacement_script =
    sample_script (act.Create pi_key (record sample_spec { replacement = FailedOnly }) ∷ act.Sync 0 0
    ∷ act.Mark (uid_of 2) ∷ act.Sync 0 0 ∷ act.Finish (uid_of 2) (pos 143) ∷ act.Sync 0 0 ∷ act.Clock 10
    ∷ act.Sync 0 0 ∷ [])

-- Five indexes, of which three succeed first.
unfoldable pub indexes_script : Script
indexes_script =
    sample_script (
    act.Create pi_key (record sample_spec { parallelism = 5; completions = Some 5; mode = Indexed })
    ∷ act.Sync 0 0 ∷ act.Finish (uid_of 3) (pos 0) ∷ act.Finish (uid_of 5) (pos 0)
    ∷ act.Finish (uid_of 6) (pos 0) ∷ act.Sync 0 0 ∷ act.Finish (uid_of 4) (pos 0) ∷ act.Sync 0 0 ∷ [])

-- An Indexed Job of five indexes has three, then five again; six are not as many as may run at once.
unfoldable pub elastic_script : Script
elastic_script =
    sample_script (
    act.Create pi_key (record sample_spec { parallelism = 5; completions = Some 5; mode = Indexed })
    ∷ act.Sync 0 0 ∷ act.Finish (uid_of 3) (pos 0) ∷ act.Finish (uid_of 6) (pos 0) ∷ act.Sync 0 0
    ∷ act.Update pi_key None (record no_change { parallelism = Some 3; completions = Some 3 })
    ∷ act.Sync 0 0
    ∷ act.Update pi_key None (record no_change { parallelism = Some 5; completions = Some 5 })
    ∷ act.Sync 0 0 ∷ act.Update pi_key None (record no_change { completions = Some 6 }) ∷ [])

-- One of two indexes fails, and the other succeeds.
unfoldable pub failed_index_script : Script
failed_index_script =
    sample_script (act.Create pi_key (limited_spec 0) ∷ act.Sync 0 0 ∷ act.Finish (uid_of 2) (pos 1)
    ∷ act.Finish (uid_of 3) (pos 0) ∷ act.Sync 0 0 ∷ [])

-- An exit code fails its index, and no index may fail.
unfoldable pub unfailing_script : Script
unfailing_script =
    sample_script (act.Create pi_key unfailing_spec ∷ act.Sync 0 0 ∷ act.Finish (uid_of 2) (pos 3)
    ∷ act.Sync 0 0 ∷ [])

-- Two controllers make a pod each of one index.
unfoldable pub one_index_twice_script : Script
one_index_twice_script =
    sample_script (act.Create pi_key (record sample_spec { mode = Indexed }) ∷ act.List 0 Jobs
    ∷ act.List 0 Pods ∷ act.List 1 Jobs ∷ act.List 1 Pods ∷ act.Begin 0 0 ∷ act.Begin 1 0 ∷ act.Step 0 0
    ∷ act.Step 1 0 ∷ act.Step 0 0 ∷ act.Step 1 0 ∷ act.Step 0 0 ∷ act.Finish (uid_of 2) (pos 0)
    ∷ act.Finish (uid_of 3) (pos 0) ∷ act.Sync 0 0 ∷ [])

-- The first failure is over the limit.
unfoldable pub backoff_limit_script : Script
backoff_limit_script =
    sample_script (act.Create pi_key (record sample_spec { backoff_limit = 0 }) ∷ act.Sync 0 0
    ∷ act.Finish (uid_of 2) (pos 1) ∷ act.Sync 0 0 ∷ [])

-- An exit code fails the Job by its policy.
unfoldable pub failing_exit_script : Script
failing_exit_script =
    sample_script (act.Create pi_key failing_spec ∷ act.Sync 0 0
    ∷ act.Report (uid_of 2) (phase_change Failed (exited_main 42 ∷ exited_side 0 ∷ [])) ∷ act.Sync 0 0
    ∷ [])

-- The deadline has passed when the success policy is met.
unfoldable pub deadline_script : Script
deadline_script =
    sample_script (act.Create pi_key succeeding_spec ∷ act.Sync 0 0 ∷ act.Finish (uid_of 2) (pos 0)
    ∷ act.Finish (uid_of 3) (pos 0) ∷ act.Clock 60 ∷ act.Sync 0 0 ∷ act.Finish (uid_of 4) (pos 143)
    ∷ act.Sync 0 0 ∷ [])

-- A pod finishes before it is let go.
unfoldable pub late_let_go_script : Script
late_let_go_script =
    sample_script (act.Create pi_key (record sample_spec { parallelism = 2; completions = Some 4 })
    ∷ act.Sync 0 0 ∷ act.Update pi_key None (record no_change { parallelism = Some 1 })
    ∷ act.Deliver 0 Jobs ∷ act.Deliver 0 Jobs ∷ act.Deliver 0 Jobs ∷ act.Deliver 0 Jobs
    ∷ act.Deliver 0 Pods ∷ act.Deliver 0 Pods ∷ act.Deliver 0 Pods ∷ act.Deliver 0 Pods ∷ act.Begin 0 0
    ∷ act.Finish (uid_of 3) (pos 0) ∷ act.Step 0 0 ∷ act.Step 0 0 ∷ act.Step 0 0 ∷ act.Sync 0 0 ∷ [])

-- A Job is deleted and made again under its name.
unfoldable pub made_again_script : Script
made_again_script =
    sample_script (act.Create pi_key sample_spec ∷ act.Sync 0 0 ∷ act.Delete pi_key
    ∷ act.Create pi_key sample_spec ∷ act.Sync 1 0 ∷ act.Deliver 0 Pods ∷ act.Deliver 0 Pods
    ∷ act.Deliver 0 Pods ∷ act.Deliver 0 Pods ∷ act.Deliver 0 Pods ∷ act.Deliver 0 Pods
    ∷ act.Deliver 0 Pods ∷ act.Begin 0 0 ∷ act.Deliver 0 Jobs ∷ act.Deliver 0 Jobs ∷ act.Deliver 0 Jobs
    ∷ act.Begin 0 0 ∷ act.Step 0 0 ∷ [])

-- A container restarts more often than the limit allows.
unfoldable pub restarted_container_script : Script
restarted_container_script =
    sample_script (
    act.Create pi_key restarting_spec
    ∷ act.Sync 0 0 ∷ act.Report (uid_of 2) (phase_change Running (restarted_main 2 ∷ [])) ∷ act.Sync 0 0
    ∷ act.Node ∷ act.Sync 0 0 ∷ [])

-- A suspended Job is resumed 30 seconds later.
unfoldable pub suspension_script : Script
suspension_script =
    sample_script (act.Create pi_key (record sample_spec { suspend = true }) ∷ act.Sync 0 0
    ∷ act.Update pi_key None (record no_change { suspend = Some false }) ∷ act.Clock 30 ∷ act.Sync 0 0
    ∷ [])

-- A cache falls out of the window of two versions.
unfoldable pub window_script : Script
window_script =
    sample_script (act.List 0 Jobs ∷ act.Create (key_named (97 ∷ [])) sample_spec
    ∷ act.Create (key_named (98 ∷ [])) sample_spec ∷ act.Create (key_named (99 ∷ [])) sample_spec
    ∷ act.Deliver 0 Jobs ∷ act.Deliver 0 Jobs ∷ act.Begin 0 0 ∷ act.Step 0 0 ∷ [])

-- What the store refuses.
unfoldable pub refusals_script : Script
refusals_script =
    sample_script (act.Create pi_key sample_spec ∷ act.Create pi_key sample_spec
    ∷ act.Update (key_named (110 ∷ 111 ∷ [])) None no_change
    ∷ act.Update pi_key (Some (version_at 9)) no_change
    ∷ act.Update pi_key None (record no_change { parallelism = Some 1 })
    ∷ act.Update pi_key None (record no_change { completions = Some 2 })
    ∷ act.Delete (key_named (110 ∷ 111 ∷ [])) ∷ act.Sync 0 0 ∷ act.Mark (uid_of 9)
    ∷ act.Report (uid_of 2) (phase_change Running []) ∷ act.Report (uid_of 2) (phase_change Pending [])
    ∷ act.Report (uid_of 2) (phase_change Running (exited (120 ∷ []) 0 ∷ [])) ∷ act.Mark (uid_of 2)
    ∷ act.Mark (uid_of 2) ∷ act.Strip (uid_of 2) ∷ act.Strip (uid_of 2) ∷ act.Finish (uid_of 2) (pos 0)
    ∷ act.Finish (uid_of 2) (pos 0) ∷ act.Sync 0 0 ∷ act.Begin 0 0 ∷ [])

-- A Job whose pods succeed by their fate; then all is done that there is to do.
unfoldable pub settling_script : Script
settling_script =
    sample_script (act.Create pi_key sample_spec ∷ act.Fate pi_key (good_end ∷ []) ∷ act.Settle ∷ [])

-- Each pod of a Job is disrupted, and none counts: there is always one to make.
unfoldable pub ignoring_script : Script
ignoring_script =
    sample_script (act.Create pi_key ignoring_spec ∷ act.Fate pi_key (disrupted_end ∷ []) ∷ act.Settle ∷ [])
