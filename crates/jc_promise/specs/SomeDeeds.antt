-- That what is said of pods that are made and of Jobs that have ended is said of something.
--     SomeDeed P deeds            P holds of a deed of the history and what came before it
--     MakesPod shape past d       the deed brings a pod into the log whose UID was never there
--     FindsEnd shape past d       before the deed a Job is there that has ended
--     SomeSync shape deeds log    the history has a quiet sync
--     one_pod_deeds               the history in which one pod is made, and succeeds, and is counted
--     waiting_deeds               the history in which one pod is made that has no fate, till nothing is left to do
--     orphan_deeds                the history in which its Job is deleted, till nothing is left to do
--     quiet_deeds                 the history in which one pod is made, and its status is written
use Rattle.std.specs.Prelude.{◌≡◌, ℕ, true, List, [], ◌∷◌, ◌++◌, Some}
use Rattle.jc_types.specs.declared.actions.Action1.TheVariants as act
use Rattle.jc_types.specs.declared.actions.Script.{Script}
use Rattle.jc_types.specs.declared.objects.Entry.{Entry}
use Rattle.jc_types.specs.declared.objects.Entry.TheVariants.{PodPut}
use Rattle.jc_types.specs.declared.objects.Job.{Job}
use Rattle.jc_types.specs.declared.objects.KeyNames.{KeyNames as Key}
use Rattle.jc_types.specs.declared.objects.Pod.{Pod}
use Rattle.jc_types.specs.declared.runs.Shape.{Shape}
use Rattle.jc_causes.specs.Conditions.{has_end}
use Rattle.jc_log.specs.Deeds.{Deed}
use Rattle.jc_log.specs.Log.{Never, job_in, life}
use Rattle.jc_history.specs.Play.{deeds_played, whole_play}
use Rattle.jc_history.specs.Replies.{log_given}
use Rattle.jc_history.specs.Samples.{pi_key, sample_script, sample_spec, usual_shape}
use Rattle.jc_history.specs.SampleScripts.{one_pod_script}
use Rattle.jc_promise.specs.QuietEnds.{RunsQuietly}
use Rattle.jc_promise.specs.WrongRests.{first_sync}

-- P holds of a deed of the history and what came before it.
pub record SomeDeed (P : List Deed → Deed → Type 0) (deeds : List Deed) : Type 0 where
  pub later : List Deed
  pub past : List Deed
  pub d : Deed
  pub parts : deeds ≡ later ++ d ∷ past
  pub holds : P past d

-- The deed brings a pod into the log whose UID was never there.
pub record MakesPod (shape : Shape) (past : List Deed) (d : Deed) : Type 0 where
  pub pod : Pod
  pub put : log_given shape (d ∷ past) ≡ PodPut pod ∷ log_given shape past
  pub new : life pod.uid (log_given shape past) ≡ Never

-- Before the deed a Job is there that has ended.
pub record FindsEnd (shape : Shape) (past : List Deed) (d : Deed) : Type 0 where
  pub key : Key
  pub job : Job
  pub there : job_in key (log_given shape past) ≡ Some job
  pub ended : has_end job.status.conditions ≡ true

-- The history has a quiet sync.
pub record SomeSync (shape : Shape) (deeds : List Deed) (log : List Entry) : Type 0 where
  pub controller : ℕ
  pub worker : ℕ
  pub begin : Deed
  pub past : List Deed
  pub key : Key
  pub job : Job
  pub last : Deed
  pub run : List Deed
  pub later : List Deed
  pub parts : deeds ≡ later ++ (last ∷ run ++ begin ∷ past)
  pub quiet : RunsQuietly shape log controller worker begin past key job last run

-- One pod is made, and succeeds, and is counted.
abbrev pub one_pod_deeds : List Deed
one_pod_deeds = deeds_played one_pod_script (whole_play one_pod_script usual_shape)

-- A Job is made, and all is done that there is to do.
unfoldable pub waiting_script : Script
waiting_script = sample_script (act.Create pi_key sample_spec ∷ act.Settle ∷ [])

-- Its pod is made and has no fate, so nothing befalls it.
abbrev pub waiting_deeds : List Deed
waiting_deeds = deeds_played waiting_script (whole_play waiting_script usual_shape)

-- A Job is made, is synced and deleted, and all is done that there is to do.
unfoldable pub orphan_script : Script
orphan_script =
    sample_script (act.Create pi_key sample_spec ∷ act.Sync 0 0 ∷ act.Delete pi_key ∷ act.Settle ∷ [])

-- Its pod has lost its finalizer.
abbrev pub orphan_deeds : List Deed
orphan_deeds = deeds_played orphan_script (whole_play orphan_script usual_shape)

-- A Job is made, both caches are listed, and a sync makes its pod and writes its status.
abbrev pub quiet_deeds : List Deed
quiet_deeds = first_sync sample_spec
