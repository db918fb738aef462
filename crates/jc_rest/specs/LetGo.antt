-- Pods that have ended and that nobody holds any more.
--     IsLetGoOnceEnded pod      where the pod has ended, it has no finalizer
--     EndedAreLetGo job log     so it is of each pod of the Job that is there
use Rattle.std.specs.Prelude.{◌≡◌, true, false, List}
use Rattle.std.specs.List.{AllByRecursion as Each}
use Rattle.jc_types.specs.declared.objects.Entry.{Entry}
use Rattle.jc_types.specs.declared.objects.Job.{Job}
use Rattle.jc_types.specs.declared.objects.Pod.{Pod}
use Rattle.jc_states.specs.Pods.{is_final}
use Rattle.jc_log.specs.Log.{pods_of}

-- Where the pod has ended, it has no finalizer.
abbrev pub IsLetGoOnceEnded : Pod → Type 0
IsLetGoOnceEnded pod = is_final pod.phase ≡ true → pod.tracked ≡ false

-- So it is of each pod of the Job that is there.
abbrev pub EndedAreLetGo : Job → List Entry → Type 0
EndedAreLetGo job log = Each IsLetGoOnceEnded (pods_of job.uid log)
