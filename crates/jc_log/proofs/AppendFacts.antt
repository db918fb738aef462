-- Which entries may follow a log, by what they do: an object that is made, written over or taken away. With an entry that
-- makes one there is one more birth, and with any other there are as many.
use Rattle.std.proofs.Common.{◌≡◌, ◌+◌, ℕ, true, false, List, ◌∷◌, length, Option, Some, None, refl, ap, ◌∙◌, arith}
use Rattle.std.proofs.lemmas.Bool.{cond-true, cond-false}
use Rattle.jc_types.specs.declared.objects.Job.{Job}
use Rattle.jc_types.specs.declared.objects.Pod.{Pod}
use Rattle.jc_types.specs.declared.objects.Entry.{Entry}
use Rattle.jc_types.specs.declared.objects.Entry.TheVariants.{JobPut, JobGone, PodPut, PodGone}
use Rattle.jc_log.specs.Log.{Life, Never, Live, Gone, births, is_born, is_never, job_in, life, next_version}
use Rattle.jc_states.specs.Pods.{goes}
use Rattle.jc_log.specs.Writes.{CanEnd, CanGo, CanJob, CanPut, IsNewJob, IsNewPod, StepsFrom, Stored, Writes}
use Rattle.jc_log.proofs.BirthFacts.{fresh_never, fresh_unborn}
use Rattle.jc_log.proofs.WriteFacts.{job_in-born}

-- ---- Jobs

-- The place of the next entry.
next_command : (log : List Entry) (e : Entry) (v : ℕ) → v ≡ length log + 1 → v ≡ length (e ∷ log)
next_command log e v h = omega (arith, h)

-- A Job that is made has one more birth.
pub made_job-births : (log : List Entry) (job : Job) → Stored log → IsNewJob log job → births (JobPut job ∷ log) ≡ births log + 1
made_job-births log job all new =
    cond-false (is_born job.uid log) (births log) (births log + 1) (fresh_unborn job.uid log all new.uid)

-- A Job that is made is a write of the store.
pub made_job-writes : (log : List Entry) (job : Job) → job.version ≡ next_version log → IsNewJob log job → job_in job.key log ≡ None → Writes log (JobPut job)
made_job-writes log job at new none = record {
  version = next_command log (JobPut job) job.version.0 (ap (λ v. v.0) at);
  can = by (job_in job.key log) none;
}
  where
    by : (o : Option Job) → o ≡ None → CanJob log o job
    by None e = new
    by (Some old) e = absurd (cc)

-- A Job that is written over was born.
step_born : (log : List Entry) (job : Job) → (o : Option Job) → job_in job.key log ≡ o → StepsFrom o job → is_born job.uid log ≡ true
step_born log job None there step = absurd step
step_born log job (Some old) there step = ap (λ u. is_born u log) step.uid ∙ job_in-born job.key log old there

pub put_job-births : (log : List Entry) (job : Job) → StepsFrom (job_in job.key log) job → births (JobPut job ∷ log) ≡ births log
put_job-births log job step =
    cond-true (is_born job.uid log) (births log) (births log + 1) (step_born log job (job_in job.key log) refl step)

pub put_job-writes : (log : List Entry) (job : Job) → job.version ≡ next_version log → StepsFrom (job_in job.key log) job → Writes log (JobPut job)
put_job-writes log job at step = record {
  version = next_command log (JobPut job) job.version.0 (ap (λ v. v.0) at);
  can = by (job_in job.key log) step;
}
  where
    by : (o : Option Job) → StepsFrom o job → CanJob log o job
    by None step = absurd step
    by (Some old) step = step

pub end_job-writes : (log : List Entry) (job : Job) → job.version ≡ next_version log → CanEnd (job_in job.key log) job → Writes log (JobGone job)
end_job-writes log job at end = record {
  version = next_command log (JobGone job) job.version.0 (ap (λ v. v.0) at);
  can = end;
}

-- ---- pods

-- A pod that is made was never there.
pub new_never : (log : List Entry) (pod : Pod) → Stored log → IsNewPod log pod → life pod.uid log ≡ Never
new_never log pod all new = fresh_never pod.uid log all new.uid

pub made_pod-births : (log : List Entry) (pod : Pod) → Stored log → IsNewPod log pod → births (PodPut pod ∷ log) ≡ births log + 1
made_pod-births log pod all new =
    cond-true (is_never (life pod.uid log)) (births log + 1) (births log) (ap is_never (new_never log pod all new))

pub made_pod-writes : (log : List Entry) (pod : Pod) → Stored log → pod.version ≡ next_version log → IsNewPod log pod → Writes log (PodPut pod)
made_pod-writes log pod all at new = record {
  version = next_command log (PodPut pod) pod.version.0 (ap (λ v. v.0) at);
  can = (by (life pod.uid log) (new_never log pod all new), stays pod new.marked);
}
  where
    by : (l : Life) → l ≡ Never → CanPut log l pod
    by Never e = new
    by (Live old) e = absurd (cc)
    by Gone e = absurd (cc)

    stays : (p : Pod) → p.marked ≡ None → goes p ≡ false
    stays p e = cc

-- A pod that is written over was there.
pub step_made : (pod : Pod) (l : Life) → CanGo l pod → is_never l ≡ false
step_made pod Never step = absurd step
step_made pod (Live old) step = refl
step_made pod Gone step = absurd step

pub write_pod-births : (log : List Entry) (pod : Pod) → CanGo (life pod.uid log) pod → births (PodPut pod ∷ log) ≡ births log
write_pod-births log pod step =
    cond-false (is_never (life pod.uid log)) (births log + 1) (births log) (step_made pod (life pod.uid log) step)

pub write_pod-writes : (log : List Entry) (pod : Pod) → pod.version ≡ next_version log → CanGo (life pod.uid log) pod → goes pod ≡ false → Writes log (PodPut pod)
write_pod-writes log pod at step stays = record {
  version = next_command log (PodPut pod) pod.version.0 (ap (λ v. v.0) at);
  can = (over (life pod.uid log) step, stays);
}
  where
    over : (l : Life) → CanGo l pod → CanPut log l pod
    over Never step = absurd step
    over (Live old) step = step
    over Gone step = absurd step

pub end_pod-writes : (log : List Entry) (pod : Pod) → pod.version ≡ next_version log → CanGo (life pod.uid log) pod → goes pod ≡ true → Writes log (PodGone pod)
end_pod-writes log pod at step going = record {
  version = next_command log (PodGone pod) pod.version.0 (ap (λ v. v.0) at);
  can = (step, going);
}
