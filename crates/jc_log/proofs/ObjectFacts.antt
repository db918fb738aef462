-- The objects of a log: the plain reading, and what the tables hold.
use Rattle.std.proofs.Common.{◌≡◌, ℕ, Bool, true, false, cond, List, [], ◌∷◌, reverse, take, Some, None, option_and_then, find, refl, ap, ◌∙◌}
use Rattle.jc_types.specs.declared.numbers.Uid.{Uid}
use Rattle.jc_types.specs.declared.objects.Entry.{Entry}
use Rattle.jc_types.specs.declared.objects.Entry.TheVariants.{JobPut, JobGone, PodPut, PodGone}
use Rattle.jc_types.specs.declared.objects.KeyNames.{KeyNames as Key}
use Rattle.jc_types.specs.Keys.{same_key, same_uid}
use Rattle.jc_log.specs.Tables.{at}
use Rattle.jc_log.specs.Log.{Live, Gone, living, upto, job_in, life, pod_in, jobs_in}
use Rattle.jc_log.specs.PlainReadings.{is_about_job, is_about_pod, job_put, pod_put, job_at, pod_at}
use Rattle.jc_types.proofs.KeyFacts.{same_key-eq, same_key-itself}
use Rattle.jc_log.proofs.TableFacts.{Apart, Apart-puts, Apart-takes, Sets-puts, Sets-takes}
use Rattle.jc_log.proofs.LogFacts.{upto-reverse}

-- The Job of a key is what the newest entry about the key puts.
pub job_in-found : (k : Key) (log : List Entry) → job_in k log ≡ option_and_then job_put (find (is_about_job k) log)
job_in-found k [] = refl
job_in-found k (JobPut job ∷ older) = by (same_key job.key k) (job_in-found k older)
  where
    by : (b : Bool) → job_in k older ≡ option_and_then job_put (find (is_about_job k) older) → cond b (Some job) (job_in k older) ≡ option_and_then job_put (cond b (Some (JobPut job)) (find (is_about_job k) older))
    by true ih = refl
    by false ih = ih
job_in-found k (JobGone job ∷ older) = by (same_key job.key k) (job_in-found k older)
  where
    by : (b : Bool) → job_in k older ≡ option_and_then job_put (find (is_about_job k) older) → cond b None (job_in k older) ≡ option_and_then job_put (cond b (Some (JobGone job)) (find (is_about_job k) older))
    by true ih = refl
    by false ih = ih
job_in-found k (PodPut pod ∷ older) = job_in-found k older
job_in-found k (PodGone pod ∷ older) = job_in-found k older

-- The pod of a UID is what the newest entry about the UID puts.
pub pod_in-found : (u : Uid) (log : List Entry) → pod_in u log ≡ option_and_then pod_put (find (is_about_pod u) log)
pod_in-found u [] = refl
pod_in-found u (JobPut job ∷ older) = pod_in-found u older
pod_in-found u (JobGone job ∷ older) = pod_in-found u older
pod_in-found u (PodPut pod ∷ older) = by (same_uid pod.uid u) (pod_in-found u older)
  where
    by : (b : Bool) → living (life u older) ≡ option_and_then pod_put (find (is_about_pod u) older) → living (cond b (Live pod) (life u older)) ≡ option_and_then pod_put (cond b (Some (PodPut pod)) (find (is_about_pod u) older))
    by true ih = refl
    by false ih = ih
pod_in-found u (PodGone pod ∷ older) = by (same_uid pod.uid u) (pod_in-found u older)
  where
    by : (b : Bool) → living (life u older) ≡ option_and_then pod_put (find (is_about_pod u) older) → living (cond b Gone (life u older)) ≡ option_and_then pod_put (cond b (Some (PodGone pod)) (find (is_about_pod u) older))
    by true ih = refl
    by false ih = ih

-- The Job of a key among the first n entries, in the plain reading.
pub job_in-plain : (n : ℕ) (k : Key) (es : List Entry) → job_in k (upto n (reverse es)) ≡ job_at n k es
job_in-plain n k es = ap (job_in k) (upto-reverse n es) ∙ job_in-found k (reverse (take n es))

-- The pod of a UID among the first n entries, in the plain reading.
pub pod_in-plain : (n : ℕ) (u : Uid) (es : List Entry) → pod_in u (upto n (reverse es)) ≡ pod_at n u es
pod_in-plain n u es = ap (pod_in u) (upto-reverse n es) ∙ pod_in-found u (reverse (take n es))

-- The keys of the table of Jobs are apart.
pub Apart-jobs_in : (log : List Entry) → Apart same_key (jobs_in log)
Apart-jobs_in [] = tt
Apart-jobs_in (JobPut job ∷ older) = Apart-puts same_key same_key-eq same_key-itself job.key job (jobs_in older) (Apart-jobs_in older)
Apart-jobs_in (JobGone job ∷ older) = Apart-takes same_key same_key-eq same_key-itself job.key (jobs_in older) (Apart-jobs_in older)
Apart-jobs_in (PodPut pod ∷ older) = Apart-jobs_in older
Apart-jobs_in (PodGone pod ∷ older) = Apart-jobs_in older

-- The table of Jobs has at each key the Job of that key.
pub jobs_in-at : (k : Key) (log : List Entry) → at same_key (jobs_in log) k ≡ job_in k log
jobs_in-at k [] = refl
jobs_in-at k (JobPut job ∷ older) =
    Sets-puts same_key same_key-eq same_key-itself job.key job (jobs_in older) k
    ∙ ap (cond (same_key job.key k) (Some job)) (jobs_in-at k older)
jobs_in-at k (JobGone job ∷ older) =
    Sets-takes same_key same_key-eq same_key-itself job.key (jobs_in older) (Apart-jobs_in older) k
    ∙ ap (cond (same_key job.key k) None) (jobs_in-at k older)
jobs_in-at k (PodPut pod ∷ older) = jobs_in-at k older
jobs_in-at k (PodGone pod ∷ older) = jobs_in-at k older
