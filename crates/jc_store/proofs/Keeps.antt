-- What each write leaves of what the store keeps, and what the tables say of the log.
use Rattle.std.proofs.Common.{◌≡◌, ℕ, ◌+◌, ◌-◌, ◌<◌, ◌^◌, ◌++◌, Bool, arith, length, true, false, ◌&&◌, cond, List, [], ◌∷◌, reverse, Option, Some, None, IsSome, is_some, refl, ap, sym, ◌∙◌, subst, not, true≢false}
use Rattle.std.specs.Prelude.{find, unwrap_or}
use Rattle.jc_types.specs.declared.numbers.Uid.{Uid}
use Rattle.jc_types.specs.declared.objects.Entry.{Entry}
use Rattle.jc_types.specs.declared.objects.Entry.TheVariants.{JobPut, JobGone, PodPut, PodGone}
use Rattle.jc_types.specs.declared.objects.Job.{Job}
use Rattle.jc_types.specs.declared.objects.Pod.{Pod}
use Rattle.jc_types.specs.declared.objects.KeyNames.{KeyNames as Key}
use Rattle.jc_types.specs.Keys.{same_key, same_uid}
use Rattle.jc_log.specs.Log.{Life, Never, Live, Gone, births, is_never, job_in, jobs_in, life, living, made_for, next_version, pod_in, pods_in}
use Rattle.jc_states.specs.ObjectChanges.{PodStep}
use Rattle.jc_states.proofs.PodListFacts.{length-drop_pod, length-put_pod, length-put_there}
use Rattle.jc_states.specs.PodLists.{drop_pod, put_pod}
use Rattle.jc_states.specs.Pods.{goes, is_final, is_open}
use Rattle.jc_log.specs.Tables.{Sets, at, puts, takes}
use Rattle.jc_log.specs.Writes.{CanEnd, CanGo, IsNewJob, IsNewPod, StepsFrom, Writes}
use Rattle.jc_types.proofs.KeyFacts.{same_uid-eq, same_uid-itself}
use Rattle.jc_log.proofs.LogFacts.{newest_first}
use Rattle.jc_log.proofs.ObjectFacts.{jobs_in-at}
use Rattle.jc_log.proofs.PodFacts.{pods_in-among, pods_in-few, pods_in-rises}
use Rattle.jc_table.specs.Open.{CanReplace}
use Rattle.jc_store.specs.Kept.{IsKept, count_of}
use Rattle.jc_log.proofs.AppendFacts.{end_job-writes, end_pod-writes, made_job-births, made_job-writes, made_pod-births, made_pod-writes, new_never, put_job-births, put_job-writes, step_made, write_pod-births, write_pod-writes}

-- ---- what the tables say

-- The table of Jobs has at a key the Job of the key.
pub job_there : (jobs : List (Key × Job)) (items log : List Entry) (key : Key) → jobs ≡ jobs_in (reverse items) → reverse items ≡ log → at same_key jobs key ≡ job_in key log
job_there jobs items log key held is = ap (λ t. at same_key t key) (held ∙ ap jobs_in is) ∙ jobs_in-at key log

-- The table of pods has of a UID the pod of the UID.
pub pod_there : (pods : List Pod) (items log : List Entry) (u : Uid) → pods ≡ pods_in (reverse items) → reverse items ≡ log → find (λ pod. same_uid pod.uid u) pods ≡ pod_in u log
pod_there pods items log u held is = ap (find (λ pod. same_uid pod.uid u)) (held ∙ ap pods_in is) ∙ pods_in-among u log

-- A Job that is written over has a row.
pub job_row : (jobs : List (Key × Job)) (items log : List Entry) (job : Job) → jobs ≡ jobs_in (reverse items) → reverse items ≡ log → StepsFrom (job_in job.key log) job → IsSome (at same_key jobs job.key)
job_row jobs items log job held is step =
    ap is_some (job_there jobs items log job.key held is) ∙ by (job_in job.key log) step
  where
    by : (o : Option Job) → StepsFrom o job → is_some o ≡ true
    by None step = absurd step
    by (Some old) step = refl

-- A pod that has ended does not open again.
not_again_open : (old pod : Pod) → PodStep old pod → is_open pod ≡ true → is_open old ≡ true
not_again_open old pod step opens = by (is_final old.phase) refl
  where
    by : (b : Bool) → is_final old.phase ≡ b → not (is_final old.phase) ≡ true
    by true e = absurd (true≢false (sym opens ∙ ap (λ phase. not (is_final phase)) (step.phase e) ∙ ap not e))
    by false e = ap not e

-- A pod that is written over has a row, whose pod it may stand for.
pub pod_stands : (pods : List Pod) (items log : List Entry) (pod : Pod) → pods ≡ pods_in (reverse items) → reverse items ≡ log → CanGo (life pod.uid log) pod → CanReplace pod (find (λ p. same_uid p.uid pod.uid) pods)
pod_stands pods items log pod held is step =
    subst (CanReplace pod) (sym (pod_there pods items log pod.uid held is)) (by (life pod.uid log) step)
  where
    by : (l : Life) → CanGo l pod → CanReplace pod (living l)
    by Never step = absurd step
    by (Live old) step = not_again_open old pod step
    by Gone step = absurd step

-- ---- what a write leaves

-- One more entry at the end of the log oldest first is one more in front.
appended : (items more log : List Entry) (e : Entry) → reverse items ≡ log → more ≡ items ++ e ∷ [] → reverse more ≡ e ∷ log
appended items more log e is to = ap reverse to ∙ newest_first items e ∙ ap (λ l. e ∷ l) is

-- Counts that are the same are kept.
pub counts-keep : (born : ℕ) (jobs : List (Key × Job)) (pods : List Pod) (made counts : List (Uid × ℕ))
    (items more : List Entry) → IsKept born jobs pods made (reverse items) → more ≡ items
    → ((owner : Uid) → count_of counts owner ≡ count_of made owner) → IsKept born jobs pods counts (reverse more)
counts-keep born jobs pods made counts items more k to same =
    subst (λ l. IsKept born jobs pods counts (reverse l)) (sym to) (record {
      counted = k.counted;
      jobs_there = k.jobs_there;
      pods_there = k.pods_there;
      made_before = λ owner. same owner ∙ k.made_before owner;
      stored = k.stored;
      few = k.few;
      few_entries = k.few_entries;
    })

job_put : (born next : ℕ) (jobs rows : List (Key × Job)) (pods : List Pod) (made : List (Uid × ℕ)) (log : List Entry)
    (job : Job) → IsKept born jobs pods made log → rows ≡ puts same_key jobs job.key job → next
    ≡ births (JobPut job ∷ log) → Writes log (JobPut job) → length log < 2 ^ 32 - 2 → IsKept next rows pods made (JobPut job ∷ log)
job_put born next jobs rows pods made log job k put count writes room = record {
  counted = count;
  jobs_there = put ∙ ap (λ t. puts same_key t job.key job) k.jobs_there;
  pods_there = k.pods_there;
  made_before = k.made_before;
  stored = (writes, k.stored);
  few = k.few;
  few_entries = omega (arith, room);
}

pub make_job-keeps : (born next : ℕ) (jobs rows : List (Key × Job)) (pods : List Pod) (made : List (Uid × ℕ))
    (items more log : List Entry) (job : Job) → IsKept born jobs pods made (reverse items) → reverse items ≡ log
    → length log < 2 ^ 32 - 2 → more ≡ items ++ JobPut job ∷ [] → rows ≡ puts same_key jobs job.key job → next ≡ births log + 1 → job.version
    ≡ next_version log → IsNewJob log job → job_in job.key log ≡ None → IsKept next rows pods made (reverse more)
make_job-keeps born next jobs rows pods made items more log job kept is room to put count version new absent =
    let k = subst (IsKept born jobs pods made) is kept in
    subst (IsKept next rows pods made) (sym (appended items more log (JobPut job) is to))
    (job_put born next jobs rows pods made log job k put (count ∙ sym (made_job-births log job k.stored new)) (made_job-writes log job version new absent) room)

pub put_job-keeps : (born : ℕ) (jobs rows : List (Key × Job)) (pods : List Pod) (made : List (Uid × ℕ))
    (items more log : List Entry) (job : Job) → IsKept born jobs pods made (reverse items) → reverse items ≡ log
    → length log < 2 ^ 32 - 2 → more ≡ items ++ JobPut job ∷ [] → rows ≡ puts same_key jobs job.key job → job.version ≡ next_version log
    → StepsFrom (job_in job.key log) job → IsKept born rows pods made (reverse more)
put_job-keeps born jobs rows pods made items more log job kept is room to put version step =
    let k = subst (IsKept born jobs pods made) is kept in
    subst (IsKept born rows pods made) (sym (appended items more log (JobPut job) is to))
    (job_put born born jobs rows pods made log job k put (k.counted ∙ sym (put_job-births log job step)) (put_job-writes log job version step) room)

pub end_job-keeps : (born : ℕ) (jobs rows : List (Key × Job)) (pods : List Pod) (made : List (Uid × ℕ))
    (items more log : List Entry) (job : Job) → IsKept born jobs pods made (reverse items) → reverse items ≡ log
    → length log < 2 ^ 32 - 2 → more ≡ items ++ JobGone job ∷ [] → rows ≡ takes same_key jobs job.key → job.version ≡ next_version log
    → CanEnd (job_in job.key log) job → IsKept born rows pods made (reverse more)
end_job-keeps born jobs rows pods made items more log job kept is room to take version end =
    let k = subst (IsKept born jobs pods made) is kept in
    subst (IsKept born rows pods made) (sym (appended items more log (JobGone job) is to)) (record {
      counted = k.counted;
      jobs_there = take ∙ ap (λ t. takes same_key t job.key) k.jobs_there;
      pods_there = k.pods_there;
      made_before = k.made_before;
      stored = (end_job-writes log job version end, k.stored);
      few = k.few;
      few_entries = omega (arith, room);
    })

-- A pod that was there before is not counted again.
not_again : (a b : Bool) (n : ℕ) → b ≡ false → cond (a && b) (n + 1) n ≡ n
not_again true b n e = ap (λ x. cond x (n + 1) n) e
not_again false b n e = refl

-- A pod that is written over is one of as many as before.
written_few : (log : List Entry) (pod : Pod) → length (pods_in log) < 2 ^ 32 → CanGo (life pod.uid log) pod
    → length (put_pod pod (pods_in log)) < 2 ^ 32
written_few log pod few step = by (life pod.uid log) refl step
  where
    by : (l : Life) → life pod.uid log ≡ l → CanGo l pod → length (put_pod pod (pods_in log)) < 2 ^ 32
    by Never is step = absurd step
    by (Live old) is step =
        let there = ap is_some (pods_in-among pod.uid log ∙ ap living is) in
        let same = length-put_there 0 pod (pods_in log) (pods_in-rises log) there in
        omega (arith, same, few)
    by Gone is step = absurd step

pub write_pod-keeps : (born : ℕ) (jobs : List (Key × Job)) (pods rows : List Pod) (made : List (Uid × ℕ))
    (items more log : List Entry) (pod : Pod) → IsKept born jobs pods made (reverse items) → reverse items ≡ log
    → length log < 2 ^ 32 - 2 → more ≡ items ++ PodPut pod ∷ [] → rows ≡ put_pod pod pods → pod.version ≡ next_version log → CanGo (life pod.uid log) pod
    → goes pod ≡ false → IsKept born jobs rows made (reverse more)
write_pod-keeps born jobs pods rows made items more log pod kept is room to put version step stays =
    let k = subst (IsKept born jobs pods made) is kept in
    subst (IsKept born jobs rows made) (sym (appended items more log (PodPut pod) is to)) (record {
      counted = k.counted ∙ sym (write_pod-births log pod step);
      jobs_there = k.jobs_there;
      pods_there = put ∙ ap (put_pod pod) k.pods_there;
      made_before =
          λ owner. k.made_before owner
          ∙ sym (not_again (same_uid pod.owner_uid owner) (is_never (life pod.uid log)) (made_for owner log) (step_made pod (life pod.uid log) step));
      stored = (write_pod-writes log pod version step stays, k.stored);
      few = written_few log pod k.few step;
      few_entries = omega (arith, room);
    })

pub end_pod-keeps : (born : ℕ) (jobs : List (Key × Job)) (pods rows : List Pod) (made : List (Uid × ℕ))
    (items more log : List Entry) (pod : Pod) → IsKept born jobs pods made (reverse items) → reverse items ≡ log
    → length log < 2 ^ 32 - 2 → more ≡ items ++ PodGone pod ∷ [] → rows ≡ drop_pod pod.uid pods → pod.version ≡ next_version log
    → CanGo (life pod.uid log) pod → goes pod ≡ true → IsKept born jobs rows made (reverse more)
end_pod-keeps born jobs pods rows made items more log pod kept is room to drop version step going =
    let k = subst (IsKept born jobs pods made) is kept in
    subst (IsKept born jobs rows made) (sym (appended items more log (PodGone pod) is to)) (record {
      counted = k.counted;
      jobs_there = k.jobs_there;
      pods_there = drop ∙ ap (drop_pod pod.uid) k.pods_there;
      made_before = k.made_before;
      stored = (end_pod-writes log pod version step going, k.stored);
      few = let less = length-drop_pod pod.uid (pods_in log) in let few = k.few in omega (arith, less, few);
      few_entries = omega (arith, room);
    })

-- The counts after one more pod of an owner.
counts_more : (made counts more : List (Uid × ℕ)) (log : List Entry) (pod : Pod) (count : ℕ)
    → ((owner : Uid) → count_of made owner ≡ made_for owner log)
    → ((owner : Uid) → count_of counts owner ≡ count_of made owner) → count ≡ made_for pod.owner_uid log
    → Sets same_uid counts more pod.owner_uid (Some (count + 1)) → life pod.uid log ≡ Never → (owner : Uid)
    → count_of more owner ≡ made_for owner (PodPut pod ∷ log)
counts_more made counts more log pod count held same is sets never owner =
    ap (λ o. unwrap_or o 0) (sets owner) ∙ by (same_uid pod.owner_uid owner) refl
    ∙ ap (λ b. cond (same_uid pod.owner_uid owner && b) (made_for owner log + 1) (made_for owner log)) (sym (ap is_never never))
  where
    by : (b : Bool) → same_uid pod.owner_uid owner ≡ b → unwrap_or (cond b (Some (count + 1)) (at same_uid counts owner)) 0 ≡ cond (b && true) (made_for owner log + 1) (made_for owner log)
    by true s = ap (λ n. n + 1) (is ∙ ap (λ u. made_for u log) (same_uid-eq pod.owner_uid owner s))
    by false s = same owner ∙ held owner

pub make_pod-keeps : (born next : ℕ) (jobs : List (Key × Job)) (pods rows : List Pod)
    (made counts counted : List (Uid × ℕ)) (items more log : List Entry) (pod : Pod) (count : ℕ)
    → IsKept born jobs pods made (reverse items) → reverse items ≡ log → more ≡ items ++ PodPut pod ∷ [] → rows
    ≡ put_pod pod pods → ((owner : Uid) → count_of counts owner ≡ count_of made owner) → count
    ≡ made_for pod.owner_uid log → Sets same_uid counts counted pod.owner_uid (Some (count + 1)) → next ≡ births log + 1
    → length log < 2 ^ 32 - 2 → pod.version ≡ next_version log → IsNewPod log pod
    → IsKept next jobs rows counted (reverse more)
make_pod-keeps born next jobs pods rows made counts counted items more log pod count kept is to put same found sets birth room version new =
    let k = subst (IsKept born jobs pods made) is kept in
    subst (IsKept next jobs rows counted) (sym (appended items more log (PodPut pod) is to)) (record {
      counted = birth ∙ sym (made_pod-births log pod k.stored new);
      jobs_there = k.jobs_there;
      pods_there = put ∙ ap (put_pod pod) k.pods_there;
      made_before = counts_more made counts counted log pod count k.made_before same found sets (new_never log pod k.stored new);
      stored = (made_pod-writes log pod k.stored version new, k.stored);
      few = let all = pods_in-few log in let one = length-put_pod pod (pods_in log) in omega (arith, all, one, room);
      few_entries = omega (arith, room);
    })

-- ---- rows for counts

-- A row with the count that stood before leaves each count.
pub counts_with_row : (made more : List (Uid × ℕ)) (owner : Uid) (count : ℕ) → count ≡ count_of made owner → Sets same_uid made more owner (Some count) → (other : Uid) → count_of more other ≡ count_of made other
counts_with_row made more owner count is sets other =
    ap (λ o. unwrap_or o 0) (sets other) ∙ by (same_uid owner other) refl
  where
    by : (b : Bool) → same_uid owner other ≡ b → unwrap_or (cond b (Some count) (at same_uid made other)) 0 ≡ count_of made other
    by true s = is ∙ ap (count_of made) (same_uid-eq owner other s)
    by false s = refl

-- An owner that was counted has a row.
pub counted_row : (made : List (Uid × ℕ)) (owner : Uid) (count : ℕ) → count ≡ count_of made owner → 0 < count → IsSome (at same_uid made owner)
counted_row made owner count is some = by (at same_uid made owner) is
  where
    by : (o : Option ℕ) → count ≡ unwrap_or o 0 → is_some o ≡ true
    by None is = absurd (omega (arith, is, some))
    by (Some n) is = refl

-- A row that is put is there.
pub row_put : (made more : List (Uid × ℕ)) (owner : Uid) (count : ℕ) → Sets same_uid made more owner (Some count) → IsSome (at same_uid more owner)
row_put made more owner count sets =
    ap is_some (sets owner) ∙ ap (λ b. is_some (cond b (Some count) (at same_uid made owner))) (same_uid-itself owner)
