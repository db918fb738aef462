-- The list of pods of a log: it is ascending, and has of each UID the pod that lives.
use Rattle.std.proofs.Common.{◌≡◌, ℕ, suc, ◌≤◌, nat_lt, Bool, true, false, cond, not, List, [], ◌∷◌, length, Option, Some, None, is_some, refl, sym, ap, ◌∙◌, arith, true≢false}
use Rattle.std.specs.List.{AllByRecursion as Each}
use Rattle.jc_types.specs.declared.numbers.Uid.{Uid}
use Rattle.jc_types.specs.declared.objects.Entry.{Entry}
use Rattle.jc_types.specs.declared.objects.Entry.TheVariants.{JobPut, JobGone, PodPut, PodGone}
use Rattle.jc_types.specs.declared.objects.Pod.{Pod}
use Rattle.jc_types.specs.declared.objects.KeyNames.{KeyNames as Key}
use Rattle.jc_types.specs.Keys.{same_key, same_uid}
use Rattle.jc_log.specs.Log.{Life, Never, Live, Gone, living, life, pod_in, pods_after, pods_in, pods_of, pods_under, upto}
use Rattle.jc_states.specs.PodLists.{IsRising}
use Rattle.jc_types.proofs.KeyFacts.{same_uid-eq}
use Rattle.jc_types.proofs.ListFacts.{Each-weaker, Each-filter, Each-passes}
use Rattle.jc_states.proofs.PodListFacts.{pod_among, rises_put, rises_filter, among_put, among_drop, rises-found, length-put_pod, length-drop_pod, length-filter-le}

-- The pods of a log are ascending.
pub pods_in-rises : (log : List Entry) → IsRising (pods_in log)
pods_in-rises [] = tt
pods_in-rises (JobPut job ∷ older) = pods_in-rises older
pods_in-rises (JobGone job ∷ older) = pods_in-rises older
pods_in-rises (PodPut pod ∷ older) = rises_put 0 pod (pods_in older) (omega arith) (pods_in-rises older)
pods_in-rises (PodGone pod ∷ older) = rises_filter 0 (λ p. not (same_uid p.uid pod.uid)) (pods_in older) (pods_in-rises older)

-- The list of pods has of each UID the pod of that UID.
pub pods_in-among : (u : Uid) (log : List Entry) → pod_among u (pods_in log) ≡ pod_in u log
pods_in-among u [] = refl
pods_in-among u (JobPut job ∷ older) = pods_in-among u older
pods_in-among u (JobGone job ∷ older) = pods_in-among u older
pods_in-among u (PodPut pod ∷ older) = among_put u pod (pods_in older) ∙ by (pods_in-among u older) (same_uid pod.uid u)
  where
    by : pod_among u (pods_in older) ≡ living (life u older) → (b : Bool) → cond b (Some pod) (pod_among u (pods_in older)) ≡ living (cond b (Live pod) (life u older))
    by ih true = refl
    by ih false = ih
pods_in-among u (PodGone pod ∷ older) = among_drop u pod.uid (pods_in older) ∙ by (pods_in-among u older) (same_uid pod.uid u)
  where
    by : pod_among u (pods_in older) ≡ living (life u older) → (b : Bool) → cond b None (pod_among u (pods_in older)) ≡ living (cond b Gone (life u older))
    by ih true = refl
    by ih false = ih

-- A life with a pod is that pod's.
pub living-live : (l : Life) (pod : Pod) → living l ≡ Some pod → l ≡ Live pod
living-live Never pod h = absurd (true≢false (sym (ap is_some h)))
living-live (Live old) pod h = ap Live (ap (λ (o : Option Pod). elim o [ None ↦ old | Some p ↦ p ]) h)
living-live Gone pod h = absurd (true≢false (sym (ap is_some h)))

-- Each of the pods of a log lives.
pub pods_in-live : (log : List Entry) → Each (λ pod. life pod.uid log ≡ Live pod) (pods_in log)
pods_in-live log =
    Each-weaker (λ pod. pod_among pod.uid (pods_in log) ≡ Some pod) (λ pod. life pod.uid log ≡ Live pod)
    (λ pod h. living-live (life pod.uid log) pod (sym (pods_in-among pod.uid log) ∙ h)) (pods_in log) (rises-found 0 (pods_in log) (pods_in-rises log))

-- Each pod of a Job lives.
pub pods_of-live : (j : Uid) (log : List Entry) → Each (λ pod. life pod.uid log ≡ Live pod) (pods_of j log)
pods_of-live j log = Each-filter (λ pod. life pod.uid log ≡ Live pod) (λ pod. same_uid pod.owner_uid j) (pods_in log) (pods_in-live log)

-- Each pod of a Job was made for it.
pub pods_of-owned : (j : Uid) (log : List Entry) → Each (λ pod. pod.owner_uid ≡ j) (pods_of j log)
pods_of-owned j log =
    Each-weaker (λ pod. same_uid pod.owner_uid j ≡ true) (λ pod. pod.owner_uid ≡ j) (λ pod h. same_uid-eq pod.owner_uid j h) (pods_of j log)
    (Each-passes (λ pod. same_uid pod.owner_uid j) (pods_in log))

-- ---- how many they are

-- A log has no more pods than entries.
pub pods_in-few : (log : List Entry) → length (pods_in log) ≤ length log
pods_in-few [] = omega arith
pods_in-few (e ∷ older) = by (pods_in-few older) e
  where
    by : length (pods_in older) ≤ length older → (e : Entry) → length (pods_after e (pods_in older)) ≤ suc (length older)
    by ih (JobPut job) = omega (arith, ih)
    by ih (JobGone job) = omega (arith, ih)
    by ih (PodPut pod) = let put = length-put_pod pod (pods_in older) in omega (arith, ih, put)
    by ih (PodGone pod) = let dropped = length-drop_pod pod.uid (pods_in older) in omega (arith, ih, dropped)

upto-few : (n : ℕ) (log : List Entry) → length (upto n log) ≤ length log
upto-few n [] = omega arith
upto-few n (e ∷ older) = by (upto-few n older) (nat_lt (length older) n)
  where
    by : length (upto n older) ≤ length older → (b : Bool) → length (cond b (e ∷ older) (upto n older)) ≤ suc (length older)
    by ih true = omega arith
    by ih false = omega (arith, ih)

-- So it was at each version, under each owner key.
pub pods_under-few : (k : Key) (n : ℕ) (log : List Entry) → length (pods_under k (upto n log)) ≤ length log
pods_under-few k n log =
    let own = length-filter-le (λ pod. same_key pod.owner k) (pods_in (upto n log)) in
    let all = pods_in-few (upto n log) in
    let part = upto-few n log in
    omega (arith, own, all, part)
