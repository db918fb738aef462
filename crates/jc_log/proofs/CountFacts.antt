-- How many Jobs and pods a log has made, and how many pods are there: there is an entry for each.
use Rattle.std.proofs.Common.{◌≡◌, ◌≤◌, ◌+◌, ℕ, Bool, true, false, ◌&&◌, cond, List, [], ◌∷◌, length, is_some, refl, ap, ◌∙◌, arith}
use Rattle.jc_types.specs.declared.numbers.Uid.{Uid}
use Rattle.jc_types.specs.declared.objects.Entry.{Entry}
use Rattle.jc_types.specs.declared.objects.Entry.TheVariants.{JobPut, JobGone, PodPut, PodGone}
use Rattle.jc_types.specs.Keys.{same_uid}
use Rattle.jc_states.specs.PodLists.{put_pod}
use Rattle.jc_log.specs.Log.{Life, Never, Live, Gone, births, is_born, is_never, life, living, made_for, pods_in}
use Rattle.jc_log.specs.Writes.{CanPut, Stored}
use Rattle.jc_states.proofs.PodListFacts.{length-drop_pod, length-put_pod, length-put_there}
use Rattle.jc_log.proofs.PodFacts.{pods_in-among, pods_in-rises}

one_more : (b : Bool) (m n : ℕ) → m ≤ n → cond b m (m + 1) ≤ n + 1
one_more true m n h = omega arith
one_more false m n h = omega arith

one_if : (b : Bool) (m n : ℕ) → m ≤ n → cond b (m + 1) m ≤ n + 1
one_if true m n h = omega arith
one_if false m n h = omega arith

-- There is an entry for each birth.
pub births_within : (log : List Entry) → births log ≤ length log
births_within [] = omega arith
births_within (JobPut job ∷ older) =
    let h = one_more (is_born job.uid older) (births older) (length older) (births_within older) in omega (arith, h)
births_within (PodPut pod ∷ older) =
    let h = one_if (is_never (life pod.uid older)) (births older) (length older) (births_within older) in omega (arith, h)
births_within (JobGone job ∷ older) = let h = births_within older in omega (arith, h)
births_within (PodGone pod ∷ older) = let h = births_within older in omega (arith, h)

-- There is a birth for each pod that was made for an owner.
pub made_within_births : (owner : Uid) (log : List Entry) → made_for owner log ≤ births log
made_within_births owner [] = omega arith
made_within_births owner (JobPut job ∷ older) = by (is_born job.uid older) (made_within_births owner older)
  where
    by : (b : Bool) → made_for owner older ≤ births older → made_for owner older ≤ cond b (births older) (births older + 1)
    by true h = h
    by false h = omega (arith, h)
made_within_births owner (JobGone job ∷ older) = made_within_births owner older
made_within_births owner (PodPut pod ∷ older) =
    by (same_uid pod.owner_uid owner) (is_never (life pod.uid older)) (made_within_births owner older)
  where
    by : (own never : Bool) → made_for owner older ≤ births older
        → cond (own && never) (made_for owner older + 1) (made_for owner older) ≤ cond never (births older + 1) (births older)
    by true true h = omega (arith, h)
    by true false h = h
    by false true h = omega (arith, h)
    by false false h = h
made_within_births owner (PodGone pod ∷ older) = made_within_births owner older

-- There is an entry for each pod that was made for an owner.
pub made_within : (owner : Uid) (log : List Entry) → made_for owner log ≤ length log
made_within owner log =
    let few = made_within_births owner log in let all = births_within log in omega (arith, few, all)

-- There is a birth for each pod that is there.
pub pods_in-few : (log : List Entry) → Stored log → length (pods_in log) ≤ births log
pods_in-few [] all = omega arith
pods_in-few (JobPut job ∷ older) all = by (is_born job.uid older) (pods_in-few older all.1)
  where
    by : (b : Bool) → length (pods_in older) ≤ births older → length (pods_in older) ≤ cond b (births older) (births older + 1)
    by true h = h
    by false h = omega (arith, h)
pods_in-few (JobGone job ∷ older) all = pods_in-few older all.1
pods_in-few (PodPut pod ∷ older) all = by (life pod.uid older) refl all.0.can.0 (pods_in-few older all.1)
  where
    by : (l : Life) → life pod.uid older ≡ l → CanPut older l pod → length (pods_in older) ≤ births older
        → length (put_pod pod (pods_in older)) ≤ cond (is_never l) (births older + 1) (births older)
    by Never is can h = let more = length-put_pod pod (pods_in older) in omega (arith, more, h)
    by (Live old) is can h =
        let there = pods_in-among pod.uid older ∙ ap living is in
        let same = length-put_there 0 pod (pods_in older) (pods_in-rises older) (ap is_some there) in
        omega (arith, same, h)
    by Gone is can h = absurd can
pods_in-few (PodGone pod ∷ older) all =
    let less = length-drop_pod pod.uid (pods_in older) in let h = pods_in-few older all.1 in omega (arith, less, h)
