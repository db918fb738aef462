-- Where no pod was made for a Job, it has none.
use Rattle.std.proofs.Common.{◌≡◌, ◌+◌, ◌<◌, ◌≤◌, Bool, true, false, cond, ◌&&◌, List, [], ◌∷◌, refl, sym, ap, subst, arith}
use Rattle.std.specs.List.{AllByRecursion as Each}
use Rattle.std.proofs.lemmas.Option.{none-some as none_some, same_Some as some_is}
use Rattle.jc_types.proofs.KeyFacts.{same_uid-eq, same_uid-itself}
use Rattle.jc_types.proofs.ListFacts.{Each-filter, Each-passes}
use Rattle.jc_types.specs.Keys.{same_key, same_uid}
use Rattle.jc_types.specs.declared.numbers.Uid.{Uid}
use Rattle.jc_types.specs.declared.objects.Entry.{Entry}
use Rattle.jc_types.specs.declared.objects.Entry.TheVariants.{JobPut, JobGone, PodPut, PodGone}
use Rattle.jc_types.specs.declared.objects.Job.{Job}
use Rattle.jc_types.specs.declared.objects.Pod.{Pod}
use Rattle.jc_states.specs.Bases.{is_own, own_pods}
use Rattle.jc_log.specs.Log.{Gone, Life, Live, Never, is_never, life, living, made_for, pods_in, pods_under}
use Rattle.jc_log.specs.Writes.{CanPut, Stored}
use Rattle.jc_log.proofs.PodFacts.{pods_in-live}

-- Pods that were made stay made.
pub made-more : (u : Uid) (e : Entry) (log : List Entry) → made_for u log ≤ made_for u (e ∷ log)
made-more u (JobPut job) log = omega arith
made-more u (JobGone job) log = omega arith
made-more u (PodPut pod) log = by (same_uid pod.owner_uid u && is_never (life pod.uid log))
  where
    by : (b : Bool) → made_for u log ≤ cond b (made_for u log + 1) (made_for u log)
    by true = omega arith
    by false = omega arith
made-more u (PodGone pod) log = omega arith

-- A pod that lives was made for its owner.
live-made : (log : List Entry) → Stored log → (u : Uid) (pod : Pod) → life u log ≡ Live pod → 0 < made_for pod.owner_uid log
live-made [] stored u pod there = absurd (none_some pod (ap living there))
live-made (JobPut job ∷ older) stored u pod there = live-made older stored.1 u pod there
live-made (JobGone job ∷ older) stored u pod there = live-made older stored.1 u pod there
live-made (PodPut new ∷ older) stored u pod there = by (same_uid new.uid u) there (live-made older stored.1)
  where
    by : (b : Bool) → cond b (Live new) (life u older) ≡ Live pod → ((v : Uid) (old : Pod) → life v older ≡ Live old → 0 < made_for old.owner_uid older) → 0 < made_for pod.owner_uid (PodPut new ∷ older)
    by true e more =
        subst (λ (p : Pod). 0 < made_for p.owner_uid (PodPut new ∷ older)) (some_is new pod (ap living e)) (at (life new.uid older) refl stored.0.can.0)
      where
        at : (l : Life) → life new.uid older ≡ l → CanPut older l new → 0 < made_for new.owner_uid (PodPut new ∷ older)
        at Never is can =
            let one : made_for new.owner_uid (PodPut new ∷ older) ≡ made_for new.owner_uid older + 1 =
            (λ i. cond (same_uid-itself new.owner_uid i && is_never (is i)) (made_for new.owner_uid older + 1) (made_for new.owner_uid older)) in omega (arith, one)
        at (Live old) is can =
            let before = subst (λ v. 0 < made_for v older) (sym can.owner_uid) (more new.uid old is) in
            let grows = made-more new.owner_uid (PodPut new) older in omega (arith, before, grows)
        at Gone is can = absurd can
    by false e more =
        let before = more u pod e in
        let grows = made-more pod.owner_uid (PodPut new) older in omega (arith, before, grows)
live-made (PodGone gone ∷ older) stored u pod there = by (same_uid gone.uid u) there (live-made older stored.1 u pod)
  where
    by : (b : Bool) → cond b Gone (life u older) ≡ Live pod → (life u older ≡ Live pod → 0 < made_for pod.owner_uid older) → 0 < made_for pod.owner_uid older
    by true e more = absurd (none_some pod (ap living e))
    by false e more = more e

pub none-own : (log : List Entry) (job : Job) → Stored log → made_for job.uid log ≡ 0 → own_pods job (pods_under job.key log) ≡ []
none-own log job stored none =
    by (own_pods job (pods_under job.key log))
    (Each-filter (λ (pod : Pod). life pod.uid log ≡ Live pod) (is_own job) (pods_under job.key log)
    (Each-filter (λ (pod : Pod). life pod.uid log ≡ Live pod) (λ (pod : Pod). same_key pod.owner job.key) (pods_in log) (pods_in-live log)))
    (Each-passes (is_own job) (pods_under job.key log))
  where
    by : (pods : List Pod) → Each (λ (pod : Pod). life pod.uid log ≡ Live pod) pods → Each (λ (pod : Pod). is_own job pod ≡ true) pods → pods ≡ []
    by [] live own = refl
    by (pod ∷ pods) live own =
        let some = subst (λ v. 0 < made_for v log) (same_uid-eq pod.owner_uid job.uid own.0) (live-made log stored pod.uid pod live.0) in
        absurd (omega (arith, some, none))
