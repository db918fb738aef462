-- The pods that a sync saw: the Job's own are those that were made for it.
use Rattle.std.proofs.Common.{◌≡◌, ℕ, ◌≤◌, Bool, true, false, cond, not, ◌&&◌, ◌||◌, List, [], ◌∷◌, find, Option, Some, None, refl, sym, ap, ◌∙◌, subst, true≢false}
use Rattle.std.specs.List.{AllByRecursion as Each, list_any}
use Rattle.std.proofs.lemmas.Bool.{and_from, or_left, or_right, not_from_false}
use Rattle.std.proofs.Math.Bool.{and-false}
use Rattle.jc_types.specs.declared.numbers.Uid.{Uid}
use Rattle.jc_types.specs.declared.objects.Entry.{Entry}
use Rattle.jc_types.specs.declared.objects.Job.{Job}
use Rattle.jc_types.specs.declared.objects.Pod.{Pod}
use Rattle.jc_states.specs.declared.bases.Basis.{Basis}
use Rattle.jc_states.specs.Bases.{is_own, own_pods}
use Rattle.jc_types.specs.declared.objects.KeyNames.{KeyNames as Key}
use Rattle.jc_types.specs.Keys.{same_key, same_uid}
use Rattle.jc_log.specs.Log.{Life, Never, Live, Gone, upto, job_in, life, living, is_lost, pods_in, pods_of}
use Rattle.jc_states.specs.PodLists.{IsRising}
use Rattle.jc_states.specs.Pods.{is_tracked}
use Rattle.jc_log.specs.Writes.{Allowed, Legal, Stored}
use Rattle.jc_types.proofs.KeyFacts.{same_key-itself, same_uid-eq, same_uid-itself}
use Rattle.jc_types.proofs.ListFacts.{Each-weaker, any_filter, filter_filter, filter_same}
use Rattle.jc_log.proofs.PodFacts.{pods_in-among, pods_in-live, pods_in-rises, pods_of-live, pods_of-owned}
use Rattle.jc_states.proofs.PodListFacts.{rises_filter}
use Rattle.jc_log.proofs.WriteFacts.{Follows-upto, Stored-from_legal, job_in-key, kept_to, Kept}
use Rattle.jc_account.specs.Judged.{has_tracked}
use Rattle.jc_ledger.specs.Flights.{IsBasisOf}
use Rattle.jc_ledger.specs.Tied.{made_as}
use Rattle.jc_ledger.proofs.FrameFacts.{owner_made}
use Rattle.jc_ledger.proofs.MadeFacts.{made_as-upto, job_in-was_made}

-- The key under which a Job is found is that of all pods that were made for it.
pub owner-key : (k : Key) (x y : ℕ) (log : List Entry) (job : Job) (pod : Pod) → Legal log → job_in k (upto x log) ≡ Some job
    → life pod.uid (upto y log) ≡ Live pod → pod.owner_uid ≡ job.uid → pod.owner ≡ k
owner-key k x y log job pod legal there live own =
    let legal_y = Follows-upto Allowed y log legal in
    let stored_x = Stored-from_legal (upto x log) (Follows-upto Allowed x log legal) in
    let under = owner_made pod.uid (upto y log) pod legal_y live in
    let was = job_in-was_made k (upto x log) job stored_x there in
    let one = made_as-upto pod.owner_uid y log under.made under.is_made in
    let other = made_as-upto job.uid x log was.made was.is_made in
    let same : under.made ≡ was.made = ap (λ (o : Option Job). elim o [ None ↦ under.made | Some m ↦ m ]) (sym one ∙ ap (λ j. made_as j log) own ∙ other) in
    sym under.key ∙ ap (λ (m : Job). m.key) same ∙ sym was.step.key ∙ job_in-key k (upto x log) job there

-- The Job's own pods that a sync saw.
pub own-is : (log : List Entry) (basis : Basis) (job : Job) → Legal log → IsBasisOf log basis → basis.job ≡ Some job
    → own_pods job basis.pods ≡ pods_of job.uid (upto basis.pods_at.0 log)
own-is log basis job legal is saw =
    let k = basis.key in
    let seen = upto basis.pods_at.0 log in
    ap (own_pods job) is.pods
    ∙ filter_filter (is_own job) (λ pod. same_key pod.owner k) (pods_in seen)
    ∙ filter_same (λ pod. same_key pod.owner k && is_own job pod) (is_own job) (pods_in seen)
    (Each-weaker (λ pod. life pod.uid seen ≡ Live pod) (λ pod. (same_key pod.owner k && is_own job pod) ≡ is_own job pod)
    (λ pod live. by pod live (is_own job pod) refl) (pods_in seen) (pods_in-live seen))
  where
    by : (pod : Pod) → life pod.uid (upto basis.pods_at.0 log) ≡ Live pod → (b : Bool) → is_own job pod ≡ b → (same_key pod.owner basis.key && is_own job pod) ≡ is_own job pod
    by pod live true own =
        let key = owner-key basis.key basis.jobs_at.0 basis.pods_at.0 log job pod legal (sym is.job ∙ saw) live (same_uid-eq pod.owner_uid job.uid own) in
        ap (λ b. b && is_own job pod) (ap (λ o. same_key o basis.key) key ∙ same_key-itself basis.key)
    by pod live false own = ap (λ b. same_key pod.owner basis.key && b) own ∙ and-false (same_key pod.owner basis.key) ∙ sym own

-- Pods that a sync saw ascend.
pub basis-rises : (log : List Entry) (basis : Basis) → IsBasisOf log basis → IsRising basis.pods
basis-rises log basis is =
    subst IsRising (sym is.pods) (rises_filter 0 (λ pod. same_key pod.owner basis.key) (pods_in (upto basis.pods_at.0 log)) (pods_in-rises (upto basis.pods_at.0 log)))

module _ {X : Type 0} where
  -- What is found and passes another test is one that does.
  pub found_any : (test other : X → Bool) (xs : List X) (x : X) → find test xs ≡ Some x → other x ≡ true → list_any other xs ≡ true
  found_any test other [] x h g = absurd (true≢false (sym (ap (λ (o : Option X). elim o [ None ↦ false | Some y ↦ true ]) h)))
  found_any test other (y ∷ ys) x h g = by (found_any test other ys x) (test y) h
    where
      by : (find test ys ≡ Some x → other x ≡ true → list_any other ys ≡ true) → (b : Bool) → cond b (Some y) (find test ys) ≡ Some x → (other y || list_any other ys) ≡ true
      by ih true e =
          let same : y ≡ x = ap (λ (o : Option X). elim o [ None ↦ y | Some z ↦ z ]) e in
          or_left (other y) (list_any other ys) (ap other same ∙ g)
      by ih false e = or_right (other y) (list_any other ys) (ih e g)

-- A tracked pod that was made for the Job is among its own.
pub tracked-own : (j u : Uid) (log : List Entry) (pod : Pod) → life u log ≡ Live pod → pod.uid ≡ u → pod.owner_uid ≡ j → pod.tracked ≡ true → has_tracked (pods_of j log) u ≡ true
tracked-own j u log pod live uid own tracked =
    any_filter (λ (p : Pod). is_tracked p && same_uid p.uid u) (λ p. same_uid p.owner_uid j) (pods_in log)
    ∙ found_any (λ (p : Pod). same_uid p.uid u) (λ p. same_uid p.owner_uid j && (is_tracked p && same_uid p.uid u)) (pods_in log) pod
    (pods_in-among u log ∙ ap living live)
    (and_from (same_uid pod.owner_uid j) (is_tracked pod && same_uid pod.uid u)
    (ap (λ v. same_uid v j) own ∙ same_uid-itself j)
    (and_from (is_tracked pod) (same_uid pod.uid u) tracked (ap (λ v. same_uid v u) uid ∙ same_uid-itself u)))

-- A pod that was made for the Job and is not tracked among its own has lost its finalizer by then.
pub untracked-lost : (j u : Uid) (m n : ℕ) (log : List Entry) (pod : Pod) → Stored log → m ≤ n → life u (upto m log) ≡ Live pod → pod.uid ≡ u → pod.owner_uid ≡ j
    → has_tracked (pods_of j (upto n log)) u ≡ false → is_lost (life u (upto n log)) ≡ true
untracked-lost j u m n log pod stored le live uid own out =
    by (life u (upto n log)) refl (kept_to (λ p. (p.uid ≡ u) × (p.owner_uid ≡ j)) (λ old new step q. (step.uid ∙ q.0, step.owner_uid ∙ q.1)) u m n log stored le pod live (uid, own))
  where
    at_pod : (now : Pod) → life u (upto n log) ≡ Live now → (now.uid ≡ u) × (now.owner_uid ≡ j) → (b : Bool) → now.tracked ≡ b → not now.tracked ≡ true
    at_pod now is has true t = absurd (true≢false (sym (tracked-own j u (upto n log) now is has.0 has.1 t) ∙ out))
    at_pod now is has false t = not_from_false now.tracked t

    by : (l : Life) → life u (upto n log) ≡ l → Kept (λ p. (p.uid ≡ u) × (p.owner_uid ≡ j)) l → is_lost l ≡ true
    by Never is kept = absurd kept
    by (Live now) is kept = at_pod now is kept now.tracked refl
    by Gone is kept = refl

-- Each own pod is as it stood where the sync saw it, and was made for the Job.
pub own-live : (j : Uid) (log : List Entry) → Each (λ pod. (life pod.uid log ≡ Live pod) × (pod.owner_uid ≡ j)) (pods_of j log)
own-live j log = both (pods_of j log) (pods_of-live j log) (pods_of-owned j log)
  where
    both : (pods : List Pod) → Each (λ pod. life pod.uid log ≡ Live pod) pods → Each (λ pod. pod.owner_uid ≡ j) pods → Each (λ pod. (life pod.uid log ≡ Live pod) × (pod.owner_uid ≡ j)) pods
    both [] a b = tt
    both (pod ∷ pods) a b = ((a.0, b.0), both pods a.1 b.1)
