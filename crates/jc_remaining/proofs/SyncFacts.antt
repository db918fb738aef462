-- A whole sync leaves fewer pods to be made by those that it makes; and where it makes none, but has something to do with
-- one, less of those that are there.
use Rattle.std.proofs.Common.{◌≡◌, ◌⊎◌, inl, inr, ℕ, ◌+◌, ◌<◌, ◌≤◌, Bool, true, false, cond, List, [], ◌∷◌, ◌++◌, length, Option, Some, None, IfSome, refl, sym, ap, ◌∙◌, subst, arith, true≢false}
use Rattle.std.specs.List.{AllByRecursion as Each}
use Rattle.std.specs.Option.{option_map_or}
use Rattle.std.proofs.lemmas.Bool.{and_parts, false_from_ne_true, or_cases, or_left, or_right}
use Rattle.std.proofs.lemmas.List.{append-nil}
use Rattle.std.proofs.lemmas.List.Elements.{All-contains, All-from_recursion, recursion_from_All}
use Rattle.std.proofs.lemmas.Option.{none-some as none_some, same_Some as some_is}
use Rattle.jc_types.proofs.KeyFacts.{same_key-eq, same_key-itself, same_uid-itself}
use Rattle.jc_types.specs.declared.objects.KeyNames.{KeyNames as Key}
use Rattle.jc_types.specs.Keys.{same_key, same_uid}
use Rattle.jc_types.specs.declared.actions.End.{End}
use Rattle.jc_types.specs.declared.numbers.Uid.{Uid}
use Rattle.jc_types.specs.declared.numbers.Version.{Version}
use Rattle.jc_types.specs.declared.objects.Entry.{Entry}
use Rattle.jc_types.specs.declared.objects.Job.{Job}
use Rattle.jc_types.specs.declared.objects.Pod.{Pod}
use Rattle.jc_states.specs.Bases.{own_pods}
use Rattle.jc_states.specs.Pods.{is_active, is_tracked}
use Rattle.jc_states.specs.UidLists.{is_in}
use Rattle.jc_states.specs.declared.bases.Basis.{Basis}
use Rattle.jc_states.proofs.PodListFacts.{pod_among}
use Rattle.jc_states.proofs.UidListFacts.{Found, some_in}
use Rattle.jc_log.specs.Log.{job_in, pods_in}
use Rattle.jc_log.proofs.WriteFacts.{job_in-key}
use Rattle.jc_plan.specs.LetGoes.{is_to_mark}
use Rattle.jc_plan.specs.PodNumbers.{is_let_go_of}
use Rattle.jc_plan.specs.Plans.{planned}
use Rattle.jc_plan.specs.Releases.{due_uids, is_orphan, is_owed, is_released}
use Rattle.jc_plan.specs.SeenPods.{IsSeen}
use Rattle.jc_plan.specs.Statuses.{accounted, decided_in, is_end_decided}
use Rattle.jc_plan.specs.declared.plans.Planned.{Planned}
use Rattle.jc_plan.proofs.OneWay.{goes-seen}
use Rattle.jc_plan.proofs.PartFacts.{planned-here}
use Rattle.jc_plan.proofs.PlanFacts.{plan-let_goes, plan-marks, plan-releases}
use Rattle.jc_calm.specs.SettleTurns.{pods_asked}
use Rattle.jc_retries.specs.Grants.{frees}
use Rattle.jc_bearing.specs.Whole.{DoesAll, SawLog}
use Rattle.jc_bearing.proofs.DoneFacts.{WasSeen, all-seen, own-seen}
use Rattle.jc_remaining.specs.Remaining.{FitsAll, HasEach, LastEndsCount, all_creations, all_left, creations_for, creations_under}
use Rattle.jc_remaining.proofs.AllowedFacts.{other-for, own-fewer}
use Rattle.jc_remaining.proofs.Sums.{creations-fewer, creations-most}
use Rattle.jc_remaining.proofs.ServedFacts.{Frees, IsOneOf, IsWanted, Marks, all-less, all-most}

-- ---- pods that may still be made

module _ (fates : Key → Option (List End)) (log : List Entry) (lasts : LastEndsCount fates log) (new : List Entry) (basis : Basis) (saw : SawLog log basis) (all : DoesAll log basis new) (fits : FitsAll log) where
  abbrev made : ℕ
  made = length (planned basis).creates

  -- For its own Job as many fewer as it makes.
  its-fewer : (job : Job) → job_in basis.key log ≡ Some job → creations_under fates new basis.key + made ≤ creations_under fates log basis.key
  its-fewer job there = own-fewer fates log new basis all job saw there (fits.counted basis.key job there) (lasts basis.key job there)

  none-then : (k : Key) → job_in k new ≡ None → creations_under fates new k ≡ 0
  none-then k none = ap (λ o. option_map_or (creations_for fates new) o 0) none

  own-most : creations_under fates new basis.key ≤ creations_under fates log basis.key
  own-most = by (job_in basis.key log) refl
    where
      by : (o : Option Job) → job_in basis.key log ≡ o → creations_under fates new basis.key ≤ creations_under fates log basis.key
      by None none = let nothing = none-then basis.key (all.others.none (saw.job ∙ none)) in omega (arith, nothing)
      by (Some job) there = let fewer = its-fewer job there in omega (arith, fewer)

  other-same : (k : Key) → same_key basis.key k ≡ false → creations_under fates new k ≡ creations_under fates log k
  other-same k apart = by (job_in k log) refl
    where
      by : (o : Option Job) → job_in k log ≡ o → creations_under fates new k ≡ creations_under fates log k
      by None none = none-then k (all.others.jobs k apart ∙ none) ∙ sym (ap (λ o. option_map_or (creations_for fates log) o 0) none)
      by (Some job) there =
          ap (λ o. option_map_or (creations_for fates new) o 0) (all.others.jobs k apart ∙ there)
          ∙ same
          ∙ sym (ap (λ o. option_map_or (creations_for fates log) o 0) there)
        where
          uids : (o : Option Job) → o ≡ job_in basis.key log → IfSome o (λ seen. same_uid seen.uid job.uid ≡ false)
          uids None is = tt
          uids (Some seen) is =
              false_from_ne_true (same_uid seen.uid job.uid)
              (λ same. true≢false (sym (same_key-itself k) ∙ ap (λ q. same_key q k) (sym (fits.apart basis.key k seen job (sym is) there same)) ∙ apart))

          same : creations_for fates new job ≡ creations_for fates log job
          same = other-for fates log new basis all job (ap (same_key basis.key) (job_in-key k log job there) ∙ apart) (uids basis.job saw.job)

  any-most : (k : Key) → creations_under fates new k ≤ creations_under fates log k
  any-most k = by (same_key basis.key k) refl
    where
      by : (b : Bool) → same_key basis.key k ≡ b → creations_under fates new k ≤ creations_under fates log k
      by true s = subst (λ q. creations_under fates new q ≤ creations_under fates log q) (same_key-eq basis.key k s) own-most
      by false s = let same = other-same k s in omega (arith, same)

  pub sync-creations-most : (keys : List Key) → all_creations fates new keys ≤ all_creations fates log keys
  sync-creations-most keys = creations-most fates log new any-most keys

  -- A plan that makes a pod has a Job.
  pub sync-creations-fewer : (keys : List Key) → HasEach keys log → 0 < length (planned basis).creates → all_creations fates new keys < all_creations fates log keys
  sync-creations-fewer keys each some = by (job_in basis.key log) refl
    where
      by : (o : Option Job) → job_in basis.key log ≡ o → all_creations fates new keys < all_creations fates log keys
      by None none = let nothing : 0 ≡ length (planned basis).creates = ap (λ (p : Planned). length p.creates) (planned-here basis None (saw.job ∙ none)) in absurd (omega (arith, nothing, some))
      by (Some job) there = let fewer = creations-fewer fates log new any-most basis.key made (its-fewer job there) keys (each basis.key job there) in omega (arith, fewer, some)

-- ---- pods that are there

among-of : (u : Uid) (pod : Pod) (pods : List Pod) → pod_among u pods ≡ Some pod → IsOneOf pod pods
among-of u pod [] h = absurd (none_some pod h)
among-of u pod (q ∷ pods) h = by (same_uid q.uid u) h (among-of u pod pods)
  where
    by : (b : Bool) → cond b (Some q) (pod_among u pods) ≡ Some pod → (pod_among u pods ≡ Some pod → IsOneOf pod pods) → (q ≡ pod) ⊎ IsOneOf pod pods
    by true g more = inl (some_is q pod g)
    by false g more = inr (more g)

-- One of the pods that are there is one that the plan has to do with.
pub record HasWanted (plan : Planned) (pods : List Pod) : Type 0 where
  pub pod : Pod
  pub wanted : IsWanted plan pod
  pub among : IsOneOf pod pods

module _ (log : List Entry) (basis : Basis) (saw : SawLog log basis) where
  abbrev plan : Planned
  plan = planned basis

  abbrev Has : Type 0
  Has = HasWanted (planned basis) (pods_in log)

  its-pods : (pod : Pod) → WasSeen log basis saw.pods saw.job pod → IsOneOf pod (pods_in log)
  its-pods pod seen = among-of pod.uid pod (pods_in log) seen.1

  abbrev Seen : Pod → Type 0
  Seen = WasSeen log basis saw.pods saw.job

  first-in : (u : Uid) (more : List Uid) → is_in u (u ∷ more) ≡ true
  first-in u more = or_left (same_uid u u) (is_in u more) (same_uid-itself u)

  -- It releases one.
  releases : (u : Uid) (more : List Uid) → (planned basis).releases ≡ u ∷ more → Has
  releases u more is = at (some_in Seen (is_released basis) u basis.pods (all-seen log basis saw.pods saw.job) (ap (is_in u) (sym (plan-releases basis) ∙ is) ∙ first-in u more))
    where
      at : Found Seen (is_released basis) u → Has
      at f = record { pod = f.pod; wanted = Frees tracked freed; among = its-pods f.pod f.has }
        where
          tracked : f.pod.tracked ≡ true
          tracked = by (or_cases (is_owed (due_uids basis.job basis.pods) f.pod) (is_orphan basis f.pod) f.passes)
            where
              by : (is_owed (due_uids basis.job basis.pods) f.pod ≡ true) ⊎ (is_orphan basis f.pod ≡ true) → f.pod.tracked ≡ true
              by (inl h) = (and_parts (is_tracked f.pod) _ h).0
              by (inr h) = (and_parts (is_tracked f.pod) _ h).0

          freed : frees (planned basis) f.pod.uid ≡ true
          freed = or_left (is_in f.pod.uid (planned basis).releases) (is_let_go_of f.pod.uid (planned basis).let_goes) ((λ i. is_in (f.uid i) (is i)) ∙ first-in u more)

  -- It marks one.
  marks : (u : Uid) (more : List Uid) → (planned basis).marks ≡ u ∷ more → Has
  marks u more is = by basis.job refl
    where
      by : (o : Option Job) → basis.job ≡ o → Has
      by None this = absurd (true≢false (sym (ap (is_in u) is ∙ first-in u more) ∙ ap (λ (p : Planned). is_in u p.marks) (sym (planned-here basis None this))))
      by (Some job) this = at (some_in Seen (is_to_mark (is_end_decided job (decided_in job basis))) u (own_pods job basis.pods) (own-seen log basis saw.pods saw.job job) (ap (is_in u) (sym (plan-marks basis job this) ∙ is) ∙ first-in u more))
        where
          at : Found Seen (is_to_mark (is_end_decided job (decided_in job basis))) u → Has
          at f = record {
            pod = f.pod;
            wanted = Marks (and_parts (is_active f.pod) _ f.passes).0 ((λ i. is_in (f.uid i) (is i)) ∙ first-in u more);
            among = its-pods f.pod f.has;
          }

  -- It lets one go.
  goes : (row : Uid × Version) (more : List (Uid × Version)) → (planned basis).let_goes ≡ row ∷ more → Has
  goes row more is = by basis.job refl
    where
      here : is_let_go_of row.0 (planned basis).let_goes ≡ true
      here = ap (is_let_go_of row.0) is ∙ or_left (same_uid row.0 row.0) (is_let_go_of row.0 more) (same_uid-itself row.0)

      by : (o : Option Job) → basis.job ≡ o → Has
      by None this = absurd (true≢false (sym here ∙ ap (λ (p : Planned). is_let_go_of row.0 p.let_goes) (sym (planned-here basis None this))))
      by (Some job) this =
          at (subst (λ rows. Each (IsSeen (own_pods job basis.pods)) rows) (sym (plan-let_goes basis job this) ∙ is)
          (recursion_from_All (IsSeen (own_pods job basis.pods)) _ (goes-seen (own_pods job basis.pods) (is_end_decided job (decided_in job basis)) job (accounted job basis)))).0
        where
          at : IsSeen (own_pods job basis.pods) row → Has
          at s = record {
            pod = s.pod;
            wanted = Frees (and_parts (is_active s.pod) (is_tracked s.pod) s.active).1
                (or_right (is_in s.pod.uid (planned basis).releases) (is_let_go_of s.pod.uid (planned basis).let_goes) (ap (λ v. is_let_go_of v (planned basis).let_goes) (sym (ap (λ (r : Uid × Version). r.0) s.here)) ∙ here));
            among = its-pods s.pod (All-contains Seen (own_pods job basis.pods) s.pod (All-from_recursion Seen (own_pods job basis.pods) (own-seen log basis saw.pods saw.job job)) s.among);
          }

  -- So a plan that asks for a pod and makes none.
  has-wanted : (planned basis).creates ≡ [] → 0 < pods_asked (planned basis) → Has
  has-wanted none some = by (planned basis).marks refl (planned basis).let_goes refl (planned basis).releases refl
    where
      by : (marked : List Uid) → (planned basis).marks ≡ marked → (gone : List (Uid × Version)) → (planned basis).let_goes ≡ gone → (released : List Uid) → (planned basis).releases ≡ released → Has
      by (u ∷ more) m gone g released r = marks u more m
      by [] m (row ∷ more) g released r = goes row more g
      by [] m [] g (u ∷ more) r = releases u more r
      by [] m [] g [] r =
          let c = ap length none in let x = ap length m in let y = ap length g in let z = ap length r in
          absurd (omega (arith, some, c, x, y, z))

  module _ (most : ℕ) (fates : Key → Option (List End)) (new : List Entry) (all : DoesAll log basis new) (none : (planned basis).creates ≡ []) where
    no-fresh : pods_in new ≡ all.all.after
    no-fresh = all.all.parts ∙ by all.all.fresh (all.all.count ∙ ap length none)
      where
        by : (fresh : List Pod) → length fresh ≡ 0 → all.all.after ++ fresh ≡ all.all.after
        by [] is = append-nil all.all.after
        by (pod ∷ fresh) is = absurd (omega (arith, is))

    pub sync-left-most : all_left most fates (pods_in new) ≤ all_left most fates (pods_in log)
    sync-left-most = subst (λ pods. all_left most fates pods ≤ all_left most fates (pods_in log)) (sym no-fresh) (all-most most fates (planned basis) (pods_in log) all.all.after all.all.served)

    pub sync-left-less : 0 < pods_asked (planned basis) → all_left most fates (pods_in new) < all_left most fates (pods_in log)
    sync-left-less some =
        let h = has-wanted none some in
        subst (λ pods. all_left most fates pods < all_left most fates (pods_in log)) (sym no-fresh) (all-less most fates (planned basis) h.pod h.wanted (pods_in log) all.all.after h.among all.all.served)
