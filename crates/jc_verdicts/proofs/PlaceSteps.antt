-- The lists of places after one more entry.
use Rattle.std.proofs.Common.{◌≡◌, ℕ, Bool, true, false, cond, not, ◌&&◌, ◌||◌, List, [], ◌∷◌, ◌++◌, length, Option, Some, None, option_map, refl, sym, ap, ◌∙◌, subst}
use Rattle.std.specs.Option.{option_map_or}
use Rattle.std.proofs.lemmas.Bool.{both_ways}
use Rattle.jc_types.specs.declared.numbers.Uid.{Uid}
use Rattle.jc_types.specs.declared.objects.Entry.{Entry}
use Rattle.jc_types.specs.declared.objects.Entry.TheVariants.{JobPut, JobGone, PodPut, PodGone}
use Rattle.jc_types.specs.declared.objects.Job.{Job}
use Rattle.jc_types.specs.declared.objects.Pod.{Pod}
use Rattle.jc_types.specs.declared.objects.KeyNames.{KeyNames as Key}
use Rattle.jc_types.specs.Keys.{same_key, same_uid}
use Rattle.jc_types.proofs.KeyFacts.{same_uid-eq}
use Rattle.jc_log.specs.Log.{Live, Gone, life, living, pod_in}
use Rattle.jc_log.specs.PlainReadings.{is_about_job}
use Rattle.jc_verdicts.specs.declared.by_uid.Lists.{Lists}
use Rattle.jc_verdicts.specs.declared.by_uid.Owners.{Owners}
use Rattle.jc_verdicts.specs.declared.places.Places.{Places}
use Rattle.jc_verdicts.specs.ByUid.{Adds, AddsTo, Sets, places_under, owner_in, places_at}
use Rattle.jc_verdicts.specs.LogPlaces.{ArePlaces, was_owned, owns, places_where, touches}

-- The owner of a pod.
abbrev owner_of : Pod → Uid
owner_of pod = pod.owner_uid

-- A place is told to the owner, and to the one before where that is another: so it is told to each of them once.
told_once : (b c d : Bool) (with out : List ℕ) → (b ≡ true → d ≡ c) → (b ≡ false → d ≡ true → c ≡ false) → (place : ℕ) → with ≡ out ++ place ∷ []
    → cond (not d && c) (cond b with out ++ place ∷ []) (cond b with out) ≡ cond (b || c) with out
told_once true true true with out same apart place is = refl
told_once true true false with out same apart place is = absurd (both_ways false refl (same refl))
told_once true false true with out same apart place is = refl
told_once true false false with out same apart place is = refl
told_once false true true with out same apart place is = absurd (both_ways true (apart refl refl) refl)
told_once false true false with out same apart place is = sym is
told_once false false true with out same apart place is = refl
told_once false false false with out same apart place is = refl

-- Whose a pod is, by its owner.
owner_is : (j : Uid) (o : Option Pod) → option_map_or (λ u. same_uid u j) (option_map owner_of o) false ≡ option_map_or (λ (p : Pod). same_uid p.owner_uid j) o false
owner_is j None = refl
owner_is j (Some p) = refl

module _ (older : List Entry) (place : ℕ) (long : length older ≡ place) (old : Lists)
    (are : (j : Uid) → places_under old j ≡ places_where (touches j) older) where
  -- The place is added where the entry touches.
  added : (j : Uid) (b : Bool) → cond b (places_under old j ++ place ∷ []) (places_under old j) ≡ cond b (places_where (touches j) older ++ length older ∷ []) (places_where (touches j) older)
  added j b =
      ap (λ ps. cond b (ps ++ place ∷ []) ps) (are j)
      ∙ ap (λ n. cond b (places_where (touches j) older ++ n ∷ []) (places_where (touches j) older)) (sym long)

  -- A pod is put.
  pub pods-put : (pod : Pod) (before : Option Uid) (mid new : Lists) → before ≡ option_map owner_of (pod_in pod.uid older)
      → AddsTo old mid (same_uid pod.owner_uid) place → AddsTo mid new (λ j. was_owned before pod.owner_uid j) place
      → (j : Uid) → places_under new j ≡ places_where (touches j) (PodPut pod ∷ older)
  pods-put pod before mid new was own others j =
      others j
      ∙ ap (λ ps. cond (was_owned before pod.owner_uid j) (ps ++ place ∷ []) ps) (own j)
      ∙ ap (λ o. cond (was_owned o pod.owner_uid j) (told ++ place ∷ []) told) was
      ∙ by (pod_in pod.uid older)
      ∙ added j (same_uid pod.owner_uid j || owns j pod.uid older)
    where
      list : List ℕ
      list = places_under old j

      told : List ℕ
      told = cond (same_uid pod.owner_uid j) (list ++ place ∷ []) list

      by : (o : Option Pod) → cond (was_owned (option_map owner_of o) pod.owner_uid j) (told ++ place ∷ []) told
          ≡ cond (same_uid pod.owner_uid j || option_map_or (λ (p : Pod). same_uid p.owner_uid j) o false) (list ++ place ∷ []) list
      by None = told_once (same_uid pod.owner_uid j) false false (list ++ place ∷ []) list (λ h. refl) (λ h k. refl) place refl
      by (Some p) =
          told_once (same_uid pod.owner_uid j) (same_uid p.owner_uid j) (same_uid p.owner_uid pod.owner_uid) (list ++ place ∷ []) list
          (λ h. ap (same_uid p.owner_uid) (same_uid-eq pod.owner_uid j h))
          (λ h k. ap (λ u. same_uid u j) (same_uid-eq p.owner_uid pod.owner_uid k) ∙ h) place refl

  -- A pod goes that has an owner.
  pub pods-gone : (pod : Pod) (owner : Uid) (new : Lists) → Some owner ≡ option_map owner_of (pod_in pod.uid older) → AddsTo old new (same_uid owner) place
      → (j : Uid) → places_under new j ≡ places_where (touches j) (PodGone pod ∷ older)
  pods-gone pod owner new was own j =
      own j
      ∙ ap (λ b. cond b (places_under old j ++ place ∷ []) (places_under old j))
      (ap (λ (x : Option Uid). option_map_or (λ u. same_uid u j) x false) was ∙ owner_is j (pod_in pod.uid older))
      ∙ added j (owns j pod.uid older)

  -- A pod goes that never was.
  pub pods-never : (pod : Pod) → None ≡ option_map owner_of (pod_in pod.uid older) → (j : Uid) → places_under old j ≡ places_where (touches j) (PodGone pod ∷ older)
  pods-never pod was j =
      are j
      ∙ ap (λ b. cond b (places_where (touches j) older ++ length older ∷ []) (places_where (touches j) older))
      (ap (λ (x : Option Uid). option_map_or (λ u. same_uid u j) x false) was ∙ owner_is j (pod_in pod.uid older))

module _ (older : List Entry) (old new : Owners) (pod : Pod) (before : (u : Uid) → owner_in old u ≡ option_map owner_of (pod_in u older)) where
  -- The owner of a pod that is put.
  pub owners-put : Sets old new pod.uid (Some pod.owner_uid) → (u : Uid) → owner_in new u ≡ option_map owner_of (pod_in u (PodPut pod ∷ older))
  owners-put sets u = sets u ∙ by (same_uid pod.uid u)
    where
      by : (b : Bool) → cond b (Some pod.owner_uid) (owner_in old u) ≡ option_map owner_of (living (cond b (Live pod) (life u older)))
      by true = refl
      by false = before u

  -- A pod that is gone has none.
  pub owners-gone : Sets old new pod.uid None → (u : Uid) → owner_in new u ≡ option_map owner_of (pod_in u (PodGone pod ∷ older))
  owners-gone sets u = sets u ∙ by (same_uid pod.uid u)
    where
      by : (b : Bool) → cond b None (owner_in old u) ≡ option_map owner_of (living (cond b Gone (life u older)))
      by true = refl
      by false = before u

module _ (older : List Entry) (place : ℕ) (old new : Places) (entry : Entry) (job : Job) (key : Key) (again : key ≡ job.key) (long : length older ≡ place)
    (adds : Adds same_key old.jobs.entries new.jobs.entries (same_key key) place)
    (pods : new.pods ≡ old.pods) (owners : new.owners ≡ old.owners) (are : ArePlaces older old) where
  -- The place is added to the list of the Job's key.
  job_added : (k : Key) → places_at same_key new.jobs.entries k
      ≡ cond (same_key job.key k) (places_where (λ e rest. is_about_job k e) older ++ length older ∷ []) (places_where (λ e rest. is_about_job k e) older)
  job_added k =
      adds k
      ∙ ap (λ ps. cond (same_key key k) (ps ++ place ∷ []) ps) (are.jobs k)
      ∙ ap (λ x. cond (same_key x k) (places_where (λ e rest. is_about_job k e) older ++ place ∷ []) (places_where (λ e rest. is_about_job k e) older)) again
      ∙ ap (λ n. cond (same_key job.key k) (places_where (λ e rest. is_about_job k e) older ++ n ∷ []) (places_where (λ e rest. is_about_job k e) older)) (sym long)

  -- An entry about the Job changes the list of its key alone.
  job_step : (e : Entry)
      → ((k : Key) → places_where (λ x rest. is_about_job k x) (e ∷ older)
      ≡ cond (same_key job.key k) (places_where (λ x rest. is_about_job k x) older ++ length older ∷ []) (places_where (λ x rest. is_about_job k x) older))
      → ((j : Uid) → places_where (touches j) (e ∷ older) ≡ places_where (touches j) older) → ((u : Uid) → pod_in u (e ∷ older) ≡ pod_in u older) → ArePlaces (e ∷ older) new
  job_step e about same lives = record {
    pods = λ j. ap (λ lists. places_under lists j) pods ∙ are.pods j ∙ sym (same j);
    jobs = λ k. job_added k ∙ sym (about k);
    owners = λ u. ap (λ all. owner_in all u) owners ∙ are.owners u ∙ ap (option_map owner_of) (sym (lives u));
  }

  -- A Job is put.
  pub job-put : entry ≡ JobPut job → ArePlaces (entry ∷ older) new
  job-put is = subst (λ e. ArePlaces (e ∷ older) new) (sym is) (job_step (JobPut job) (λ k. refl) (λ j. refl) (λ u. refl))

  -- A Job goes.
  pub job-gone : entry ≡ JobGone job → ArePlaces (entry ∷ older) new
  job-gone is = subst (λ e. ArePlaces (e ∷ older) new) (sym is) (job_step (JobGone job) (λ k. refl) (λ j. refl) (λ u. refl))
