-- The Job of a key that is never deleted stays there, and each pod of the key was made for it. Where there is a pod there is
-- a controller.
use Rattle.std.proofs.Common.{◌≡◌, ◌⊎◌, inl, inr, ℕ, zero, suc, ◌<◌, nat_lt, Bool, true, false, cond, List, [], ◌∷◌, length, Option, Some, None, IfSome, refl, sym, ap, ◌∙◌, subst, arith, true≢false}
use Rattle.std.proofs.lemmas.Bool.{cond-false, cond-true}
use Rattle.std.proofs.lemmas.Option.{none-some as none_some}
use Rattle.std.specs.List.{AllByRecursion as Each}
use Rattle.jc_types.proofs.KeyFacts.{same_key-eq, same_key-itself, same_uid-itself}
use Rattle.jc_types.specs.declared.objects.KeyNames.{KeyNames as Key}
use Rattle.jc_types.specs.Keys.{same_key, same_uid}
use Rattle.jc_types.specs.declared.numbers.Uid.{Uid}
use Rattle.jc_types.specs.declared.objects.Entry.{Entry}
use Rattle.jc_types.specs.declared.objects.Entry.TheVariants.{JobPut, JobGone, PodPut, PodGone}
use Rattle.jc_types.specs.declared.objects.Job.{Job}
use Rattle.jc_types.specs.declared.objects.Pod.{Pod}
use Rattle.jc_types.specs.declared.runs.Shape.{Shape}
use Rattle.jc_types.specs.declared.specifications.JobSpec.{JobSpec}
use Rattle.jc_types.specs.declared.specifications.Restart.{Restart}
use Rattle.jc_types.specs.declared.specifications.Restart.TheVariants.{Never, OnFailure}
use Rattle.jc_states.specs.Pods.{goes}
use Rattle.jc_states.specs.declared.bases.Basis.{Basis}
use Rattle.jc_states.specs.PodLists.{drop_pod}
use Rattle.jc_states.proofs.PodListFacts.{pod_among}
use Rattle.jc_log.specs.Acts as does
use Rattle.jc_log.specs.Acts.{Act}
use Rattle.jc_log.specs.Deeds.{Deed}
use Rattle.jc_log.specs.Log.{Live, job_in, life, pod_in, pods_in, upto}
use Rattle.jc_log.specs.Requests.{create_job_at, create_job_gives, grown, made_job, pod_entry}
use Rattle.jc_log.proofs.PodFacts.{pods_in-among}
use Rattle.jc_log.proofs.WriteFacts.{job_in-key}
use Rattle.jc_plan.specs.Decisions.{restarts_on_failure}
use Rattle.jc_history.specs.Diaries.{moment}
use Rattle.jc_history.specs.Legal.{IsLegal, IsOfShape}
use Rattle.jc_history.specs.Replies.{gives, log_given}
use Rattle.jc_counted.proofs.KeptFacts.{AllBy, AreKept, LifeBy, MayAct, PutsBy, act-by, found-by, life-by}
use Rattle.jc_restarts.specs.Restarts.{HasItsJob, IsPresent, MayMakePods, NeverDeleted, deletes}
use Rattle.jc_restarts.proofs.EntryFacts.{act-appends}
use Rattle.jc_restarts.proofs.SawFacts.{sync-saw}

-- What each entry has, each of the first ones has.
pub each-upto : (P : Entry → Type 0) (v : ℕ) (log : List Entry) → Each P log → Each P (upto v log)
each-upto P v [] all = tt
each-upto P v (e ∷ older) all = by (nat_lt (length older) v) (each-upto P v older all.1)
  where
    by : (b : Bool) → Each P (upto v older) → Each P (cond b (e ∷ older) (upto v older))
    by true rest = all
    by false rest = rest

never-other : Never ≡ OnFailure → ⊥
never-other e = true≢false (sym (ap restarts_on_failure e))

module _ (k : Key) where
  -- ---- no Job of the key is taken away

  -- The entry takes no Job of the key away.
  abbrev pub NotGone : Entry → Type 0
  NotGone (JobGone job) = same_key job.key k ≡ false
  NotGone other = Unit {0}

  entry-stays : (pod : Pod) → NotGone (pod_entry pod)
  entry-stays pod = by (goes pod)
    where
      by : (b : Bool) → NotGone (cond b (PodGone pod) (PodPut pod))
      by true = tt
      by false = tt

  pub none-gone : (shape : Shape) (past : List Deed) (log : List Entry) (act : Act) → deletes k act ≡ false → IfSome (gives shape past log act).entry NotGone
  none-gone shape past log act kept = act-appends shape past NotGone log act (record {
    job = λ job. tt;
    gone = λ key job is keyed. ap (λ q. same_key q k) keyed ∙ ap (deletes k) (sym is) ∙ kept;
    pod = λ u pod new there uid few. entry-stays new;
    made = λ c w pod is none m. tt;
  })

  -- ---- its UID and its policy

  module _ (u : Uid) (r : Restart) where
    abbrev JobIs : Job → Type 0
    JobIs job = same_key job.key k ≡ true → (job.uid ≡ u) × (job.spec.template.restart ≡ r)

    abbrev PodIs : Pod → Type 0
    PodIs pod = same_key pod.owner k ≡ true → (pod.owner_uid ≡ u) × (pod.restart ≡ r)

    abbrev Elsewhere : Key → JobSpec → Type 0
    Elsewhere key spec = same_key key k ≡ false

    its-kept : AreKept JobIs PodIs Elsewhere
    its-kept = record {
      created = λ log key spec now away same. absurd (true≢false (sym same ∙ away));
      updated = λ log job change h. h;
      stated = λ log basis job current status saw h there is. there;
      made = λ log job index now h. h;
      marked = λ log pod now h. h;
      freed = λ log pod h. h;
      reported = λ log pod change h. h;
    }

    abbrev AllAre : List Entry → Type 0
    AllAre log = AllBy JobIs PodIs Elsewhere its-kept log

    abbrev Puts : Entry → Type 0
    Puts e = PutsBy JobIs PodIs Elsewhere its-kept e

    abbrev May : Act → Type 0
    May act = MayAct JobIs PodIs Elsewhere its-kept act

  -- No Job was put under the key; or one is there, and each Job and pod of the key has its UID and its policy.
  data Stands (log : List Entry) : Type 0 where
    Unborn : job_in k log ≡ None → ((u : Uid) (r : Restart) → AllAre u r log) → Stands log
    Born : (job : Job) → job_in k log ≡ Some job → AllAre job.uid job.spec.template.restart log → Stands log

  -- ---- one act more

  record CreatesOne (act : Act) : Type 0 where
    key : Key
    spec : JobSpec
    is : act ≡ does.Create key spec
    same : same_key key k ≡ true

  either : (act : Act) → ((u : Uid) (r : Restart) → May u r act) ⊎ CreatesOne act
  either (does.Create key spec) = by (same_key key k) refl
    where
      by : (b : Bool) → same_key key k ≡ b → ((u : Uid) (r : Restart) → May u r (does.Create key spec)) ⊎ CreatesOne (does.Create key spec)
      by true s = inr (record { key = key; spec = spec; is = refl; same = s })
      by false s = inl (λ u r. s)
  either other = inl (λ u r. tt)

  grows : (log : List Entry) (o : Option Entry) → ((u : Uid) (r : Restart) → AllAre u r log → IfSome o (Puts u r)) → IfSome o NotGone → Stands log → Stands (grown log o)
  grows log None puts stays s = s
  grows log (Some e) puts stays (Unborn none all) = unborn e puts
    where
      unborn : (e : Entry) → ((u : Uid) (r : Restart) → AllAre u r log → Puts u r e) → Stands (e ∷ log)
      unborn (JobPut job) p = by (same_key job.key k) refl
        where
          by : (b : Bool) → same_key job.key k ≡ b → Stands (JobPut job ∷ log)
          by true s = absurd (never-other (sym (p job.uid Never (all job.uid Never) s).1 ∙ (p job.uid OnFailure (all job.uid OnFailure) s).1))
          by false s = Unborn (cond-false (same_key job.key k) (Some job) (job_in k log) s ∙ none) (λ u r. (p u r (all u r), all u r))
      unborn (JobGone job) p = Unborn (by (same_key job.key k)) (λ u r. (p u r (all u r), all u r))
        where
          by : (b : Bool) → cond b None (job_in k log) ≡ None
          by true = refl
          by false = none
      unborn (PodPut pod) p = Unborn none (λ u r. (p u r (all u r), all u r))
      unborn (PodGone pod) p = Unborn none (λ u r. (p u r (all u r), all u r))
  grows log (Some e) puts stays (Born job there all) = born e (puts job.uid job.spec.template.restart all) stays
    where
      born : (e : Entry) → Puts job.uid job.spec.template.restart e → NotGone e → Stands (e ∷ log)
      born (JobPut new) p g = by (same_key new.key k) refl
        where
          by : (b : Bool) → same_key new.key k ≡ b → Stands (JobPut new ∷ log)
          by true s =
              Born new (cond-true (same_key new.key k) (Some new) (job_in k log) s)
              (subst (λ u. AllAre u new.spec.template.restart (JobPut new ∷ log)) (sym (p s).0)
              (subst (λ r. AllAre job.uid r (JobPut new ∷ log)) (sym (p s).1) (p, all)))
          by false s = Born job (cond-false (same_key new.key k) (Some new) (job_in k log) s ∙ there) (p, all)
      born (JobGone gone) p g = Born job (cond-false (same_key gone.key k) None (job_in k log) g ∙ there) (p, all)
      born (PodPut pod) p g = Born job there (p, all)
      born (PodGone pod) p g = Born job there (p, all)

  creates : (log : List Entry) (spec : JobSpec) (now : ℕ) → Stands log → Stands (grown log (create_job_gives log k spec now).entry)
  creates log spec now (Unborn none all) = subst (λ o. Stands (grown log (create_job_at log k spec now o).entry)) (sym none)
      (Born (made_job log k spec now) (cond-true (same_key k k) (Some (made_job log k spec now)) (job_in k log) (same_key-itself k)) ((λ same. (refl, refl)), all (made_job log k spec now).uid spec.template.restart))
  creates log spec now (Born job there all) = subst (λ o. Stands (grown log (create_job_at log k spec now o).entry)) (sym there) (Born job there all)

  creates-one : (shape : Shape) (past : List Deed) (log : List Entry) (key : Key) (spec : JobSpec) → key ≡ k → Stands log → Stands (grown log (gives shape past log (does.Create key spec)).entry)
  unfolding gives
  creates-one shape past log key spec same s = subst (λ q. Stands (grown log (create_job_gives log q spec (moment shape past)).entry)) (sym same) (creates log spec (moment shape past) s)

  one-more : (shape : Shape) (past : List Deed) (log : List Entry) (act : Act) → deletes k act ≡ false → Stands log → Stands (grown log (gives shape past log act).entry)
  one-more shape past log act kept s = by (either act)
    where
      by : ((u : Uid) (r : Restart) → May u r act) ⊎ CreatesOne act → Stands (grown log (gives shape past log act).entry)
      by (inl may) = grows log (gives shape past log act).entry (λ u r all. act-by (JobIs u r) (PodIs u r) (Elsewhere u r) (its-kept u r) shape past log all act (may u r)) (none-gone shape past log act kept) s
      by (inr c) = subst (λ x. Stands (grown log (gives shape past log x).entry)) (sym c.is) (creates-one shape past log c.key c.spec (same_key-eq c.key k c.same) s)

  stands : (shape : Shape) (deeds : List Deed) → NeverDeleted k deeds → Stands (log_given shape deeds)
  unfolding log_given
  stands shape [] kept = Unborn refl (λ u r. tt)
  stands shape (d ∷ past) kept = one-more shape past (log_given shape past) d.act kept.0 (stands shape past kept.1)

  -- ---- a pod of the key

  pod-stands : (log : List Entry) (pod : Pod) → life pod.uid log ≡ Live pod → pod.owner ≡ k → Stands log → HasItsJob log pod
  pod-stands log pod live owner (Unborn none all) = absurd (never-other (sym (is Never).1 ∙ (is OnFailure).1))
    where
      is : (r : Restart) → (pod.owner_uid ≡ pod.uid) × (pod.restart ≡ r)
      is r =
          subst (LifeBy (JobIs pod.uid r) (PodIs pod.uid r) (Elsewhere pod.uid r) (its-kept pod.uid r)) live (life-by (JobIs pod.uid r) (PodIs pod.uid r) (Elsewhere pod.uid r) (its-kept pod.uid r) log (all pod.uid r) pod.uid)
          (ap (λ q. same_key q k) owner ∙ same_key-itself k)
  pod-stands log pod live owner (Born job there all) = record {
    job = job;
    there = ap (λ q. job_in q log) owner ∙ there;
    own = ap (λ u. same_uid u job.uid) is.0 ∙ same_uid-itself job.uid;
    policy = sym is.1;
  }
    where
      is : (pod.owner_uid ≡ job.uid) × (pod.restart ≡ job.spec.template.restart)
      is =
          subst (LifeBy (JobIs job.uid job.spec.template.restart) (PodIs job.uid job.spec.template.restart) (Elsewhere job.uid job.spec.template.restart) (its-kept job.uid job.spec.template.restart)) live
          (life-by (JobIs job.uid job.spec.template.restart) (PodIs job.uid job.spec.template.restart) (Elsewhere job.uid job.spec.template.restart) (its-kept job.uid job.spec.template.restart) log all pod.uid)
          (ap (λ q. same_key q k) owner ∙ same_key-itself k)

  -- ---- a Job of the key that was there

  was-there : (log : List Entry) (v : ℕ) (job : Job) → job_in k (upto v log) ≡ Some job → Stands log → IsPresent log job
  was-there log v job was (Unborn none all) = absurd (never-other (sym (is Never).1 ∙ (is OnFailure).1))
    where
      is : (r : Restart) → (job.uid ≡ job.uid) × (job.spec.template.restart ≡ r)
      is r =
          subst (λ o. IfSome o (JobIs job.uid r)) was (found-by (JobIs job.uid r) (PodIs job.uid r) (Elsewhere job.uid r) (its-kept job.uid r) (upto v log) (each-upto (Puts job.uid r) v log (all job.uid r)) k)
          (ap (λ q. same_key q k) (job_in-key k (upto v log) job was) ∙ same_key-itself k)
  was-there log v job was (Born now there all) = record { now = now; there = ap (λ q. job_in q log) (job_in-key k (upto v log) job was) ∙ there; uid = sym is.0 }
    where
      is : (job.uid ≡ now.uid) × (job.spec.template.restart ≡ now.spec.template.restart)
      is =
          subst (λ o. IfSome o (JobIs now.uid now.spec.template.restart)) was
          (found-by (JobIs now.uid now.spec.template.restart) (PodIs now.uid now.spec.template.restart) (Elsewhere now.uid now.spec.template.restart) (its-kept now.uid now.spec.template.restart) (upto v log)
          (each-upto (Puts now.uid now.spec.template.restart) v log all) k)
          (ap (λ q. same_key q k) (job_in-key k (upto v log) job was) ∙ same_key-itself k)

-- The Job that a sync under way saw is there, where none of its key was ever deleted.
pub saw-there : (shape : Shape) (deeds : List Deed) (basis : Basis) (job : Job) → MayMakePods shape deeds basis → basis.job ≡ Some job → NeverDeleted job.key deeds → IsPresent (log_given shape deeds) job
saw-there shape deeds basis job may saw kept =
    was-there basis.key (log_given shape deeds) basis.jobs_at.0 job was
    (stands basis.key shape deeds (subst (λ q. NeverDeleted q deeds) (job_in-key basis.key (upto basis.jobs_at.0 (log_given shape deeds)) job was) kept))
  where
    was : job_in basis.key (upto basis.jobs_at.0 (log_given shape deeds)) ≡ Some job
    was = sym (sync-saw shape deeds basis may) ∙ saw

-- Each pod of a key that is never deleted has its Job.
pub has-its-job : (shape : Shape) (deeds : List Deed) (pod : Pod) → life pod.uid (log_given shape deeds) ≡ Live pod → NeverDeleted pod.owner deeds → HasItsJob (log_given shape deeds) pod
has-its-job shape deeds pod live kept = pod-stands pod.owner (log_given shape deeds) pod live refl (stands pod.owner shape deeds kept)

-- ---- without a controller there are no pods

abbrev IsNoPod : Entry → Type 0
IsNoPod (PodPut pod) = ⊥
IsNoPod other = Unit {0}

none-more : (log : List Entry) (o : Option Entry) → IfSome o IsNoPod → pods_in log ≡ [] → pods_in (grown log o) ≡ []
none-more log None h none = none
none-more log (Some (JobPut job)) h none = none
none-more log (Some (JobGone job)) h none = none
none-more log (Some (PodPut pod)) h none = absurd h
none-more log (Some (PodGone pod)) h none = none-dropped
  where
    none-dropped : pods_in (PodGone pod ∷ log) ≡ []
    none-dropped = ap (λ pods. drop_pod pod.uid pods) none

no-pods : (shape : Shape) → shape.controllers ≡ 0 → (deeds : List Deed) → IsLegal shape deeds → pods_in (log_given shape deeds) ≡ []
unfolding log_given
no-pods shape none [] legal = refl
no-pods shape none (d ∷ past) legal = none-more (log_given shape past) (gives shape past (log_given shape past) d.act).entry
    (act-appends shape past IsNoPod (log_given shape past) d.act (record {
      job = λ job. tt;
      gone = λ key job is keyed. tt;
      pod = λ u pod new there uid few. absurd (none_some pod (sym (ap (pod_among u) (no-pods shape none past legal.1)) ∙ pods_in-among u (log_given shape past) ∙ there));
      made = λ c w pod is fresh m. let within = (subst (IsOfShape shape) is legal.0.within).0 in absurd (omega (arith, none, within));
    })) (no-pods shape none past legal.1)

pub has-controller : (shape : Shape) (deeds : List Deed) → IsLegal shape deeds → (pod : Pod) → pod_in pod.uid (log_given shape deeds) ≡ Some pod → 0 < shape.controllers
has-controller shape deeds legal pod there = by shape.controllers refl
  where
    by : (n : ℕ) → shape.controllers ≡ n → 0 < n
    by zero none = absurd (none_some pod (sym (ap (pod_among pod.uid) (no-pods shape none deeds legal)) ∙ pods_in-among pod.uid (log_given shape deeds) ∙ there))
    by (suc n) is = omega arith
