-- Where an object that is there was put: its version is the place of its entry, and it stood so then.
use Rattle.std.proofs.Common.{◌≡◌, ℕ, ◌≤◌, Bool, true, false, cond, List, [], ◌∷◌, length, Option, Some, None, is_some, refl, sym, ap, ◌∙◌, subst, arith, true≢false}
use Rattle.jc_types.specs.declared.numbers.Uid.{Uid}
use Rattle.jc_types.specs.declared.objects.Entry.{Entry}
use Rattle.jc_types.specs.declared.objects.Entry.TheVariants.{JobPut, JobGone, PodPut, PodGone}
use Rattle.jc_types.specs.declared.objects.Job.{Job}
use Rattle.jc_types.specs.declared.objects.Pod.{Pod}
use Rattle.jc_types.specs.declared.objects.KeyNames.{KeyNames as Key}
use Rattle.jc_types.specs.Keys.{same_key, same_uid}
use Rattle.jc_log.specs.Log.{Life, Never, Live, Gone, upto, entry_at, job_in, life}
use Rattle.jc_log.specs.Writes.{CanPut, Writes, Stored}
use Rattle.jc_types.proofs.KeyFacts.{same_uid-eq}
use Rattle.jc_log.proofs.LogFacts.{upto-fixed, upto-all, entry_at-newest, entry_at-stays, entry_at-place}
use Rattle.jc_log.proofs.WriteFacts.{persists}

-- The Job of a key is that in the entry of its version.
pub job_in-entry : (k : Key) (log : List Entry) (job : Job) → Stored log → job_in k log ≡ Some job → entry_at job.version.0 log ≡ Some (JobPut job)
job_in-entry k [] job all h = absurd (true≢false (sym (ap is_some h)))
job_in-entry k (JobPut new ∷ older) job all h = by (job_in-entry k older job all.1) (same_key new.key k) h
  where
    by : (job_in k older ≡ Some job → entry_at job.version.0 older ≡ Some (JobPut job)) → (b : Bool) → cond b (Some new) (job_in k older) ≡ Some job → entry_at job.version.0 (JobPut new ∷ older) ≡ Some (JobPut job)
    by ih true g =
        let same : new ≡ job = ap (λ (o : Option Job). elim o [ None ↦ new | Some j ↦ j ]) g in
        subst (λ j. entry_at j.version.0 (JobPut new ∷ older) ≡ Some (JobPut j)) same
        (ap (λ v. entry_at v (JobPut new ∷ older)) all.0.version ∙ entry_at-newest (JobPut new) older)
    by ih false g = entry_at-stays job.version.0 (JobPut new) (JobPut job) older (ih g)
job_in-entry k (JobGone gone ∷ older) job all h = by (job_in-entry k older job all.1) (same_key gone.key k) h
  where
    by : (job_in k older ≡ Some job → entry_at job.version.0 older ≡ Some (JobPut job)) → (b : Bool) → cond b None (job_in k older) ≡ Some job → entry_at job.version.0 (JobGone gone ∷ older) ≡ Some (JobPut job)
    by ih true g = absurd (true≢false (sym (ap is_some g)))
    by ih false g = entry_at-stays job.version.0 (JobGone gone) (JobPut job) older (ih g)
job_in-entry k (PodPut pod ∷ older) job all h = entry_at-stays job.version.0 (PodPut pod) (JobPut job) older (job_in-entry k older job all.1 h)
job_in-entry k (PodGone pod ∷ older) job all h = entry_at-stays job.version.0 (PodGone pod) (JobPut job) older (job_in-entry k older job all.1 h)

-- The pod of a UID is that in the entry of its version.
pub life-entry : (u : Uid) (log : List Entry) (pod : Pod) → Stored log → life u log ≡ Live pod → entry_at pod.version.0 log ≡ Some (PodPut pod)
life-entry u [] pod all h = absurd (true≢false (sym (ap is_live h)))
  where
    is_live : Life → Bool
    is_live Never = false
    is_live (Live p) = true
    is_live Gone = false
life-entry u (JobPut job ∷ older) pod all h = entry_at-stays pod.version.0 (JobPut job) (PodPut pod) older (life-entry u older pod all.1 h)
life-entry u (JobGone job ∷ older) pod all h = entry_at-stays pod.version.0 (JobGone job) (PodPut pod) older (life-entry u older pod all.1 h)
life-entry u (PodPut new ∷ older) pod all h = by (life-entry u older pod all.1) (same_uid new.uid u) h
  where
    pod_of : Life → Pod
    pod_of Never = new
    pod_of (Live p) = p
    pod_of Gone = new

    by : (life u older ≡ Live pod → entry_at pod.version.0 older ≡ Some (PodPut pod)) → (b : Bool) → cond b (Live new) (life u older) ≡ Live pod → entry_at pod.version.0 (PodPut new ∷ older) ≡ Some (PodPut pod)
    by ih true g =
        subst (λ p. entry_at p.version.0 (PodPut new ∷ older) ≡ Some (PodPut p)) (ap pod_of g)
        (ap (λ v. entry_at v (PodPut new ∷ older)) all.0.version ∙ entry_at-newest (PodPut new) older)
    by ih false g = entry_at-stays pod.version.0 (PodPut new) (PodPut pod) older (ih g)
life-entry u (PodGone gone ∷ older) pod all h = by (life-entry u older pod all.1) (same_uid gone.uid u) h
  where
    is_live : Life → Bool
    is_live Never = false
    is_live (Live p) = true
    is_live Gone = false

    by : (life u older ≡ Live pod → entry_at pod.version.0 older ≡ Some (PodPut pod)) → (b : Bool) → cond b Gone (life u older) ≡ Live pod → entry_at pod.version.0 (PodGone gone ∷ older) ≡ Some (PodPut pod)
    by ih true g = absurd (true≢false (sym (ap is_live g)))
    by ih false g = entry_at-stays pod.version.0 (PodGone gone) (PodPut pod) older (ih g)

-- The Job of a key has a version within the log.
pub job_in-within : (k : Key) (log : List Entry) (job : Job) → Stored log → job_in k log ≡ Some job → job.version.0 ≤ length log
job_in-within k log job all h = (entry_at-place job.version.0 log (JobPut job) (job_in-entry k log job all h)).1

-- The pod of a UID has a version within the log.
pub life-place : (u : Uid) (log : List Entry) (pod : Pod) → Stored log → life u log ≡ Live pod → pod.version.0 ≤ length log
life-place u log pod all h = (entry_at-place pod.version.0 log (PodPut pod) (life-entry u log pod all h)).1

-- The Job of a key stood so at its version.
pub job_in-stood : (k : Key) (log : List Entry) (job : Job) → Stored log → job_in k log ≡ Some job → job_in k (upto job.version.0 log) ≡ Some job
job_in-stood k [] job all h = h
job_in-stood k (JobPut new ∷ older) job all h = by (job_in-stood k older job all.1) (same_key new.key k) refl h
  where
    by : (job_in k older ≡ Some job → job_in k (upto job.version.0 older) ≡ Some job) → (b : Bool) → same_key new.key k ≡ b → cond b (Some new) (job_in k older) ≡ Some job → job_in k (upto job.version.0 (JobPut new ∷ older)) ≡ Some job
    by ih true s g =
        let same : new ≡ job = ap (λ (o : Option Job). elim o [ None ↦ new | Some j ↦ j ]) g in
        let place : job.version.0 ≡ length (JobPut new ∷ older) = ap (λ j. j.version.0) (sym same) ∙ all.0.version in
        ap (job_in k) (upto-all job.version.0 (JobPut new ∷ older) (omega (arith, place))) ∙ h
    by ih false s g = ap (job_in k) (upto-fixed job.version.0 (JobPut new) older (job_in-within k older job all.1 g)) ∙ ih g
job_in-stood k (JobGone gone ∷ older) job all h = by (job_in-stood k older job all.1) (same_key gone.key k) h
  where
    by : (job_in k older ≡ Some job → job_in k (upto job.version.0 older) ≡ Some job) → (b : Bool) → cond b None (job_in k older) ≡ Some job → job_in k (upto job.version.0 (JobGone gone ∷ older)) ≡ Some job
    by ih true g = absurd (true≢false (sym (ap is_some g)))
    by ih false g = ap (job_in k) (upto-fixed job.version.0 (JobGone gone) older (job_in-within k older job all.1 g)) ∙ ih g
job_in-stood k (PodPut pod ∷ older) job all h = ap (job_in k) (upto-fixed job.version.0 (PodPut pod) older (job_in-within k older job all.1 h)) ∙ job_in-stood k older job all.1 h
job_in-stood k (PodGone pod ∷ older) job all h = ap (job_in k) (upto-fixed job.version.0 (PodGone pod) older (job_in-within k older job all.1 h)) ∙ job_in-stood k older job all.1 h

-- The pod of a UID stood so at its version.
pub life-stood : (u : Uid) (log : List Entry) (pod : Pod) → Stored log → life u log ≡ Live pod → life u (upto pod.version.0 log) ≡ Live pod
life-stood u [] pod all h = h
life-stood u (JobPut job ∷ older) pod all h = ap (life u) (upto-fixed pod.version.0 (JobPut job) older (life-place u older pod all.1 h)) ∙ life-stood u older pod all.1 h
life-stood u (JobGone job ∷ older) pod all h = ap (life u) (upto-fixed pod.version.0 (JobGone job) older (life-place u older pod all.1 h)) ∙ life-stood u older pod all.1 h
life-stood u (PodPut new ∷ older) pod all h = by (life-stood u older pod all.1) (same_uid new.uid u) refl h
  where
    pod_of : Life → Pod
    pod_of Never = new
    pod_of (Live p) = p
    pod_of Gone = new

    by : (life u older ≡ Live pod → life u (upto pod.version.0 older) ≡ Live pod) → (b : Bool) → same_uid new.uid u ≡ b → cond b (Live new) (life u older) ≡ Live pod → life u (upto pod.version.0 (PodPut new ∷ older)) ≡ Live pod
    by ih true s g =
        let place : pod.version.0 ≡ length (PodPut new ∷ older) = ap (λ p. p.version.0) (sym (ap pod_of g)) ∙ all.0.version in
        ap (life u) (upto-all pod.version.0 (PodPut new ∷ older) (omega (arith, place))) ∙ h
    by ih false s g = ap (life u) (upto-fixed pod.version.0 (PodPut new) older (life-place u older pod all.1 g)) ∙ ih g
life-stood u (PodGone gone ∷ older) pod all h = by (life-stood u older pod all.1) (same_uid gone.uid u) h
  where
    is_live : Life → Bool
    is_live Never = false
    is_live (Live p) = true
    is_live Gone = false

    by : (life u older ≡ Live pod → life u (upto pod.version.0 older) ≡ Live pod) → (b : Bool) → cond b Gone (life u older) ≡ Live pod → life u (upto pod.version.0 (PodGone gone ∷ older)) ≡ Live pod
    by ih true g = absurd (true≢false (sym (ap is_live g)))
    by ih false g = ap (life u) (upto-fixed pod.version.0 (PodGone gone) older (life-place u older pod all.1 g)) ∙ ih g

-- ---- what is gone stays gone

-- An entry keeps a pod gone.
pub gone_entry : (u : Uid) (e : Entry) (older : List Entry) → Writes older e → life u older ≡ Gone → life u (e ∷ older) ≡ Gone
gone_entry u (JobPut job) older w h = h
gone_entry u (JobGone job) older w h = h
gone_entry u (PodPut pod) older w h = by (same_uid pod.uid u) refl
  where
    by : (b : Bool) → same_uid pod.uid u ≡ b → cond b (Live pod) (life u older) ≡ Gone
    by true s = absurd (subst (λ l. CanPut older l pod) h (subst (λ v. CanPut older (life v older) pod) (same_uid-eq pod.uid u s) w.can.0))
    by false s = h
gone_entry u (PodGone pod) older w h = by (same_uid pod.uid u)
  where
    by : (b : Bool) → cond b Gone (life u older) ≡ Gone
    by true = refl
    by false = h

-- A pod that is gone at a prefix is gone at every longer one.
pub gone_stays : (u : Uid) (m n : ℕ) (log : List Entry) → Stored log → m ≤ n → life u (upto m log) ≡ Gone → life u (upto n log) ≡ Gone
gone_stays u m n log all h gone =
    persists Writes (λ l. life u l ≡ Gone) (λ e older w rest g. gone_entry u e older w g) m n log all h gone
