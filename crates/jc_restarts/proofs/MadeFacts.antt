-- What is written while no Job is deleted: the Jobs that are there stay, and a pod that is new was made for the Job that its
-- sync saw.
use Rattle.std.proofs.Common.{◌≡◌, ℕ, Bool, true, false, cond, not, List, ◌∷◌, Option, Some, None, IfSome, refl, sym, ap, ◌∙◌, subst, true≢false}
use Rattle.std.proofs.lemmas.Bool.{cond-false, cond-true}
use Rattle.std.specs.List.{AllByRecursion as Each}
use Rattle.jc_types.proofs.KeyFacts.{same_key-eq}
use Rattle.jc_types.proofs.ListFacts.{Each-filter}
use Rattle.jc_types.specs.declared.objects.KeyNames.{KeyNames as Key}
use Rattle.jc_types.specs.Keys.{same_key, same_uid}
use Rattle.jc_types.specs.declared.objects.Entry.{Entry}
use Rattle.jc_types.specs.declared.objects.Entry.TheVariants.{JobPut, JobGone, PodPut, PodGone}
use Rattle.jc_types.specs.declared.objects.Job.{Job}
use Rattle.jc_types.specs.declared.objects.Pod.{Pod}
use Rattle.jc_types.specs.declared.runs.Shape.{Shape}
use Rattle.jc_types.specs.declared.specifications.Template.{Template}
use Rattle.jc_states.specs.ObjectChanges.{JobStep, PodStep}
use Rattle.jc_states.specs.Pods.{goes}
use Rattle.jc_states.proofs.ObjectChangeFacts.{JobStep-itself}
use Rattle.jc_log.specs.Acts as does
use Rattle.jc_log.specs.Acts.{Act}
use Rattle.jc_log.specs.Deeds.{Deed}
use Rattle.jc_log.specs.Log.{Gone, Life, Live, Never, is_never, job_in, life, pods_in}
use Rattle.jc_log.specs.Requests.{grown, pod_entry}
use Rattle.jc_log.specs.Writes.{CanJob, CanPut, Stored}
use Rattle.jc_log.proofs.PodFacts.{living-live}
use Rattle.jc_log.proofs.WriteFacts.{life-uid}
use Rattle.jc_history.specs.Replies.{diary, gives, log_given}
use Rattle.jc_restarts.specs.Restarts.{HasItsJob, IsPresent}
use Rattle.jc_restarts.proofs.CountFacts.{each-put}
use Rattle.jc_restarts.proofs.EntryFacts.{IsMade, act-appends}
use Rattle.jc_restarts.proofs.StandFacts.{NotGone}

-- ---- Jobs that stay

-- The Job of the key is one that this one came to by steps.
pub record Stays (log : List Entry) (k : Key) (job : Job) : Type 0 where
  pub now : Job
  pub there : job_in k log ≡ Some now
  pub step : JobStep job now

-- No Job of the key is deleted.
pub job-stays : (log : List Entry) (o : Option Entry) (k : Key) (job : Job) → Stored (grown log o) → IfSome o (NotGone k) → job_in k log ≡ Some job → Stays (grown log o) k job
job-stays log None k job stored kept there = record { now = job; there = there; step = JobStep-itself job }
job-stays log (Some (JobPut new)) k job stored kept there = by (same_key new.key k) refl
  where
    by : (b : Bool) → same_key new.key k ≡ b → Stays (JobPut new ∷ log) k job
    by true s = record {
      now = new;
      there = cond-true (same_key new.key k) (Some new) (job_in k log) s;
      step = subst (λ o. CanJob log o new) (ap (λ q. job_in q log) (same_key-eq new.key k s) ∙ there) stored.0.can;
    }
    by false s = record { now = job; there = cond-false (same_key new.key k) (Some new) (job_in k log) s ∙ there; step = JobStep-itself job }
job-stays log (Some (JobGone gone)) k job stored kept there = record { now = job; there = cond-false (same_key gone.key k) None (job_in k log) kept ∙ there; step = JobStep-itself job }
job-stays log (Some (PodPut pod)) k job stored kept there = record { now = job; there = there; step = JobStep-itself job }
job-stays log (Some (PodGone pod)) k job stored kept there = record { now = job; there = there; step = JobStep-itself job }

module _ (log new : List Entry) (stays : (k : Key) (job : Job) → job_in k log ≡ Some job → Stays new k job) where
  -- So the Job of a pod is there yet.
  pub has-still : (pod : Pod) → HasItsJob log pod → HasItsJob new pod
  has-still pod its = by (stays pod.owner its.job its.there)
    where
      by : Stays new pod.owner its.job → HasItsJob new pod
      by s = record { job = s.now; there = s.there; own = ap (same_uid pod.owner_uid) s.step.uid ∙ its.own; policy = ap (λ (t : Template). t.restart) s.step.template ∙ its.policy }

  pub there-still : (job : Job) → IsPresent log job → IsPresent new job
  there-still job h = by (stays job.key h.now h.there)
    where
      by : Stays new job.key h.now → IsPresent new job
      by s = record { now = s.now; there = s.there; uid = s.step.uid ∙ h.uid }

-- ---- pods

-- What holds of each pod that was there, and of the one that is put, holds of all.
abbrev pub PutsSuch : (Pod → Type 0) → Entry → Type 0
PutsSuch P (PodPut pod) = P pod
PutsSuch P other = Unit {0}

pub pods-then : (P : Pod → Type 0) (log : List Entry) (o : Option Entry) → IfSome o (PutsSuch P) → Each P (pods_in log) → Each P (pods_in (grown log o))
pods-then P log None h all = all
pods-then P log (Some (JobPut job)) h all = all
pods-then P log (Some (JobGone job)) h all = all
pods-then P log (Some (PodPut pod)) h all = each-put P pod (pods_in log) h all
pods-then P log (Some (PodGone pod)) h all = Each-filter P (λ (q : Pod). not (same_uid q.uid pod.uid)) (pods_in log) all

-- A step of a worker made the pod.
pub record MadeByStep (shape : Shape) (past : List Deed) (act : Act) (pod : Pod) : Type 0 where
  pub controller : ℕ
  pub worker : ℕ
  pub is : act ≡ does.Step controller worker
  pub made : IsMade (diary shape controller past) worker pod

-- The pod that is put came by a step from the one that was there, or a step of a worker made it.
pub data PutBy (shape : Shape) (past : List Deed) (act : Act) (pod : Pod) : Type 0 where
  Kept : (old : Pod) → life pod.uid (log_given shape past) ≡ Live old → PodStep old pod → PutBy shape past act pod
  Made : MadeByStep shape past act pod → PutBy shape past act pod

module _ (shape : Shape) (past : List Deed) (act : Act) where
  abbrev log : List Entry
  log = log_given shape past

  abbrev MadeIfNew : Entry → Type 0
  MadeIfNew (PodPut pod) = life pod.uid log ≡ Never → MadeByStep shape past act pod
  MadeIfNew other = Unit {0}

  not-never : (l : Life) (pod : Pod) → l ≡ Live pod → l ≡ Never → ⊥
  not-never l pod live never = true≢false (sym (ap is_never never) ∙ ap is_never live)

  made-if-new : IfSome (gives shape past (log_given shape past) act).entry MadeIfNew
  made-if-new = act-appends shape past MadeIfNew (log_given shape past) act (record {
    job = λ job. tt;
    gone = λ key job is keyed. tt;
    pod = λ u pod new there uid few. entry new (λ never. not-never (life u log) pod (living-live (life u log) pod there) (ap (λ v. life v log) (sym (uid ∙ life-uid u log pod (living-live (life u log) pod there))) ∙ never));
    made = λ c w pod is none m. λ never. record { controller = c; worker = w; is = is; made = m };
  })
    where
      entry : (new : Pod) → (life new.uid log ≡ Never → ⊥) → MadeIfNew (pod_entry new)
      entry new old = by (goes new)
        where
          by : (b : Bool) → MadeIfNew (cond b (PodGone new) (PodPut new))
          by true = tt
          by false = λ never. absurd (old never)

  pub puts-by : (o : Option Entry) → (gives shape past (log_given shape past) act).entry ≡ o → Stored (grown (log_given shape past) o) → IfSome o (PutsSuch (PutBy shape past act))
  puts-by o is stored = of o stored (subst (λ o. IfSome o MadeIfNew) is made-if-new)
    where
      at-life : (pod : Pod) (l : Life) → life pod.uid log ≡ l → CanPut log l pod → (life pod.uid log ≡ Never → MadeByStep shape past act pod) → PutBy shape past act pod
      at-life pod Never is can new = Made (new is)
      at-life pod (Live old) is can new = Kept old is can
      at-life pod Gone is can new = absurd can

      of : (o : Option Entry) → Stored (grown log o) → IfSome o MadeIfNew → IfSome o (PutsSuch (PutBy shape past act))
      of None stored new = tt
      of (Some (JobPut job)) stored new = tt
      of (Some (JobGone job)) stored new = tt
      of (Some (PodPut pod)) stored new = at-life pod (life pod.uid log) refl stored.0.can.0 new
      of (Some (PodGone pod)) stored new = tt
