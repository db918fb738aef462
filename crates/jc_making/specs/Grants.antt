-- What stands once all requests of a plan are granted. `own` are the Job's own pods.
--     frees plan u               the plan takes the finalizer of the pod: it releases it, or lets it go
--     concerns plan u            it does, or marks the pod
--     Becomes plan old new       what the plan makes of a pod
--     AllBecome plan own after   what it makes of all, but for pods that are gone since
--     IsNew serial index pod     a pod that was just made
--     AreNew made indexes pods   these are, one for each index, where so many were made before
--     as_new template pod        the pod as it is made
--     LooksNew template pod      the pod is as it was made
--     AllGranted plan made own now    the own pods are these then
--     job_left plan job          the Job with the status that is left
--     SyncGranted basis job made now    all requests of a sync of the Job are granted
--     UsesUp counts ends made job basis now    by this count at least as many fewer pods may be made as the plan makes
use Rattle.std.specs.Prelude.{◌≡◌, ℕ, suc, ◌+◌, ◌≤◌, Bool, true, false, ◌||◌, List, [], ◌∷◌, ◌++◌, length, Option, Some, None}
use Rattle.jc_types.specs.declared.actions.End.{End}
use Rattle.jc_types.specs.declared.numbers.Uid.{Uid}
use Rattle.jc_types.specs.declared.objects.Job.{Job}
use Rattle.jc_types.specs.declared.objects.Phase.TheVariants.{Pending}
use Rattle.jc_types.specs.declared.objects.Pod.{Pod}
use Rattle.jc_types.specs.declared.specifications.Template.{Template}
use Rattle.jc_log.specs.Requests.{new_containers}
use Rattle.jc_states.specs.declared.bases.Basis.{Basis}
use Rattle.jc_states.specs.Bases.{own_pods}
use Rattle.jc_states.specs.PodLists.{IsRising}
use Rattle.jc_states.specs.Pods.{is_marked, is_tracked_active}
use Rattle.jc_states.specs.UidLists.{is_in}
use Rattle.jc_plan.specs.declared.plans.Planned.{Planned}
use Rattle.jc_plan.specs.PodNumbers.{is_let_go_of}
use Rattle.jc_plan.specs.Plans.{last_status, planned}

-- The plan takes the finalizer of the pod of the UID: it releases it, or lets it go.
abbrev pub frees : Planned → Uid → Bool
frees plan u = is_in u plan.releases || is_let_go_of u plan.let_goes

-- It takes its finalizer, or marks it.
abbrev pub concerns : Planned → Uid → Bool
concerns plan u = frees plan u || is_in u plan.marks

-- What the plan makes of a pod: its phase stays, and one that it does not concern stays as it is.
pub record Becomes (plan : Planned) (old new : Pod) : Type 0 where
  pub phase : new.phase ≡ old.phase
  pub same : concerns plan old.uid ≡ false → new ≡ old
  pub freed : frees plan old.uid ≡ true → new.tracked ≡ false
  pub marked : is_in old.uid plan.marks ≡ true → is_marked new ≡ true

-- What it makes of all of them. One that lost its finalizer may be gone.
pub data AllBecome (plan : Planned) : List Pod → List Pod → Type 0 where
  Nothing : AllBecome plan [] []
  Stays : (old new : Pod) (own after : List Pod) → Becomes plan old new → AllBecome plan own after
      → AllBecome plan (old ∷ own) (new ∷ after)
  Goes : (old : Pod) (own after : List Pod) → frees plan old.uid ≡ true → AllBecome plan own after
      → AllBecome plan (old ∷ own) after

-- A pod that was just made: of this serial and this index, active and with its finalizer.
pub record IsNew (serial : ℕ) (index : Option ℕ) (pod : Pod) : Type 0 where
  pub serial_is : pod.serial ≡ serial
  pub index_is : pod.index ≡ index
  pub active : is_tracked_active pod ≡ true

-- Pods that were just made, one for each of the indexes, where so many were made before.
abbrev pub AreNew : ℕ → List (Option ℕ) → List Pod → Type 0
AreNew made [] [] = Unit {0}
AreNew made [] (pod ∷ pods) = ⊥
AreNew made (index ∷ indexes) [] = ⊥
AreNew made (index ∷ indexes) (pod ∷ pods) = IsNew made index pod × AreNew (suc made) indexes pods

-- The pod as it is made: pending and not marked, with the containers of the template and no condition.
abbrev pub as_new : Template → Pod → Pod
as_new template pod = record pod {
  phase = Pending;
  containers = new_containers template;
  conditions = [];
  marked = None;
}

-- The pod is as it was made for a Job of the template.
abbrev pub LooksNew : Template → Pod → Type 0
LooksNew template pod = as_new template pod ≡ pod

-- The own pods, once all requests are granted: what has become of those that were there, and behind them the new ones.
pub record AllGranted (plan : Planned) (made : ℕ) (own now : List Pod) : Type 0 where
  pub after : List Pod
  pub fresh : List Pod
  pub parts : now ≡ after ++ fresh
  pub follow : AllBecome plan own after
  pub new : AreNew made plan.creates fresh
  pub rising : IsRising now

-- The Job with the status that is left.
abbrev pub job_left : Planned → Job → Job
job_left plan job = record job { status = last_status plan job.status }

-- All requests of a sync of the Job are granted, where so many pods were made before: it saw the Job, and pods in the
-- order of their UIDs, and the Job's own pods are these then.
pub record SyncGranted (basis : Basis) (job : Job) (made : ℕ) (now : List Pod) : Type 0 where
  pub job_is : basis.job ≡ Some job
  pub rising : IsRising basis.pods
  pub all : AllGranted (planned basis) made (own_pods job basis.pods) now

-- By a count of the pods that may be made, at least as many fewer may be after the sync as its plan makes. What counts is
-- how pods end, how many were made, the Job, and its own pods.
abbrev pub UsesUp : (List End → ℕ → Job → List Pod → ℕ) → List End → ℕ → Job → Basis → List Pod → Type 0
UsesUp counts ends made job basis now =
    counts ends (made + length (planned basis).creates) (job_left (planned basis) job) now
    + length (planned basis).creates
    ≤ counts ends made job (own_pods job basis.pods)
