-- A sync that began on current caches and meets no fault.
--     IsUndisturbed log flight job left    the Job is as the sync last wrote it
--     GoesOnTo next P                      the sync goes on, and P holds of it
--     StaysUndisturbed log job step        the step goes on, and so the Job is
--     Leaves log flight job                the Job has the second status, and each pod to release was released
--     HasNext log basis job                the Job has the next status of what the basis shows
--     EndedAreLost log basis job           each own pod that had ended and was not left over has no finalizer
--     steps_left asks                      at most so many steps are left, but for the end
use Rattle.std.specs.Prelude.{All, false, ◌≡◌, ℕ, ◌+◌, true, List, [], ◌∷◌, Some}
use Rattle.jc_types.specs.declared.numbers.Uid.{Uid}
use Rattle.jc_types.specs.declared.objects.Entry.{Entry}
use Rattle.jc_types.specs.declared.objects.Job.{Job}
use Rattle.jc_types.specs.declared.objects.Pod.{Pod}
use Rattle.jc_states.specs.declared.bases.Basis.{Basis}
use Rattle.jc_states.specs.Bases.{own_pods}
use Rattle.jc_log.specs.Log.{job_in, life, is_lost}
use Rattle.jc_log.specs.Requests.{grown}
use Rattle.jc_states.specs.UidLists.{is_in}
use Rattle.jc_plan.specs.Judged.{is_left_over}
use Rattle.jc_plan.specs.Outcome.TheVariants.{Alive}
use Rattle.jc_plan.specs.Outcomes.{outcome_of, same_outcome}
use Rattle.jc_plan.specs.Next.{next_value}
use Rattle.jc_plan.specs.Plans.{planned}
use Rattle.jc_plan.specs.Statuses.{second_value}
use Rattle.jc_ledger.specs.declared.flights.Flight.{Flight}
use Rattle.jc_asks.specs.declared.asks.Ask.{Ask}
use Rattle.jc_asks.specs.declared.asks.Ask.TheVariants.{LetPodGo}
use Rattle.jc_sync.specs.SyncPlaces.{AreReleased, IsUnder}
use Rattle.jc_asks.specs.Steps.{Ends, GoesOn, Next, Stepped, Sync}

-- The Job that is there is as the sync last wrote it: at the version that it sends; or the second status is
-- written.
pub data IsUndisturbed (log : List Entry) (flight : Flight) (job : Job) (left : List Ask) : Type 0 where
  Going : IsUnder flight left → (current : Job) → job_in flight.basis.key log ≡ Some current
      → current.uid ≡ job.uid → current.version ≡ flight.sends → IsUndisturbed log flight job left
  Wrote : left ≡ [] → (current : Job) → job_in flight.basis.key log ≡ Some current
      → current.uid ≡ job.uid → current.status ≡ second_value job flight.basis
      → AreReleased flight (planned flight.basis).releases → IsUndisturbed log flight job left

-- The sync goes on, and this holds of it.
abbrev pub GoesOnTo : Next → (Sync → Type 0) → Type 0
GoesOnTo (GoesOn sync) P = P sync
GoesOnTo (Ends end) P = ⊥

-- After the step the sync goes on, and the Job is as the sync last wrote it.
abbrev pub StaysUndisturbed : List Entry → Job → Stepped → Type 0
StaysUndisturbed log job step =
    GoesOnTo step.next (λ s. IsUndisturbed (grown log step.entry) s.flight job s.left)

-- What such a sync leaves: the Job has the second status as a value, and what was to be released has no
-- finalizer.
pub record Leaves (log : List Entry) (flight : Flight) (job : Job) : Type 0 where
  pub current : Job
  pub there : job_in flight.basis.key log ≡ Some current
  pub uid : current.uid ≡ job.uid
  pub status : current.status ≡ second_value job flight.basis
  pub released : (u : Uid) → is_in u (planned flight.basis).releases ≡ true → is_lost (life u log) ≡ true

-- The Job of the basis is there, with the next status of what the basis shows.
pub record HasNext (log : List Entry) (basis : Basis) (job : Job) : Type 0 where
  pub current : Job
  pub there : job_in basis.key log ≡ Some current
  pub uid : current.uid ≡ job.uid
  pub status : current.status ≡ next_value job basis

-- The pod has no finalizer, where it had ended and was not left over for a later sync.
abbrev pub IsLostOnceEnded : List Entry → Job → List Pod → Pod → Type 0
IsLostOnceEnded log job own pod =
    same_outcome (outcome_of job.spec pod) Alive ≡ false → is_left_over job own pod ≡ false
    → is_lost (life pod.uid log) ≡ true

-- So it is of each own pod of the basis.
abbrev pub EndedAreLost : List Entry → Basis → Job → Type 0
EndedAreLost log basis job =
    All (IsLostOnceEnded log job (own_pods job basis.pods)) (own_pods job basis.pods)

-- A let-go may bring a mark.
abbrev pub steps_for : Ask → ℕ
steps_for (LetPodGo u v) = 2
steps_for other = 1

-- How many steps the requests bring at most.
abbrev pub steps_left : List Ask → ℕ
steps_left [] = 0
steps_left (ask ∷ left) = steps_for ask + steps_left left
