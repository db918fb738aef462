-- What has to fall with each turn of a settle without pods, so that it comes to rest.
use Rattle.std.proofs.Common.{◌≡◌, ℕ, ◌<◌, ◌≤◌, List, [], ◌∷◌, ◌++◌, Some, None}
use Rattle.jc_types.specs.declared.objects.Entry.{Entry}
use Rattle.jc_types.specs.declared.objects.Entry.TheVariants.{JobPut}
use Rattle.jc_types.specs.declared.objects.Job.{Job}
use Rattle.jc_types.specs.declared.objects.KeyNames.{KeyNames as Key}
use Rattle.jc_types.specs.declared.runs.Shape.{Shape}
use Rattle.jc_types.specs.declared.statuses.JobStatus.{JobStatus}
use Rattle.jc_states.specs.declared.bases.Basis.{Basis}
use Rattle.jc_log.specs.Deeds.{Deed}
use Rattle.jc_log.specs.Range.{IsMoment}
use Rattle.jc_log.specs.Requests.{with_status}
use Rattle.jc_plan.specs.Next.{ListsNoSuccess}
use Rattle.jc_plan.specs.Plans.{planned}
use Rattle.jc_history.specs.Delays.{least_delay}
use Rattle.jc_history.specs.Diaries.{moment}
use Rattle.jc_history.specs.Lines.{line}
use Rattle.jc_history.specs.Notes.{Note, Ticked}
use Rattle.jc_history.specs.Replies.{diary, log_given}
use Rattle.jc_settle.specs.Totals.{total}
use Rattle.jc_calm.specs.SettleTurns.{SawAll, faults_pending, notes_of_nothing}
use Rattle.jc_ends.proofs.Descent.{Count}

-- What is still to come: statuses by the moment and the log, moments and keys by a controller's notes too.
pub record FallWithTurns (statuses : ℕ → List Entry → ℕ) (moments keys : ℕ → List Entry → List Note → ℕ) : Type 0 where
  -- A sync that asks for no pod and writes its Job's status leaves fewer statuses.
  pub written : (notes : List Note) (log : List Entry) (now : ℕ) (basis : Basis) (job : Job) (status : JobStatus)
      → SawAll notes log now basis → basis.job ≡ Some job → ListsNoSuccess job
      → (planned basis).creates ≡ [] → (planned basis).marks ≡ [] → (planned basis).let_goes ≡ []
      → (planned basis).releases ≡ [] → (planned basis).first ≡ Some status
      → statuses now (JobPut (with_status log job status) ∷ log) < statuses now log
  -- The clock brings no status and no moment.
  pub no_status : (now later : ℕ) (log : List Entry) → now ≤ later → IsMoment later
      → statuses later log ≤ statuses now log
  pub no_moment : (now later : ℕ) (log : List Entry) (notes : List Note) → now ≤ later
      → moments later log (Ticked later ∷ notes) ≤ moments now log notes
  -- Where no key is in line and no moment has passed it brings no key, and takes one that was due.
  pub no_key : (now later : ℕ) (log : List Entry) (notes : List Note) → now ≤ later → line notes ≡ []
      → moments later log (Ticked later ∷ notes) ≡ moments now log notes
      → keys later log (Ticked later ∷ notes) ≤ keys now log notes
  pub due_key : (now later : ℕ) (log : List Entry) (notes : List Note) (due : ℕ) → now ≤ later → line notes ≡ []
      → least_delay notes ≡ Some due → due ≤ later
      → moments later log (Ticked later ∷ notes) ≡ moments now log notes
      → keys later log (Ticked later ∷ notes) < keys now log notes
  -- A sync that finds nothing to do leaves the moments, and takes its key.
  pub same_moments : (notes : List Note) (log : List Entry) (now w : ℕ) (basis : Basis)
      → moments now log (notes_of_nothing w basis now ++ notes) ≡ moments now log notes
  pub one_key : (notes : List Note) (log : List Entry) (now w : ℕ) (basis : Basis) (rest : List Key)
      → line notes ≡ basis.key ∷ rest → SawAll notes log now basis → (planned basis).first ≡ None
      → keys now log (notes_of_nothing w basis now ++ notes) < keys now log notes

module _ (statuses : ℕ → List Entry → ℕ) (moments keys : ℕ → List Entry → List Note → ℕ) where
  -- How much is still to come: faults that are pending, statuses, and of each controller moments and keys.
  abbrev pub count_of : Shape → List Deed → Count
  count_of shape past = record {
    faults = faults_pending shape past;
    statuses = statuses (moment shape past) (log_given shape past);
    moments = total (λ c. moments (moment shape past) (log_given shape past) (diary shape c past)) shape.controllers;
    keys = total (λ c. keys (moment shape past) (log_given shape past) (diary shape c past)) shape.controllers;
  }
