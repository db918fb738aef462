-- The parts of a plan from what its callees give.
use Rattle.std.proofs.Common.{◌≡◌, ℕ, ◌+◌, ◌≤◌, Bool, Option, Some, IfSome, refl, List, option_and_then, length, ap, sym, subst, ◌∙◌}
use Rattle.jc_types.specs.declared.limits.TheConstants.{GREATEST_PARALLELISM}
use Rattle.jc_types.specs.declared.numbers.Uid.{Uid}
use Rattle.jc_types.specs.declared.objects.Job.{Job}
use Rattle.jc_types.specs.declared.objects.Pod.{Pod}
use Rattle.jc_types.specs.declared.statuses.CondKind.{CondKind}
use Rattle.jc_types.specs.declared.statuses.Condition.{Condition}
use Rattle.jc_types.specs.declared.statuses.JobStatus.{JobStatus}
use Rattle.jc_types.specs.declared.statuses.Reason.{Reason}
use Rattle.jc_states.specs.declared.bases.Basis.{Basis}
use Rattle.jc_types.specs.declared.syncs.CountIn.{CountIn}
use Rattle.jc_states.specs.Bases.{CanPlan, own_pods}
use Rattle.jc_types.specs.ValidSpecs.{IsValidSpec}
use Rattle.jc_account.specs.Accounts.{counted_in, counted_out}
use Rattle.jc_finish.specs.Starts.{deadline_of, next_deadline, start_of}
use Rattle.jc_manage.specs.declared.results.Wants.{Wants}
use Rattle.jc_manage.specs.Backoffs.{backoff_after, opening}
use Rattle.jc_states.specs.Pods.{active_pods}
use Rattle.jc_perindex.specs.Failures.{filled_counts}
use Rattle.jc_plan.specs.declared.numbers.Numbers.{Numbers}
use Rattle.jc_plan.specs.Plans.{changed, earlier_of, planned, planned_for}
use Rattle.jc_plan.specs.PodNumbers.{active_after, ending_after, ready_after}
use Rattle.jc_plan.specs.Releases.{releases_of}
use Rattle.jc_plan.specs.Statuses.{accounted, completed_at, conditions_at, first_status_of, first_value, decided_in, is_end_decided, is_first_due, second_after, second_value, status_with, wants_in}
use Rattle.jc_plan.proofs.Going.{creates-bounded, going-active}

-- The specification of the Job that is there is valid.
valid-at : (basis : Basis) (job : Job) → basis.job ≡ Some job → CanPlan basis → IsValidSpec job.spec
valid-at basis job this can = subst (λ (o : Option Job). IfSome o (λ j. IsValidSpec j.spec)) this can.valid

-- No more pods are made than may run at once.
pub wants-created : (job : Job) (basis : Basis) (wants : Wants) → basis.job ≡ Some job → CanPlan basis → wants ≡ wants_in job basis → length wants.creates ≤ GREATEST_PARALLELISM
wants-created job basis wants this can e =
    subst (λ (w : Wants). length w.creates ≤ GREATEST_PARALLELISM) (sym e)
    (creates-bounded (opening (backoff_after basis.backoff (accounted job basis) basis.now)) basis.now (is_end_decided job (decided_in job basis)) job (own_pods job basis.pods) (accounted job basis) (valid-at basis job this can).parallelism)

-- No more pods are marked and let go than are active.
pub wants-going : (job : Job) (basis : Basis) (wants : Wants) → wants ≡ wants_in job basis → length wants.marks + length wants.let_goes ≤ length (active_pods (own_pods job basis.pods))
wants-going job basis wants e =
    subst (λ (w : Wants). length w.marks + length w.let_goes ≤ length (active_pods (own_pods job basis.pods))) (sym e)
    (going-active (is_end_decided job (decided_in job basis)) job (own_pods job basis.pods) (accounted job basis))

-- What is computed is the first status.
pub first-is : (job : Job) (basis : Basis) (counted : CountIn) (target : Option (CondKind × Reason)) (wants : Wants) (first : JobStatus)
    → counted ≡ accounted job basis → target ≡ decided_in job basis → wants ≡ wants_in job basis
    → first ≡ first_status_of basis.now job (own_pods job basis.pods) counted target wants → first ≡ first_value job basis
unfolding first_value
first-is job basis counted target wants first is_counted is_decided is_wanted is_first =
    is_first
    ∙ ap (λ (k : CountIn). first_status_of basis.now job (own_pods job basis.pods) k target wants) is_counted
    ∙ ap (λ (g : Option (CondKind × Reason)). first_status_of basis.now job (own_pods job basis.pods) (accounted job basis) g wants) is_decided
    ∙ ap (λ (w : Wants). first_status_of basis.now job (own_pods job basis.pods) (accounted job basis) (decided_in job basis) w) is_wanted

-- The status of parts that are those of the first status is the first status.
pub first-of-parts : (now : ℕ) (job : Job) (own : List Pod) (counted : CountIn) (target : Option (CondKind × Reason)) (wants : Wants) (due : Bool)
    → (numbers : Numbers) (start completion : Option ℕ) (conditions : List Condition)
    → numbers.active ≡ active_after wants own → numbers.ready ≡ ready_after wants own → numbers.terminating ≡ ending_after wants own
    → start ≡ start_of now job.spec job.status
    → conditions ≡ conditions_at now job target due
    → completion ≡ completed_at now job.status conditions
    → due ≡ is_first_due (is_end_decided job target) own counted
    → status_with counted numbers (record { start = start; completion = completion; conditions = conditions }) ≡ first_status_of now job own counted target wants
first-of-parts now job own counted target wants due numbers start completion conditions active ready ending starts settles completes is_due =
    let conditions-are = settles ∙ ap (conditions_at now job target) is_due in
    let completes-now = completes ∙ ap (completed_at now job.status) conditions-are in
    λ i. record {
      active = active i;
      ready = ready i;
      terminating = ending i;
      succeeded = counted.succeeded;
      failed = counted.failed;
      completed = counted.completed;
      failed_indexes = counted.failed_indexes;
      index_failures = counted.index_failures;
      uncounted_succeeded = counted.uncounted_succeeded;
      uncounted_failed = counted.uncounted_failed;
      start = starts i;
      completion = completes-now i;
      conditions = conditions-are i;
    }

-- The totals and lists of the first status are those of what is counted.
pub first-totals : (job : Job) (basis : Basis) (counted : CountIn) (first : JobStatus) → counted ≡ accounted job basis → first ≡ first_value job basis
    → (first.succeeded + length first.uncounted_succeeded ≡ counted.succeeded + length counted.uncounted_succeeded)
    × (first.failed + length first.uncounted_failed ≡ counted.failed + length counted.uncounted_failed)
unfolding first_value
first-totals job basis counted first is_counted is_first = (
  ap (λ (s : JobStatus). s.succeeded + length s.uncounted_succeeded) is_first ∙ ap (λ (k : CountIn). k.succeeded + length k.uncounted_succeeded) (sym is_counted),
  ap (λ (s : JobStatus). s.failed + length s.uncounted_failed) is_first ∙ ap (λ (k : CountIn). k.failed + length k.uncounted_failed) (sym is_counted),
)

-- And the second.
pub second-is : (job : Job) (basis : Basis) (counted : CountIn) (target : Option (CondKind × Reason)) (first second : JobStatus)
    → counted ≡ accounted job basis → target ≡ decided_in job basis → first ≡ first_value job basis
    → second ≡ second_after basis.now job (own_pods job basis.pods) counted target (counted_out first counted.releases) → second ≡ second_value job basis
unfolding first_value second_value
second-is job basis counted target first second is_counted is_decided is_first is_second =
    is_second
    ∙ ap (λ (g : Option (CondKind × Reason)). second_after basis.now job (own_pods job basis.pods) counted g (counted_out first counted.releases)) is_decided
    ∙ ap (λ (f : JobStatus). second_after basis.now job (own_pods job basis.pods) counted (decided_in job basis) (counted_out f counted.releases)) is_first
    ∙ ap (λ (k : CountIn). second_after basis.now job (own_pods job basis.pods) k (decided_in job basis) (counted_out (first_value job basis) k.releases)) is_counted

-- All parts together are the plan.
pub planned-is : (job : Job) (basis : Basis) (wants : Wants) → wants ≡ wants_in job basis
    → (deadline : Option ℕ) (f s : Option JobStatus) (r : List Uid) (next : Option ℕ)
    → basis.job ≡ Some job
    → deadline ≡ next_deadline basis
    → f ≡ changed job.status (first_value job basis)
    → s ≡ changed (first_value job basis) (second_value job basis)
    → r ≡ releases_of basis
    → next ≡ earlier_of wants.next deadline
    → record { creates = wants.creates; marks = wants.marks; let_goes = wants.let_goes; first = f; releases = r; second = s; backoff = wants.backoff; next = next } ≡ planned_for basis (Some job)
planned-is job basis wants is_wanted deadline f s r next this at_deadline is_f is_s is_r is_next =
    let e3 : deadline ≡ deadline_of basis.now job.spec job.status =
    at_deadline ∙ ap (λ (o : Option Job). option_and_then (λ (j : Job). deadline_of basis.now j.spec j.status) o) this in
    let e4 : next ≡ earlier_of (wants_in job basis).next (deadline_of basis.now job.spec job.status) =
    is_next ∙ ap (λ (w : Wants). earlier_of w.next deadline) is_wanted ∙ ap (earlier_of (wants_in job basis).next) e3 in
    λ i. record {
      creates = (is_wanted i).creates;
      marks = (is_wanted i).marks;
      let_goes = (is_wanted i).let_goes;
      first = is_f i;
      releases = is_r i;
      second = is_s i;
      backoff = (is_wanted i).backoff;
      next = e4 i;
    }

-- What holds of the Job that is there.
pub at-job : (P : Job → Type 0) (basis : Basis) (job : Job) → basis.job ≡ Some job → IfSome basis.job P → P job
at-job P basis job this held = subst (λ (o : Option Job). IfSome o P) this held

module _ (job : Job) (basis : Basis) (counted : CountIn) (this : basis.job ≡ Some job)
    (is_counted : IfSome basis.job (λ (j : Job). counted ≡ counted_in j basis.pods)) where
  module _ (full : CountIn) (is_full : IfSome basis.job (λ (j : Job). full ≡ filled_counts j (own_pods j basis.pods) counted)) where
    -- With what is said of them it is what the sync accounts for,
    pub accounted-is : full ≡ accounted job basis
    accounted-is =
        at-job (λ (j : Job). full ≡ filled_counts j (own_pods j basis.pods) counted) basis job this is_full
        ∙ ap (filled_counts job (own_pods job basis.pods)) (at-job (λ (j : Job). counted ≡ counted_in j basis.pods) basis job this is_counted)

    -- and what holds of all else holds as before.
    pub filled-holds : (P : CountIn → Type 0) → P (filled_counts job (own_pods job basis.pods) counted) → P full
    filled-holds P held =
        subst P (sym (at-job (λ (j : Job). full ≡ filled_counts j (own_pods j basis.pods) counted) basis job this is_full)) held

-- The plan is that for the Job that is there, or for none.
pub planned-here : (basis : Basis) (o : Option Job) → basis.job ≡ o → planned_for basis o ≡ planned basis
unfolding planned
planned-here basis o this = ap (planned_for basis) (sym this)

-- No more pods are marked and let go than are active.
pub plan-going : (job : Job) (basis : Basis) → length (wants_in job basis).marks + length (wants_in job basis).let_goes ≤ length (active_pods (own_pods job basis.pods))
plan-going job basis = wants-going job basis (wants_in job basis) refl

-- No more pods are made than may run at once.
pub plan-created : (job : Job) (basis : Basis) → job.spec.parallelism ≤ GREATEST_PARALLELISM → length (wants_in job basis).creates ≤ GREATEST_PARALLELISM
plan-created job basis few =
    creates-bounded (opening (backoff_after basis.backoff (accounted job basis) basis.now)) basis.now (is_end_decided job (decided_in job basis)) job (own_pods job basis.pods) (accounted job basis) few
