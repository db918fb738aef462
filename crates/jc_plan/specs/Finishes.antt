-- What a plan does where its Job ends, and where it has ended.
--     GainsEnd job status     an end is new in the status
--     IsFinalStatus status    a status with an end: nothing is listed, and no pod is counted
--     HasIndexTotals job      the total of an Indexed Job is the number of its completed indexes; failures by
--                             index ascend
--     LeavesNoPod job basis   no own pod is open or left over, and none is made
--     HasFinished job basis   the Job has ended, and nothing is left to do for it
--     IsIdle basis            the plan asks for nothing and writes nothing
use Rattle.std.specs.Prelude.{◌≡◌, true, false, [], map, length, None}
use Rattle.std.specs.List.{list_any}
use Rattle.jc_ranges.specs.Sets.{IsIncreasing}
use Rattle.jc_types.specs.declared.objects.Job.{Job}
use Rattle.jc_types.specs.declared.specifications.Mode.TheVariants.{Indexed}
use Rattle.jc_types.specs.declared.statuses.IndexCount.{IndexCount}
use Rattle.jc_types.specs.declared.statuses.JobStatus.{JobStatus}
use Rattle.jc_states.specs.declared.bases.Basis.{Basis}
use Rattle.jc_states.specs.Bases.{own_pods}
use Rattle.jc_states.specs.Conditions.{has_end, has_target}
use Rattle.jc_states.specs.Pods.{is_open, is_tracked}
use Rattle.jc_account.specs.Accounts.{counted_in}
use Rattle.jc_plan.specs.declared.plans.Planned.{Planned}
use Rattle.jc_plan.specs.Next.{ListsNoSuccess}
use Rattle.jc_plan.specs.Plans.{planned}
use Rattle.jc_plan.specs.Statuses.{leaves_none, wants_in}

-- An end is new in the status: it stands there, and none stood in that of the Job.
pub record GainsEnd (job : Job) (status : JobStatus) : Type 0 where
  pub none : has_end job.status.conditions ≡ false
  pub new : has_end status.conditions ≡ true

-- A status with an end: a target stands, nothing is listed and no pod is counted.
pub record IsFinalStatus (status : JobStatus) : Type 0 where
  pub target : has_target status.conditions ≡ true
  pub failed_list : status.uncounted_failed ≡ []
  pub succeeded_list : status.uncounted_succeeded ≡ []
  pub active : status.active ≡ 0
  pub ready : status.ready ≡ 0
  pub terminating : status.terminating ≡ 0

-- Of an Indexed Job no success is listed, and its total is the number of its completed indexes. Of a Job without a limit
-- for each index nothing is said of failed indexes; the failures of each index ascend by index.
pub record HasIndexTotals (job : Job) : Type 0 where
  pub none : ListsNoSuccess job
  pub size : job.spec.mode ≡ Indexed → job.status.succeeded ≡ length job.status.completed
  pub failing : job.spec.per_index ≡ None
      → (job.status.failed_indexes ≡ []) × (job.status.index_failures ≡ [])
  pub ascending : IsIncreasing (map (λ (count : IndexCount). count.index) job.status.index_failures)

-- No own pod is open or left over for a later sync, and none is made.
pub record LeavesNoPod (job : Job) (basis : Basis) : Type 0 where
  pub closed : list_any is_open (own_pods job basis.pods) ≡ false
  pub left : leaves_none (counted_in job basis.pods) ≡ true
  pub creates : (wants_in job basis).creates ≡ []

-- The Job has ended and its status is final, and none of its own pods is open or has the finalizer.
pub record HasFinished (job : Job) (basis : Basis) : Type 0 where
  pub ended : has_end job.status.conditions ≡ true
  pub final : IsFinalStatus job.status
  pub totals : HasIndexTotals job
  pub closed : list_any is_open (own_pods job basis.pods) ≡ false
  pub untracked : list_any is_tracked (own_pods job basis.pods) ≡ false

-- The plan makes, marks and lets go no pod, and writes no status.
pub record Idles (plan : Planned) : Type 0 where
  pub creates : plan.creates ≡ []
  pub marks : plan.marks ≡ []
  pub let_goes : plan.let_goes ≡ []
  pub first : plan.first ≡ None
  pub second : plan.second ≡ None

abbrev pub IsIdle : Basis → Type 0
IsIdle basis = Idles (planned basis)
