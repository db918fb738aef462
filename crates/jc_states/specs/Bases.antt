-- Words on what one sync sees.
--     is_own job pod          the pod was made for the Job, by UID
--     own_pods job pods       the Job's own pods, in the order in which they stand
--     CountsByIndex job pods  of an Indexed Job no success is listed, and each pod has an index
--     TotalsFit job pods      the totals with what is listed, and with the pods, are below 2 ^ 64
--     FailuresFit job pods    the failures of each index ascend by index, and are below 2 ^ 64 with the pods
--     CanPlan basis           there is a valid Job, and all numbers are small enough
--     same_basis              all members of two bases agree
use Rattle.std.specs.Cmp.Lexicographic.{pointwise}
use Rattle.std.specs.Prelude.{◌≡◌, ◌≢◌, ◌+◌, ◌<◌, ◌^◌, ◌&&◌, ◌==◌, Bool, List, [], length, map, filter, All, AllPairs, IsSome, IfSome}
use Rattle.jc_ranges.specs.Sets.{IsIncreasing}
use Rattle.jc_types.specs.declared.objects.Job.{Job}
use Rattle.jc_types.specs.declared.objects.Pod.{Pod}
use Rattle.jc_types.specs.declared.specifications.Mode.TheVariants.{Indexed}
use Rattle.jc_types.specs.declared.statuses.IndexCount.{IndexCount}
use Rattle.jc_states.specs.declared.bases.Basis.{Basis}
use Rattle.jc_types.specs.Equality.{same_backoff, same_job, same_option, same_pod}
use Rattle.jc_types.specs.Keys.{same_key, same_uid}
use Rattle.jc_states.specs.Indexes.{HasSmallIndex}
use Rattle.jc_types.specs.ValidSpecs.{IsValidSpec}

-- The pod was made for the Job. One of the same key may have been made for an earlier Job.
abbrev pub is_own : Job → Pod → Bool
is_own job pod = same_uid pod.owner_uid job.uid

-- The Job's own pods.
abbrev pub own_pods : Job → List Pod → List Pod
own_pods job pods = filter (is_own job) pods

-- Of an Indexed Job no success is listed, and each of its pods has an index.
abbrev pub CountsByIndex : Job → List Pod → Type 0
CountsByIndex job pods =
    job.spec.mode ≡ Indexed
    → (job.status.uncounted_succeeded ≡ []) × All (λ pod. IsSome pod.index) (own_pods job pods)

-- The totals of the Job, with what is listed and as many pods as there are, are below 2 ^ 64.
abbrev pub TotalsFit : Job → List Pod → Type 0
TotalsFit job pods =
    (job.status.succeeded + length job.status.uncounted_succeeded + length pods < 2 ^ 64)
    × (job.status.failed + length job.status.uncounted_failed + length pods < 2 ^ 64)

-- The failures of each index stand in ascending index, and with as many pods as there are they are below 2 ^ 64.
pub record FailuresFit (job : Job) (pods : List Pod) : Type 0 where
  pub ascending : IsIncreasing (map (λ (count : IndexCount). count.index) job.status.index_failures)
  pub fit :
      All (λ (count : IndexCount). count.failures + length pods < 2 ^ 64) job.status.index_failures

-- What a sync can be planned from.
pub record CanPlan (basis : Basis) : Type 0 where
  pub there : IsSome basis.job
  pub valid : IfSome basis.job (λ job. IsValidSpec job.spec)
  pub by_index : IfSome basis.job (λ job. CountsByIndex job basis.pods)
  pub totals : IfSome basis.job (λ job. TotalsFit job basis.pods)
  pub index_failures : IfSome basis.job (λ job. FailuresFit job basis.pods)
  pub distinct : AllPairs (λ pod other. pod.uid ≢ other.uid) basis.pods
  pub indexes : All HasSmallIndex basis.pods
  pub few : length basis.pods < 2 ^ 31
  pub failures : basis.backoff.failures + length basis.pods < 2 ^ 64
  pub last : 0 < basis.backoff.failures → IsSome basis.backoff.last

-- All members of two bases agree.
abbrev pub same_basis : Basis → Basis → Bool
same_basis a b =
    same_key a.key b.key && (same_option same_job a.job b.job && (pointwise same_pod a.pods b.pods
    && ((a.jobs_at.0 == b.jobs_at.0) && ((a.pods_at.0 == b.pods_at.0) && ((a.now == b.now)
    && same_backoff a.backoff b.backoff)))))
