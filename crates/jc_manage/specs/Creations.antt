-- Which pods a Job makes (batch/v1, KEP-2214, KEP-3939). `own` are the Job's own pods.
--     wanted .., job_wants ..             how many active tracked pods there should be
--     lacking .., job_lacks ..            how many are to be made
--     holds pods n                        one of the pods has the index n
--     keeps_own job n pod                 the pod is the Job's own, and keeps the index n
--     keepers replacement own             the pods that keep their index from new ones
--     is_done_index counted n             the index is completed, or it has failed
--     free completions counted kept       the indexes that a new pod may have, in order
--     new_pods mode n free                the indexes of n new pods; none for pods without one
--     IsIndexFor job index                a new pod of the Job may have the index
--     creatable target job own counted    what the Job would make at once
--     foremost one made                      the first of it alone, where it matters only whether there is one
--     creates ..                          what it makes, as no pod is made before the opening
--     next ..                             the moment of that, where it was what held pods back
use Rattle.std.specs.Prelude.{◌≡◌, ◌<◌, ℕ, ◌-◌, ◌==◌, min, Bool, true, false, not, nat_lt, ◌&&◌, ◌||◌, if◌then◌else◌, List, [], ◌∷◌, map, filter, length, take, replicate, Option, Some, None, IfSome, is_some, unwrap_or}
use Rattle.std.specs.List.{list_any, range_with_len}
use Rattle.jc_ranges.specs.Sets.{has}
use Rattle.jc_types.specs.declared.objects.Job.{Job}
use Rattle.jc_types.specs.declared.objects.Pod.{Pod}
use Rattle.jc_types.specs.declared.specifications.Mode.{Mode}
use Rattle.jc_types.specs.declared.specifications.Mode.TheVariants.{NonIndexed, Indexed}
use Rattle.jc_types.specs.declared.specifications.Replacement.{Replacement}
use Rattle.jc_types.specs.declared.specifications.Replacement.TheVariants.{TerminatingOrFailed, FailedOnly}
use Rattle.jc_types.specs.declared.syncs.CountIn.{CountIn}
use Rattle.jc_types.specs.Counts.{counts}
use Rattle.jc_states.specs.Bases.{is_own}
use Rattle.jc_states.specs.Indexes.{has_index}
use Rattle.jc_states.specs.Pods.{is_active, is_ending, ending_pods, tracked_active_pods}
use Rattle.jc_moment.specs.Range.{as_moment}
use Rattle.jc_manage.specs.Backoffs.{is_delayed_until}

-- How many active pods there should be, where a are active. With completions: as many as may run at once, and no
-- more than are left to succeed, without the indexes that have failed. Without: as many as may run at once, and once
-- one has succeeded no new one.
abbrev pub wanted : ℕ → Option ℕ → ℕ → ℕ → ℕ → ℕ
wanted parallelism (Some completions) succeeded failed a = min parallelism (completions - succeeded - failed)
wanted parallelism None succeeded failed a = if succeeded == 0 then parallelism else a

-- How many pods are to be made, where a are active and m are ending. An ending pod counts until it has ended where
-- pods are replaced only then.
abbrev pub lacking : Replacement → ℕ → ℕ → ℕ → ℕ
lacking TerminatingOrFailed wanted a m = wanted - a
lacking FailedOnly wanted a m = wanted - a - m

-- How many active tracked pods the Job should have.
abbrev pub job_wants : Job → List Pod → CountIn → ℕ
job_wants job own counted =
    wanted job.spec.parallelism job.spec.completions (counts counted).1 (length counted.failed_indexes)
    (length (tracked_active_pods own))

-- How many pods the Job is to make.
abbrev pub job_lacks : Job → List Pod → CountIn → ℕ
job_lacks job own counted =
    lacking job.spec.replacement (job_wants job own counted) (length (tracked_active_pods own))
    (length (ending_pods own))

-- One of the pods has the index.
abbrev pub holds : List Pod → ℕ → Bool
holds pods n = list_any (has_index n) pods

-- The pod keeps its index from new pods: it is active, or it is ending and pods are replaced only once they have
-- ended.
abbrev pub keeps : Replacement → Pod → Bool
keeps TerminatingOrFailed pod = is_active pod
keeps FailedOnly pod = is_active pod || is_ending pod

-- The pod is the Job's own, and keeps the index n.
abbrev pub keeps_own : Job → ℕ → Pod → Bool
keeps_own job n pod = is_own job pod && (keeps job.spec.replacement pod && has_index n pod)

abbrev pub keepers : Replacement → List Pod → List Pod
keepers replacement own = filter (keeps replacement) own

-- The index is done: it is completed, or it has failed.
abbrev pub is_done_index : CountIn → ℕ → Bool
is_done_index counted n = has n counted.completed || has n counted.failed_indexes

-- A new pod may have the index: it is not done, and no pod keeps it.
abbrev pub is_free : CountIn → List Pod → ℕ → Bool
is_free counted kept n = not (is_done_index counted n) && not (holds kept n)

-- The indexes below `completions` that a new pod may have, in order.
abbrev pub free : ℕ → CountIn → List Pod → List ℕ
free completions counted kept = filter (is_free counted kept) (range_with_len 0 completions)

-- The indexes of n new pods, where these are free: the least of them, and as many as there are. Pods of a Job that
-- is not Indexed have none.
abbrev pub new_pods : Mode → ℕ → List ℕ → List (Option ℕ)
new_pods NonIndexed n free = replicate n None
new_pods Indexed n free = map (λ index. Some index) (take n free)

-- A new pod of the Job may have the index: one of an Indexed Job has one, below its completions.
pub record IsIndexFor (job : Job) (index : Option ℕ) : Type 0 where
  pub numbered : job.spec.mode ≡ Indexed → is_some index ≡ true
  pub below : IfSome index (λ i. i < unwrap_or job.spec.completions 0)

-- What the Job would make at once; nothing where its end is decided or it is suspended.
abbrev pub creatable : Bool → Job → List Pod → CountIn → List (Option ℕ)
creatable target job own counted =
    if target || job.spec.suspend then []
    else new_pods job.spec.mode (job_lacks job own counted)
    (free (unwrap_or job.spec.completions 0) counted (keepers job.spec.replacement own))

-- How many of so many are looked for, where it may matter only whether there is one.
abbrev pub looked_for : Bool → ℕ → ℕ
looked_for one lacking = if one && nat_lt 0 lacking then 1 else lacking

-- The first of what would be made alone, where it matters only whether there is one.
abbrev pub foremost : Bool → List (Option ℕ) → List (Option ℕ)
foremost one made = if one then take 1 made else made

-- Of what would be made at once, nothing before the opening.
abbrev pub creates : Option ℕ → ℕ → List (Option ℕ) → List (Option ℕ)
creates opening now creatable = if is_delayed_until opening now then [] else creatable

-- There is none.
abbrev pub is_none_of : List (Option ℕ) → Bool
is_none_of [] = true
is_none_of (index ∷ indexes) = false

-- The moment of the opening, where it held pods back.
abbrev pub next : Option ℕ → ℕ → List (Option ℕ) → Option ℕ
next opening now creatable =
    if is_delayed_until opening now && not (is_none_of creatable) then as_moment opening else None
