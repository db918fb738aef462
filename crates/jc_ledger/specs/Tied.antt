-- What ties the ledger to the log, from event to event: the invariant of counting once. It speaks of a flat
-- list of syncs under way, and of no controller, worker, queue or moment.
--     made_as j log                  the Job of the UID as it was made, with what never changes of it
--     HasOrderedLists job            the two lists ascend, are apart and short, and fit the completion mode
--     IsTrueRecord made log r        a record is what the log says of its pod
--     IsListing records v status     what the status of version v lists was judged by then
--     IsCurrent ..                   what is known of the Job as it is now
--     TiesJob made log ledger        all that ties the ledger of a Job
--     TotalsWithin n job             each total with its list is at most n
--     TotalsAreWithin log            so it is of each version of a Job, with the number of the entries
--     HasIndexIn log pod             the pod has an index, if it was made for an Indexed Job
--     PodsHaveIndexes log            so has each pod that lives
--     TakesWell, AllWell             each finalizer that a sync took while the Job was there
--     OnceBefore deeds log           before the last deed each pod was counted once, after each deed
--     Tied deeds log flights         all that ties
use Rattle.std.specs.Prelude.{◌≡◌, ℕ, ◌+◌, ◌<◌, ◌≤◌, true, false, ◌&&◌, List, [], ◌∷◌, length, map, if◌then◌else◌, Option, Some, None, is_some, IfSome, IsSome}
use Rattle.std.specs.List.{AllByRecursion as Each}
use Rattle.jc_ranges.specs.Sets.{IsIncreasing}
use Rattle.jc_types.specs.declared.limits.TheConstants.{MOST_UNCOUNTED}
use Rattle.jc_types.specs.declared.numbers.Uid.{Uid}
use Rattle.jc_types.specs.declared.objects.Entry.{Entry}
use Rattle.jc_types.specs.declared.objects.Entry.TheVariants.{JobPut, JobGone, PodPut, PodGone}
use Rattle.jc_types.specs.declared.objects.Job.{Job}
use Rattle.jc_types.specs.declared.objects.Pod.{Pod}
use Rattle.jc_types.specs.declared.specifications.Mode.TheVariants.{NonIndexed, Indexed}
use Rattle.jc_types.specs.declared.statuses.IndexCount.{IndexCount}
use Rattle.jc_types.specs.declared.statuses.JobStatus.{JobStatus}
use Rattle.jc_log.specs.Deeds.{Deed}
use Rattle.jc_types.specs.Keys.{same_uid}
use Rattle.jc_log.specs.Log.{upto, entry_at, job_in, is_job_of, life, Live, is_lost}
use Rattle.jc_states.specs.UidLists.{Ascends, is_in}
use Rattle.jc_log.specs.Writes.{Legal}
use Rattle.jc_failpol.specs.declared.outcomes.Outcome.TheVariants.{Succeeded, Failed}
use Rattle.jc_failpol.specs.Outcomes.{is_verdict, outcome_of}
use Rattle.jc_failpol.specs.Policies.{WaitsForEnd}
use Rattle.jc_states.specs.Listed.{is_listed}
use Rattle.jc_ledger.specs.declared.flights.Flight.{Flight}
use Rattle.jc_ledger.specs.Flights.{Flies}
use Rattle.jc_ledger.specs.Ledger.{Record, record_of, judged_as, Ledger, ledger_of}
use Rattle.jc_account.specs.Rooms.{joins_list}
use Rattle.jc_ledger.specs.Once.{IsJudged, SaysFails, taking_of, IsJustified, OnceAtEach}
use Rattle.jc_ledger.specs.Syncs.{reach, Began, began_of, request_of, appends}

-- ---- what never changes of a Job

-- The Job that was made first, if there is one, or this one, if it has the UID.
abbrev pub made_after : Uid → Job → Option Job → Option Job
made_after j job None = if same_uid job.uid j then Some job else None
made_after j job (Some made) = Some made

-- The Job of the UID as it was made.
abbrev pub made_as : Uid → List Entry → Option Job
made_as j [] = None
made_as j (JobPut job ∷ older) = made_after j job (made_as j older)
made_as j (JobGone job ∷ older) = made_as j older
made_as j (PodPut pod ∷ older) = made_as j older
made_as j (PodGone pod ∷ older) = made_as j older

-- ---- the log and the records

-- The lists of the status ascend, are apart, and are short together; its counts ascend by index. An Indexed
-- Job lists no success, and its total is the number of its completed indexes; another Job completes none.
pub record HasOrderedLists (job : Job) : Type 0 where
  pub failed : Ascends job.status.uncounted_failed
  pub succeeded : Ascends job.status.uncounted_succeeded
  pub apart : (u : Uid)
      → (is_in u job.status.uncounted_succeeded && is_in u job.status.uncounted_failed) ≡ false
  pub few : length job.status.uncounted_succeeded + length job.status.uncounted_failed ≤ MOST_UNCOUNTED
  pub none : job.spec.mode ≡ Indexed → job.status.uncounted_succeeded ≡ []
  pub size : job.spec.mode ≡ Indexed → job.status.succeeded ≡ length job.status.completed
  pub plain : job.spec.mode ≡ NonIndexed → job.status.completed ≡ []
  pub counts : IsIncreasing (map (λ (count : IndexCount). count.index) job.status.index_failures)

-- A record is what the log says of its pod: it stood so among the first `seen` entries, which are fewer than
-- those up to the write that judged it.
pub record IsTrueRecord (made : Job) (log : List Entry) (r : Record) : Type 0 where
  pub before : r.seen < r.at
  pub within : r.at ≤ length log
  pub stood : life r.pod.uid (upto r.seen log) ≡ Live r.pod
  pub tracked : r.pod.tracked ≡ true
  pub owner : r.pod.owner_uid ≡ made.uid
  pub judged : outcome_of made.spec r.pod ≡ r.outcome
  pub verdict : is_verdict r.outcome ≡ true

-- What the status of version v lists was judged so, by then.
pub record IsListing (records : List Record) (v : ℕ) (status : JobStatus) : Type 0 where
  pub failed : (u : Uid) → is_in u status.uncounted_failed ≡ true
      → IsJudged records u Failed v
  pub succeeded : (u : Uid) → is_in u status.uncounted_succeeded ≡ true
      → IsJudged records u Succeeded v

-- What is known of the Job as it is now. A judged pod that is not listed has lost its finalizer; totals,
-- lists and failures by index are the ledger's, and each record was made by the Job's version.
pub record IsCurrent (log : List Entry) (ledger : Ledger) (job : Job) : Type 0 where
  pub lost : (u : Uid) (r : Record) → record_of u ledger.records ≡ Some r
      → joins_list job.spec.mode r.outcome ≡ true → is_listed job.status u ≡ false
      → is_lost (life u (upto job.version.0 log)) ≡ true
  pub failed : job.status.failed + length job.status.uncounted_failed
      ≡ length (judged_as Failed ledger.records)
  pub succeeded : job.spec.mode ≡ NonIndexed
      → job.status.succeeded + length job.status.uncounted_succeeded
      ≡ length (judged_as Succeeded ledger.records)
  pub completed : job.spec.mode ≡ Indexed → job.status.completed ≡ ledger.done
  pub seen : (u : Uid) (r : Record) → record_of u ledger.records ≡ Some r → r.at ≤ job.version.0
  pub by_index : SaysFails job.spec.per_index job ledger

-- What ties the ledger of a Job to the log. Only an Indexed Job limits the failures of each index. What a
-- version lists is said of every version: a cache that lags behind may hand out an old one.
pub record TiesJob (made : Job) (log : List Entry) (ledger : Ledger) : Type 0 where
  pub waits : WaitsForEnd made.spec
  pub limited : IsSome made.spec.per_index → made.spec.mode ≡ Indexed
  pub sound : (u : Uid) (r : Record) → record_of u ledger.records ≡ Some r → IsTrueRecord made log r
  pub tidy : (v : ℕ) (job : Job) → entry_at v log ≡ Some (JobPut job) → job.uid ≡ made.uid
      → HasOrderedLists job
  pub listed : (v : ℕ) (job : Job) → entry_at v log ≡ Some (JobPut job) → job.uid ≡ made.uid
      → IsListing ledger.records v job.status
  pub now : (job : Job) → job_in made.key log ≡ Some job → job.uid ≡ made.uid
      → IsCurrent log ledger job

-- Of a Job that was not made, nothing was judged.
abbrev pub Ties : Option Job → List Entry → Ledger → Type 0
Ties None log ledger = (ledger.records ≡ []) × (ledger.done ≡ []) × (ledger.failed ≡ [])
Ties (Some made) log ledger = TiesJob made log ledger

-- The pod has an index, if it was made for an Indexed Job.
abbrev pub HasIndexIn : List Entry → Pod → Type 0
HasIndexIn log pod =
    IfSome (made_as pod.owner_uid log) (λ made. made.spec.mode ≡ Indexed → is_some pod.index ≡ true)

-- So has each pod that lives.
abbrev pub PodsHaveIndexes : List Entry → Type 0
PodsHaveIndexes log = (u : Uid) (pod : Pod) → life u log ≡ Live pod → HasIndexIn log pod

-- Each total of the Job with its list is at most n, and so are the failures of each index.
pub record TotalsWithin (n : ℕ) (job : Job) : Type 0 where
  pub failed : job.status.failed + length job.status.uncounted_failed ≤ n
  pub succeeded : job.status.succeeded + length job.status.uncounted_succeeded ≤ n
  pub failures : Each (λ (count : IndexCount). count.failures ≤ n) job.status.index_failures

-- Each is at most the number of the entries, at every version of the Job.
abbrev pub TotalsAreWithin : List Entry → Type 0
TotalsAreWithin log =
    (v : ℕ) (job : Job) → entry_at v log ≡ Some (JobPut job) → TotalsWithin (length log) job

-- ---- finalizers that syncs took

-- If the deed took the finalizer of a pod while its Job was there, it was justified. That the Job was there
-- is asked of the moment before, so that an old deed never has to be looked at again.
abbrev pub TakesWell : Deed → List Deed → List Entry → Type 0
TakesWell d past log =
    IfSome (taking_of (request_of d.reply)) (λ taking. appends d past ≡ true
    → (pod : Pod) → life taking.pod (upto (reach past) log) ≡ Live pod
    → (made : Job) → made_as pod.owner_uid log ≡ Some made
    → is_job_of made.uid (job_in made.key (upto (reach past) log)) ≡ true
    → IsJustified made (ledger_of made.uid past log).records d.length.0 log taking.lets_go pod)

-- Each finalizer that a sync took.
abbrev pub AllWell : List Deed → List Entry → Type 0
AllWell [] log = Unit {0}
AllWell (d ∷ past) log = TakesWell d past log × AllWell past log

-- ---- all together

-- The two numbers are places of the log.
abbrev pub StandsWithin : ℕ → Began → Type 0
StandsWithin n began = (began.jobs_at ≤ n) × (began.pods_at ≤ n)

-- The lengths that the deeds tell do not fall, and end with that of the log.
abbrev pub IsReached : List Deed → ℕ → Type 0
IsReached [] n = n ≡ 0
IsReached (d ∷ past) n = (d.length.0 ≡ n) × ((reach past ≤ n) × IsReached past (reach past))

-- After each deed but the last each pod was counted once.
abbrev pub OnceBefore : List Deed → List Entry → Type 0
OnceBefore [] log = Unit {0}
OnceBefore (d ∷ past) log = OnceAtEach past log

-- What ties a history of deeds, its log and the syncs under way. A sync may be planned from an old version of
-- the log, so what its plan asks of pods and totals is said of every version.
pub record Tied (deeds : List Deed) (log : List Entry) (flights : List Flight) : Type 0 where
  pub legal : Legal log
  pub reached : IsReached deeds (length log)
  pub within : Each (λ d. IfSome (began_of d.reply) (StandsWithin (length log))) deeds
  pub jobs : (j : Uid) → Ties (made_as j log) log (ledger_of j deeds log)
  pub numbered : (v : ℕ) → PodsHaveIndexes (upto v log)
  pub totals : TotalsAreWithin log
  pub taken : AllWell deeds log
  pub once : OnceBefore deeds log
  pub flying : Each (Flies log) flights
