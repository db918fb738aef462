-- What it means that a history counts each pod once (KEP-2307).
--     IsJudged records u outcome v    the pod of the UID was judged so, by a write of version v or before
--     Taking, taking_of request       a request that takes a finalizer
--     PutBefore P j w log             a Job of the UID was put before version w, and P holds of it
--     needs_none job pod              its index is completed, or not below the number of completions
--     Cause ..                        why a sync may take the finalizer of a pod
--     IsJustified ..                  it may, and the Job's target stands where the pod fails the Job
--     AllJustified job deeds log      each finalizer that a sync took of the Job's pods
--     SaysFails limit job ledger      the status says of failures by index what the ledger says
--     CountsOnce deeds log job        the Job's status counts each pod once
--     Once deeds log                  that of each Job that is there
--     OnceAtEach deeds log            after each of the deeds, so it was then
use Rattle.std.specs.Prelude.{◌≡◌, ℕ, ◌+◌, ◌<◌, ◌≤◌, Bool, true, false, not, ◌&&◌, ◌||◌, List, [], ◌∷◌, length, Option, Some, None, IfSome}
use Rattle.std.specs.List.{IsDistinct}
use Rattle.std.specs.Option.{option_map_or}
use Rattle.jc_ranges.specs.Sets.{has}
use Rattle.jc_types.specs.declared.limits.TheConstants.{MOST_UNCOUNTED}
use Rattle.jc_types.specs.declared.numbers.Uid.{Uid}
use Rattle.jc_types.specs.declared.objects.Entry.{Entry}
use Rattle.jc_types.specs.declared.objects.Entry.TheVariants.{JobPut}
use Rattle.jc_types.specs.declared.objects.Job.{Job}
use Rattle.jc_types.specs.declared.objects.Phase.TheVariants as phase
use Rattle.jc_types.specs.declared.objects.Pod.{Pod}
use Rattle.jc_types.specs.declared.replies.Request.{Request}
use Rattle.jc_types.specs.declared.replies.Request.TheVariants as request
use Rattle.jc_types.specs.declared.specifications.Mode.TheVariants.{NonIndexed, Indexed}
use Rattle.jc_states.specs.Conditions.{has_target}
use Rattle.jc_log.specs.Deeds.{Deed}
use Rattle.jc_types.specs.declared.objects.KeyNames.{KeyNames as Key}
use Rattle.jc_types.specs.Keys.{same_uid}
use Rattle.jc_log.specs.Log.{upto, entry_at, job_in, life, Live, is_lost}
use Rattle.jc_states.specs.Pods.{is_active}
use Rattle.jc_states.specs.UidLists.{is_in}
use Rattle.jc_failpol.specs.declared.outcomes.Outcome.{Outcome}
use Rattle.jc_failpol.specs.declared.outcomes.Outcome.TheVariants.{Succeeded, Failed, Ignored}
use Rattle.jc_failpol.specs.Outcomes.{outcome_of}
use Rattle.jc_failpol.specs.FailJob.{fails_job}
use Rattle.jc_states.specs.Listed.{is_listed}
use Rattle.jc_account.specs.Rooms.{joins_list}
use Rattle.jc_ledger.specs.Ledger.{fails_of, is_within, Ledger, Record, record_of, judged_as, ledger_of}
use Rattle.jc_ledger.specs.Syncs.{reach, request_of, appends}

-- The pod of the UID was judged with the outcome, by a write of this version or a smaller one.
pub record IsJudged (records : List Record) (u : Uid) (outcome : Outcome) (v : ℕ) : Type 0 where
  pub found : Record
  pub is_found : record_of u records ≡ Some found
  pub as_such : found.outcome ≡ outcome
  pub by_then : found.at ≤ v

-- ---- finalizers that syncs took

-- A request that takes a finalizer: of which pod, and whether the pod is let go.
pub record Taking : Type 0 where
  pub pod : Uid
  pub lets_go : Bool

-- That of a request.
abbrev pub taking_of : Option Request → Option Taking
taking_of (Some (request.Release pod)) = Some (record { pod = pod; lets_go = false })
taking_of (Some (request.LetGo pod)) = Some (record { pod = pod; lets_go = true })
taking_of other = None

-- A Job of the UID was put before version w, and P holds of it.
pub record PutBefore (P : Job → Type 0) (j : Uid) (w : ℕ) (log : List Entry) : Type 0 where
  pub version : ℕ
  pub before : version < w
  pub put : Job
  pub is_put : entry_at version log ≡ Some (JobPut put)
  pub uid : put.uid ≡ j
  pub holds : P put

-- The index of the pod is completed, or not below the number of completions: its success needs no count.
abbrev pub needs_none : Job → Pod → Bool
needs_none job pod =
    option_map_or (λ index. has index job.status.completed || not (is_within job.spec index)) pod.index false

-- Why a sync may take the finalizer of the pod of the Job, by an entry of version w: the pod was judged
-- before; it has failed and is ignored; it was active and is let go; or it has succeeded, and at some version
-- before its index was completed, or was not below the number of completions.
pub data Cause (job : Job) (records : List Record) (w : ℕ) (log : List Entry) (lets_go : Bool)
    (pod : Pod) : Type 0
  where
    WasJudged : (r : Record) → record_of pod.uid records ≡ Some r → r.at < w
        → Cause job records w log lets_go pod
    IsIgnored : outcome_of job.spec pod ≡ Ignored → Cause job records w log lets_go pod
    WasActive : lets_go ≡ true → is_active pod ≡ true → Cause job records w log lets_go pod
    NeedsNone : job.spec.mode ≡ Indexed → pod.phase ≡ phase.Succeeded
        → PutBefore (λ put. needs_none put pod ≡ true) job.uid w log
        → Cause job records w log lets_go pod

-- A sync may take the finalizer of the pod, and where the pod fails the Job a target stood before.
pub record IsJustified (job : Job) (records : List Record) (w : ℕ) (log : List Entry) (lets_go : Bool)
    (pod : Pod) : Type 0 where
  pub cause : Cause job records w log lets_go pod
  pub target : fails_job job.spec pod ≡ true
      → PutBefore (λ put. has_target put.status.conditions ≡ true) job.uid w log

-- If the deed took the finalizer of a pod of the Job, as it stood just before, it was justified.
abbrev pub TakesJustly : Job → Deed → List Deed → List Entry → Type 0
TakesJustly job d past log =
    IfSome (taking_of (request_of d.reply)) (λ taking. appends d past ≡ true
    → (pod : Pod) → life taking.pod (upto (reach past) log) ≡ Live pod → pod.owner_uid ≡ job.uid
    → IsJustified job (ledger_of job.uid past log).records d.length.0 log taking.lets_go pod)

-- Each finalizer that a sync took of the Job's pods.
abbrev pub AllJustified : Job → List Deed → List Entry → Type 0
AllJustified job [] log = Unit {0}
AllJustified job (d ∷ past) log = TakesJustly job d past log × AllJustified job past log

-- ---- what is counted once

-- The status says of failures by index what the ledger says; of a Job without a limit for each it says
-- nothing.
abbrev pub SaysFails : Option ℕ → Job → Ledger → Type 0
SaysFails None job ledger =
    (job.status.index_failures ≡ []) × (job.status.failed_indexes ≡ [])
SaysFails (Some limit) job ledger =
    (job.status.index_failures ≡ fails_of job.spec.failure ledger.records)
    × (job.status.failed_indexes ≡ ledger.failed)

-- The Job's status counts each pod once. Each total with its list is the number of the pods that the
-- ledger judged so; an Indexed Job's completed indexes are the ledger's. The listed UIDs are distinct and
-- were judged as their list says; a judged pod that is not listed had lost its finalizer when the status
-- was written, since the entry of the Job's version is the Job's own. The two lists stay short. Each
-- finalizer was taken justly. The failures by index are the ledger's.
pub record CountsOnce (deeds : List Deed) (log : List Entry) (job : Job) : Type 0 where
  pub failed : job.status.failed + length job.status.uncounted_failed
      ≡ length (judged_as Failed (ledger_of job.uid deeds log).records)
  pub succeeded : job.spec.mode ≡ NonIndexed
      → job.status.succeeded + length job.status.uncounted_succeeded
      ≡ length (judged_as Succeeded (ledger_of job.uid deeds log).records)
  pub distinct_failed : IsDistinct same_uid job.status.uncounted_failed
  pub distinct_succeeded : IsDistinct same_uid job.status.uncounted_succeeded
  pub apart : (u : Uid)
      → (is_in u job.status.uncounted_succeeded && is_in u job.status.uncounted_failed) ≡ false
  pub listed_failed : (u : Uid) → is_in u job.status.uncounted_failed ≡ true
      → IsJudged (ledger_of job.uid deeds log).records u Failed job.version.0
  pub listed_succeeded : (u : Uid) → is_in u job.status.uncounted_succeeded ≡ true
      → IsJudged (ledger_of job.uid deeds log).records u Succeeded job.version.0
  pub unlisted : (u : Uid) (r : Record) → record_of u (ledger_of job.uid deeds log).records ≡ Some r
      → joins_list job.spec.mode r.outcome ≡ true → is_listed job.status u ≡ false
      → is_lost (life u (upto job.version.0 log)) ≡ true
  pub few : length job.status.uncounted_succeeded + length job.status.uncounted_failed ≤ MOST_UNCOUNTED
  pub taken : AllJustified job deeds log
  pub completed : job.spec.mode ≡ Indexed
      → job.status.completed ≡ (ledger_of job.uid deeds log).done
  pub size : job.spec.mode ≡ Indexed → job.status.succeeded ≡ length job.status.completed
  pub none : job.spec.mode ≡ Indexed → job.status.uncounted_succeeded ≡ []
  pub plain : job.spec.mode ≡ NonIndexed → job.status.completed ≡ []
  pub by_index : SaysFails job.spec.per_index job (ledger_of job.uid deeds log)

-- Each Job that is there counts each of its pods once.
abbrev pub Once : List Deed → List Entry → Type 0
Once deeds log = (k : Key) (job : Job) → job_in k log ≡ Some job → CountsOnce deeds log job

-- So it was after each of the deeds, in the log as it was then. Before the first there was no Job.
abbrev pub OnceAtEach : List Deed → List Entry → Type 0
OnceAtEach [] log = Unit {0}
OnceAtEach (d ∷ past) log = Once (d ∷ past) (upto d.length.0 log) × OnceAtEach past log
