-- What a law on an event asks of it: facts on the deed, on the entry that it appended, and on the sync whose
-- step it is. `flight` is that sync, as it was before the event.
--     StatusWrite                 a sync writes a status: what goes with it
--     FinalizerWrite              a sync takes the finalizer of a pod: what goes with it
--     AppendsNoEntry d log        the deed appended nothing, and what began is within the log
--     IsWritten d log             the deed appended one entry, and nothing began
--     IsPlain d                   the deed is no write of a status and takes no finalizer
--     IsEmpty status              the status of a new Job
--     CreatesJob, UpdatesJob, DeletesJob     the writes of a Job by commands
--     WritesPod                   a pod is made, or changed but for its finalizer by a sync
--     Begins                      a sync begins
--     FindsNothing                a release finds no pod that has the finalizer
--     filled_in job pods          what a sync counts in, with the failures of each index
--     CountsIn job pods status    the status counts in what the sync saw
--     CountsOut before u status   the status counts out the released pods
--     WritesFirst, WritesSecond   the two writes of a status
--     Releases, Orphans, LetsGo   the finalizer of a pod is taken
use Rattle.std.specs.Prelude.{◌≡◌, ◌+◌, ◌≤◌, true, false, List, [], ◌∷◌, ◌++◌, length, find, Option, Some, None, IfSome, IsSome}
use Rattle.jc_types.specs.declared.numbers.Uid.{Uid}
use Rattle.jc_types.specs.declared.objects.Entry.{Entry}
use Rattle.jc_types.specs.declared.objects.Entry.TheVariants.{JobPut, JobGone, PodPut, PodGone}
use Rattle.jc_types.specs.declared.objects.Job.{Job}
use Rattle.jc_types.specs.declared.objects.Pod.{Pod}
use Rattle.jc_types.specs.declared.replies.Answer.{Answer}
use Rattle.jc_types.specs.declared.replies.Reply.TheVariants.{Stepped}
use Rattle.jc_types.specs.declared.replies.Request.{Request}
use Rattle.jc_types.specs.declared.replies.Request.TheVariants as request
use Rattle.jc_types.specs.declared.specifications.Mode.TheVariants.{Indexed}
use Rattle.jc_types.specs.declared.statuses.JobStatus.{JobStatus}
use Rattle.jc_states.specs.declared.bases.Basis.{Basis}
use Rattle.jc_types.specs.declared.syncs.CountIn.{CountIn}
use Rattle.jc_states.specs.Bases.{own_pods}
use Rattle.jc_states.specs.Owners.{is_foreign}
use Rattle.jc_states.specs.Conditions.{has_target}
use Rattle.jc_log.specs.Deeds.{Deed}
use Rattle.jc_types.specs.Keys.{same_uid}
use Rattle.jc_log.specs.Log.{job_in, life, Live, Never, is_lost}
use Rattle.jc_states.specs.Pods.{is_active}
use Rattle.jc_states.specs.UidLists.{is_in}
use Rattle.jc_log.specs.Writes.{Allowed}
use Rattle.jc_failpol.specs.Policies.{WaitsForEnd}
use Rattle.jc_failpol.specs.FailJob.{fails_job}
use Rattle.jc_account.specs.Accounts.{counted_in, counted_out}
use Rattle.jc_perindex.specs.Failures.{filled_counts}
use Rattle.jc_ledger.specs.declared.flights.Flight.{Flight}
use Rattle.jc_ledger.specs.Flights.{known, IsBasisOf}
use Rattle.jc_ledger.specs.Ledger.{is_status}
use Rattle.jc_ledger.specs.Once.{taking_of}
use Rattle.jc_ledger.specs.Syncs.{Began, began_of, request_of, step_sync}
use Rattle.jc_ledger.specs.Tied.{HasIndexIn, StandsWithin}

-- ---- deeds

-- The deed appended nothing, and a sync that it began is within the log.
pub record AppendsNoEntry (d : Deed) (log : List Entry) : Type 0 where
  pub still : d.length.0 ≡ length log
  pub within : IfSome (began_of d.reply) (StandsWithin (length log))

-- The deed appended one entry, which is allowed, and began nothing.
pub record IsWritten (d : Deed) (log : List Entry) (e : Entry) : Type 0 where
  pub grown : d.length.0 ≡ length log + 1
  pub began : began_of d.reply ≡ None
  pub allowed : Allowed log e

-- The deed is no write of a status by a sync and takes no finalizer for one.
pub record IsPlain (d : Deed) : Type 0 where
  pub status : is_status (request_of d.reply) ≡ false
  pub taking : taking_of (request_of d.reply) ≡ None

-- ---- writes of Jobs

-- What a new status says of counts: nothing.
pub record IsEmpty (status : JobStatus) : Type 0 where
  pub succeeded : status.succeeded ≡ 0
  pub failed : status.failed ≡ 0
  pub uncounted_succeeded : status.uncounted_succeeded ≡ []
  pub uncounted_failed : status.uncounted_failed ≡ []
  pub completed : status.completed ≡ []
  pub index_failures : status.index_failures ≡ []
  pub failed_indexes : status.failed_indexes ≡ []

-- A Job is made.
pub record CreatesJob (d : Deed) (log : List Entry) (job : Job) : Type 0 where
  pub written : IsWritten d log (JobPut job)
  pub plain : IsPlain d
  pub absent : job_in job.key log ≡ None
  pub empty : IsEmpty job.status
  pub waits : WaitsForEnd job.spec
  pub limited : IsSome job.spec.per_index → job.spec.mode ≡ Indexed

-- A Job is updated: its status stays.
pub record UpdatesJob (d : Deed) (log : List Entry) (old job : Job) : Type 0 where
  pub written : IsWritten d log (JobPut job)
  pub plain : IsPlain d
  pub there : job_in job.key log ≡ Some old
  pub status : job.status ≡ old.status

-- A Job is deleted.
pub record DeletesJob (d : Deed) (log : List Entry) (job : Job) : Type 0 where
  pub written : IsWritten d log (JobGone job)
  pub plain : IsPlain d

-- ---- writes of pods

-- The pod that the entry puts or takes.
abbrev pub pod_of : Entry → Option Pod
pod_of (PodPut pod) = Some pod
pod_of (PodGone pod) = Some pod
pod_of other = None

-- A pod is made, marked, changed or stripped. One that is made for an Indexed Job has an index.
pub record WritesPod (d : Deed) (log : List Entry) (e : Entry) (pod : Pod) : Type 0 where
  pub written : IsWritten d log e
  pub plain : IsPlain d
  pub is_pod : pod_of e ≡ Some pod
  pub numbered : life pod.uid log ≡ Never → HasIndexIn log pod

-- ---- syncs

-- With what the sync of a basis began.
abbrev pub began : Basis → Began
began basis = record { key = basis.key; jobs_at = basis.jobs_at.0; pods_at = basis.pods_at.0 }

-- A sync begins: its basis is what the log held, and its pod cache is not older than the Job that it sees.
pub record Begins (d : Deed) (log : List Entry) (flight : Flight) : Type 0 where
  pub quiet : AppendsNoEntry d log
  pub basis : IsBasisOf log flight.basis
  pub reached : IfSome flight.basis.job (λ job. job.version.0 ≤ flight.basis.pods_at.0)
  pub written : flight.written ≡ None
  pub sends : IfSome flight.basis.job (λ job. flight.sends ≡ job.version)
  pub released : flight.released ≡ []

-- A release finds no pod that has the finalizer: it was there and is lost. The sync has the pod released.
pub record FindsNothing (d : Deed) (log : List Entry) (u : Uid) : Type 0 where
  pub quiet : AppendsNoEntry d log
  pub lost : is_lost (life u log) ≡ true

-- The sync with one more pod whose release was answered.
abbrev pub with_released : Flight → Uid → Flight
with_released flight u = record flight { released = flight.released ++ u ∷ [] }

-- The status has the counts.
pub record Counts (counted : CountIn) (status : JobStatus) : Type 0 where
  pub uncounted_succeeded : status.uncounted_succeeded ≡ counted.uncounted_succeeded
  pub uncounted_failed : status.uncounted_failed ≡ counted.uncounted_failed
  pub succeeded : status.succeeded ≡ counted.succeeded
  pub failed : status.failed ≡ counted.failed
  pub completed : status.completed ≡ counted.completed
  pub index_failures : status.index_failures ≡ counted.index_failures
  pub failed_indexes : status.failed_indexes ≡ counted.failed_indexes

-- What a sync counts in, with the failures of each index.
abbrev pub filled_in : Job → List Pod → CountIn
filled_in job pods = filled_counts job (own_pods job pods) (counted_in job pods)

-- The status counts in what the sync saw.
abbrev pub CountsIn : Job → List Pod → JobStatus → Type 0
CountsIn job pods status = Counts (filled_in job pods) status

-- The status counts out the released pods.
pub record CountsOut (before : JobStatus) (released : List Uid) (status : JobStatus) : Type 0 where
  pub uncounted_succeeded : status.uncounted_succeeded
      ≡ (counted_out before released).uncounted_succeeded
  pub uncounted_failed : status.uncounted_failed ≡ (counted_out before released).uncounted_failed
  pub succeeded : status.succeeded ≡ (counted_out before released).succeeded
  pub failed : status.failed ≡ (counted_out before released).failed
  pub completed : status.completed ≡ before.completed
  pub index_failures : status.index_failures ≡ before.index_failures
  pub failed_indexes : status.failed_indexes ≡ before.failed_indexes

-- ---- statuses that syncs write

-- A sync writes the status of a Job: the sync, the Job as the sync saw it, as it is there and as it is put, and
-- the answer.
pub record StatusWrite : Type 0 where
  pub flight : Flight
  pub job : Job
  pub current : Job
  pub new : Job
  pub answer : Answer

-- A write of the status by the sync was accepted: the Job `current` is there with the UID that the sync saw
-- and at the version that it sends, and the entry puts it with another status, `new`.
pub record IsAccepted (d : Deed) (past : List Deed) (log : List Entry) (s : StatusWrite) : Type 0 where
  pub written : IsWritten d log (JobPut s.new)
  pub reply : d.reply ≡ Stepped request.Status s.answer
  pub sync : step_sync d past ≡ Some (began s.flight.basis)
  pub seen : s.flight.basis.job ≡ Some s.job
  pub there : job_in s.flight.basis.key log ≡ Some s.current
  pub uid : s.current.uid ≡ s.job.uid
  pub version : s.current.version ≡ s.flight.sends
  pub key : s.new.key ≡ s.current.key

-- The first status is written: it counts in what the sync saw.
pub record WritesFirst (d : Deed) (past : List Deed) (log : List Entry) (s : StatusWrite) : Type 0 where
  pub accepted : IsAccepted d past log s
  pub unwritten : s.flight.written ≡ None
  pub counts : CountsIn s.job s.flight.basis.pods s.new.status

-- The sync once its first status is written.
abbrev pub with_written : Flight → Job → Flight
with_written flight new = record flight { written = Some new.status; sends = new.version }

-- The second status is written. The status that the sync knows counts in what it saw, whether it was written
-- or not; the new one counts out all that were to be released, and each of them was.
pub record WritesSecond (d : Deed) (past : List Deed) (log : List Entry) (s : StatusWrite) : Type 0 where
  pub accepted : IsAccepted d past log s
  pub counted : CountsIn s.job s.flight.basis.pods (known s.flight s.job)
  pub counts : CountsOut (known s.flight s.job) (counted_in s.job s.flight.basis.pods).releases s.new.status
  pub released : (u : Uid)
      → is_in u (counted_in s.job s.flight.basis.pods).releases ≡ true → is_in u s.flight.released ≡ true

-- ---- finalizers that syncs take

-- A sync takes the finalizer of a pod: the sync, the entry that it appends, the pod as the sync saw it and as it
-- is put, and the answer.
pub record FinalizerWrite : Type 0 where
  pub flight : Flight
  pub entry : Entry
  pub seen : Pod
  pub pod : Pod
  pub answer : Answer

-- A step of the sync took the finalizer of the pod: `seen` is the pod as the sync saw it, `pod` as it is now.
pub record TakesFinalizer (d : Deed) (log : List Entry) (asked : Request) (f : FinalizerWrite) : Type 0 where
  pub written : IsWritten d log f.entry
  pub reply : d.reply ≡ Stepped asked f.answer
  pub is_seen : find (λ (p : Pod). same_uid p.uid f.seen.uid) f.flight.basis.pods ≡ Some f.seen
  pub is_pod : pod_of f.entry ≡ Some f.pod
  pub uid : f.pod.uid ≡ f.seen.uid
  pub untracked : f.pod.tracked ≡ false

-- A pod is released that is among those that the Job's sync has to release. The status that the sync knows
-- counts in what it saw, and where the pod fails the Job a target stands in it.
pub record Releases (d : Deed) (log : List Entry) (job : Job) (f : FinalizerWrite) : Type 0 where
  pub taken : TakesFinalizer d log (request.Release f.seen.uid) f
  pub saw : f.flight.basis.job ≡ Some job
  pub due : is_in f.seen.uid (counted_in job f.flight.basis.pods).releases ≡ true
  pub counted : CountsIn job f.flight.basis.pods (known f.flight job)
  pub target : fails_job job.spec f.seen ≡ true → has_target (known f.flight job).conditions ≡ true

-- An orphan is released: the pod is foreign, and the Job cache was not older than it.
pub record Orphans (d : Deed) (log : List Entry) (f : FinalizerWrite) : Type 0 where
  pub taken : TakesFinalizer d log (request.Release f.seen.uid) f
  pub foreign : is_foreign f.flight.basis.job f.seen ≡ true
  pub version : f.seen.version.0 ≤ f.flight.basis.jobs_at.0

-- A pod is let go: it was active, and is as the sync saw it.
pub record LetsGo (d : Deed) (log : List Entry) (old : Pod) (f : FinalizerWrite) : Type 0 where
  pub taken : TakesFinalizer d log (request.LetGo f.seen.uid) f
  pub active : is_active f.seen ≡ true
  pub there : life f.seen.uid log ≡ Live old
  pub version : old.version ≡ f.seen.version
