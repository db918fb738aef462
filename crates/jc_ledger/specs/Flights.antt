-- What is known of a sync under way, from the log alone.
--     known flight job         the status that the sync last knows
--     IsBasisOf log basis      the basis is what the log held at its two numbers
--     IsSent log flight job    the entry at the version that the sync sends holds the status that it knows
--     Flies log flight         all that is known
use Rattle.std.specs.Prelude.{◌≡◌, ◌≤◌, true, List, length, Some, None, IfSome}
use Rattle.std.specs.Option.{unwrap_or}
use Rattle.jc_types.specs.declared.numbers.Uid.{Uid}
use Rattle.jc_types.specs.declared.objects.Entry.{Entry}
use Rattle.jc_types.specs.declared.objects.Entry.TheVariants.{JobPut}
use Rattle.jc_types.specs.declared.objects.Job.{Job}
use Rattle.jc_types.specs.declared.statuses.JobStatus.{JobStatus}
use Rattle.jc_states.specs.declared.bases.Basis.{Basis}
use Rattle.jc_log.specs.Log.{upto, entry_at, job_in, life, is_lost, pods_under}
use Rattle.jc_states.specs.UidLists.{is_in}
use Rattle.jc_ledger.specs.declared.flights.Flight.{Flight}

-- The status that the sync last knows: its first one where that was written, else the one that it began
-- with.
abbrev pub known : Flight → Job → JobStatus
known flight job = unwrap_or flight.written job.status

-- The basis is what the log held at its two numbers: the Job of its key, and the pods of that key.
pub record IsBasisOf (log : List Entry) (basis : Basis) : Type 0 where
  pub jobs_at : basis.jobs_at.0 ≤ length log
  pub pods_at : basis.pods_at.0 ≤ length log
  pub job : basis.job ≡ job_in basis.key (upto basis.jobs_at.0 log)
  pub pods : basis.pods ≡ pods_under basis.key (upto basis.pods_at.0 log)

-- The Job was put by the entry at the version that the sync sends, with the status that the sync knows. A
-- sync that has written no status sends the version of the Job that it saw.
pub record IsSent (log : List Entry) (flight : Flight) (job : Job) : Type 0 where
  pub put : Job
  pub is_put : entry_at flight.sends.0 log ≡ Some (JobPut put)
  pub uid : put.uid ≡ job.uid
  pub key : put.key ≡ job.key
  pub status : put.status ≡ known flight job
  pub unwritten : flight.written ≡ None → flight.sends ≡ job.version

-- What is known of a sync under way. The pod cache of its basis was not older than the Job that it saw, and
-- each pod whose release was answered has lost its finalizer.
pub record Flies (log : List Entry) (flight : Flight) : Type 0 where
  pub basis : IsBasisOf log flight.basis
  pub reached : IfSome flight.basis.job (λ job. job.version.0 ≤ flight.basis.pods_at.0)
  pub sent : IfSome flight.basis.job (λ job. IsSent log flight job)
  pub released : (u : Uid) → is_in u flight.released ≡ true → is_lost (life u log) ≡ true
