-- Whether a sync of a key may begin, and with what.
--     cache_lag notes log k j p     the first cache that is behind what a sync of the key must know, Jobs before Pods
--     basis notes log now k j p     what a sync of the key starts from where the caches stand at these versions
--     begin notes log now           how a begin is answered
--     may_begin notes log           the next begin starts a sync
use Rattle.std.specs.Prelude.{ℕ, Bool, List, [], ◌∷◌, Option, Some, None}
use Rattle.jc_control.specs.declared.begins.Begin.{Begin}
use Rattle.jc_control.specs.declared.begins.Begin.TheVariants.{NotSynced, NoKey, Behind, Begun}
use Rattle.jc_control.specs.declared.begins.Lag.{Lag}
use Rattle.jc_control.specs.ControllerCalls.{behind, first_lag, pods_need, is_begun}
use Rattle.jc_types.specs.declared.numbers.Version.{Version}
use Rattle.jc_types.specs.declared.objects.Entry.{Entry}
use Rattle.jc_types.specs.declared.objects.KeyNames.{KeyNames as Key}
use Rattle.jc_types.specs.declared.objects.Kind.TheVariants.{Jobs, Pods}
use Rattle.jc_states.specs.declared.bases.Basis.{Basis}
use Rattle.jc_log.specs.Log.{job_in, pods_under, upto}
use Rattle.jc_history.specs.Lines.{line}
use Rattle.jc_history.specs.Notes.{Note}
use Rattle.jc_history.specs.Numbers.{number}
use Rattle.jc_history.specs.Registers.{backoff, floor}

-- How far each cache must have seen the log: up to the key's floor, and the pod cache up to the version of the
-- cached Job.
abbrev pub cache_lag : List Note → List Entry → Key → Version → Version → Option Lag
cache_lag notes log k j p =
    first_lag (behind Jobs (floor k notes) j) (behind Pods (pods_need (floor k notes) (job_in k (upto j.0 log))) p)

-- What a sync of the key starts from where the caches stand at these versions.
abbrev pub basis : List Note → List Entry → ℕ → Key → Version → Version → Basis
basis notes log now k j p = record {
  key = k;
  job = job_in k (upto j.0 log);
  pods = pods_under k (upto p.0 log);
  jobs_at = j;
  pods_at = p;
  now = now;
  backoff = backoff k notes;
}

-- A cache that is behind is told, else the sync begins.
abbrev pub begin_unless : Basis → Option Lag → Begin
begin_unless basis (Some lag) = Behind lag.kind lag.need lag.have
begin_unless basis None = Begun basis

-- How a begin is answered with this line: its first key is synced, where no cache is behind for it.
abbrev pub begin_first : List Note → List Entry → ℕ → Version → Version → List Key → Begin
begin_first notes log now j p [] = NoKey
begin_first notes log now j p (k ∷ rest) = begin_unless (basis notes log now k j p) (cache_lag notes log k j p)

-- The same where the caches have these numbers.
abbrev pub begin_at : List Note → List Entry → ℕ → Option Version → Option Version → Begin
begin_at notes log now None pods = NotSynced
begin_at notes log now (Some j) None = NotSynced
begin_at notes log now (Some j) (Some p) = begin_first notes log now j p (line notes)

-- How a begin of a free worker is answered.
abbrev pub begin : List Note → List Entry → ℕ → Begin
begin notes log now = begin_at notes log now (number Jobs notes) (number Pods notes)

-- The next begin starts a sync.
abbrev pub may_begin : List Note → List Entry → Bool
may_begin notes log = is_begun (begin notes log 0)
