-- The registers of all workers, by controller and worker.
--     Registers                   a register is free, or has a sync
--     register_at c w rs          that of a worker, where there is one
--     put_at c w register rs      with this one
--     restarted c rs              the registers of the controller are free
--     flights_of_all rs           the syncs under way, in the order of the registers
--     register_of next            the register after a step
--     IsRegister c w past sync    what is known of the worker's sync
--     AreFree rs                  no worker has a sync
--     HasLater k n log            the log has put a Job of the key after its first n entries
--     WritesShow log flight left  the sync has written nothing, or the log has such a Job
--     HasSyncs deeds log rs       what ties, with where each sync stands
--     TellsOfNoSync d             the deed is no begin and no step of a sync
--     IsAnswered .., HasStepped .., HasBegun ..    so it is after a request, a step, a begin
use Rattle.std.specs.Prelude.{◌≡◌, ◌<◌, ℕ, zero, suc, List, [], ◌∷◌, ◌++◌, length, map, Option, Some, None, slice_get, option_and_then}
use Rattle.jc_types.specs.declared.replies.Reply.TheVariants as reply
use Rattle.std.specs.List.{AllByRecursion as Each}
use Rattle.jc_types.specs.declared.objects.Entry.{Entry}
use Rattle.jc_types.specs.declared.objects.Entry.TheVariants.{JobPut}
use Rattle.jc_types.specs.declared.objects.Job.{Job}
use Rattle.jc_types.specs.declared.objects.KeyNames.{KeyNames as Key}
use Rattle.jc_states.specs.declared.bases.Basis.{Basis}
use Rattle.jc_log.specs.Requests.{Answered, grown}
use Rattle.jc_log.specs.Acts as does
use Rattle.jc_log.specs.Deeds.{Deed}
use Rattle.jc_log.specs.Log.{entry_at}
use Rattle.jc_states.specs.UidLists.{AscendsFrom}
use Rattle.jc_log.specs.Writes.{Stored}
use Rattle.jc_plan.specs.Plans.{planned}
use Rattle.jc_ledger.specs.declared.flights.Flight.{Flight}
use Rattle.jc_ledger.specs.EventKinds.{began}
use Rattle.jc_ledger.specs.Syncs.{began_of, sync_of}
use Rattle.jc_ledger.specs.Tied.{Tied}
use Rattle.jc_asks.specs.declared.asks.Ask.{Ask}
use Rattle.jc_asks.specs.Asks.{asks_of}
use Rattle.jc_asks.specs.Sends.{new_sync, sends_of}
use Rattle.jc_sync.specs.SyncPlaces.{IsAt, IsUnder}
use Rattle.jc_asks.specs.Readings.{steps_of, told_step}
use Rattle.jc_sync.specs.Leftovers.{IsLeftBy, lets_of}
use Rattle.jc_asks.specs.Steps.{Ends, GoesOn, Next, Stepped, Sync}

-- By controller, and of each by worker.
abbrev pub Registers : Type 0
Registers = List (List (Option Sync))

-- The register of the worker, where there is one.
abbrev pub register_at : ℕ → ℕ → Registers → Option (Option Sync)
register_at c w rs = option_and_then (λ ws. slice_get ws w) (slice_get rs c)

-- ---- writes

-- The registers of one controller, with this one of the worker.
abbrev pub put_worker : ℕ → Option Sync → List (Option Sync) → List (Option Sync)
put_worker w register [] = []
put_worker zero register (old ∷ ws) = register ∷ ws
put_worker (suc w) register (old ∷ ws) = old ∷ put_worker w register ws

-- The registers, with this one of the worker.
abbrev pub put_at : ℕ → ℕ → Option Sync → Registers → Registers
put_at c w register [] = []
put_at zero w register (ws ∷ rs) = put_worker w register ws ∷ rs
put_at (suc c) w register (ws ∷ rs) = ws ∷ put_at c w register rs

-- All are free.
abbrev pub freed : List (Option Sync) → List (Option Sync)
freed ws = map (λ register. None) ws

-- The controller has started again.
abbrev pub restarted : ℕ → Registers → Registers
restarted c [] = []
restarted zero (ws ∷ rs) = freed ws ∷ rs
restarted (suc c) (ws ∷ rs) = ws ∷ restarted c rs

-- ---- syncs

-- The sync in a register, where one is.
abbrev pub flight_in : Option Sync → List Flight
flight_in None = []
flight_in (Some sync) = sync.flight ∷ []

-- Those in the registers of one controller.
abbrev pub flights_in : List (Option Sync) → List Flight
flights_in [] = []
flights_in (register ∷ ws) = flight_in register ++ flights_in ws

-- Those of all.
abbrev pub flights_of_all : Registers → List Flight
flights_of_all [] = []
flights_of_all (ws ∷ rs) = flights_in ws ++ flights_of_all rs

-- The register after a step.
abbrev pub register_of : Next → Option Sync
register_of (GoesOn sync) = Some sync
register_of (Ends end) = None

-- ---- the invariant

-- A sync stands at a place, is its worker's last begin, and has left to ask what its plan and the answers since
-- then tell.
pub record IsRegister (c w : ℕ) (past : List Deed) (sync : Sync) : Type 0 where
  pub at : IsAt sync.flight sync.left
  pub reads : IsLeftBy (planned sync.flight.basis) (steps_of c w past) sync.left
  pub once : AscendsFrom 0 (lets_of (asks_of (planned sync.flight.basis)))
  pub begun : sync_of c w past ≡ Some (began sync.flight.basis)
  pub sends : sync.flight.sends ≡ sends_of sync.flight.basis (steps_of c w past)

-- No worker has a sync.
abbrev pub AreFree : Registers → Type 0
AreFree rs = Each (λ ws. Each (λ (register : Option Sync). register ≡ None) ws) rs

-- The log has put a Job of the key after its first n entries.
pub record HasLater (k : Key) (n : ℕ) (log : List Entry) : Type 0 where
  pub version : ℕ
  pub later : n < version
  pub put : Job
  pub is_put : entry_at version log ≡ Some (JobPut put)
  pub key : put.key ≡ k

-- The sync has written no status; or one of its Job's key was put after what its cache showed of Jobs.
pub data WritesShow (log : List Entry) (flight : Flight) (left : List Ask) : Type 0 where
  NoneWritten : IsUnder flight left → flight.written ≡ None → WritesShow log flight left
  PutLater : HasLater flight.basis.key flight.basis.jobs_at.0 log → WritesShow log flight left

-- What ties, where each sync stands, and that what it wrote is in the log.
pub record HasSyncs (deeds : List Deed) (log : List Entry) (rs : Registers) : Type 0 where
  pub tied : Tied deeds log (flights_of_all rs)
  pub each : (c w : ℕ) (sync : Sync) → register_at c w rs ≡ Some (Some sync) → IsRegister c w deeds sync
  pub writes : (c w : ℕ) (sync : Sync) → register_at c w rs ≡ Some (Some sync)
      → WritesShow log sync.flight sync.left

-- The deed is no begin and no step of a sync.
pub record TellsOfNoSync (d : Deed) : Type 0 where
  pub began : began_of d.reply ≡ None
  pub step : told_step d.reply ≡ None

-- Where the deed is the store's answer to a request of a command or of the node, all is known afterwards.
abbrev pub IsAnswered : Deed → List Deed → List Entry → Registers → Answered → Type 0
IsAnswered d past log rs a =
    d.reply ≡ a.reply → d.length.0 ≡ length (grown log a.entry) → Stored (grown log a.entry)
    → HasSyncs (d ∷ past) (grown log a.entry) rs

-- So it is where the deed is this step of the worker's sync.
abbrev pub HasStepped : Deed → List Deed → List Entry → Registers → ℕ → ℕ → Stepped → Type 0
HasStepped d past log rs c w step =
    d.act ≡ does.Step c w → d.reply ≡ step.reply → d.length.0 ≡ length (grown log step.entry)
    → Stored (grown log step.entry)
    → HasSyncs (d ∷ past) (grown log step.entry) (put_at c w (register_of step.next) rs)

-- So it is where the deed is the worker's begin with this basis.
abbrev pub HasBegun : Deed → List Deed → List Entry → Registers → ℕ → ℕ → Basis → Type 0
HasBegun d past log rs c w basis =
    d.act ≡ does.Begin c w → d.reply ≡ reply.Begun basis.key basis.jobs_at basis.pods_at
    → d.length.0 ≡ length log → HasSyncs (d ∷ past) log (put_at c w (Some (new_sync basis)) rs)
