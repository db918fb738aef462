-- The syncs of a controller, and what their requests were answered.
--     register w notes         the basis of the worker's sync, while it goes on
--     made w notes             what the worker's sync asked and was answered so far, the newest first
--     pending w notes          the fault that the worker's next request meets
--     floor k notes            the greatest version that an answer to a sync of the key had
--     backoff k notes          the backoff that the last sync of the key kept
use Rattle.std.specs.Prelude.{◌≡◌, ℕ, ◌==◌, Bool, true, false, ◌&&◌, List, [], ◌∷◌, if◌then◌else◌, Option, Some, None}
use Rattle.std.specs.Option.{unwrap_or}
use Rattle.jc_asks.specs.Steps.{floor_given}
use Rattle.jc_control.specs.ControllerCalls.{forgets_caches, later}
use Rattle.jc_plan.specs.Plans.{planned}
use Rattle.jc_types.specs.declared.actions.Fault.{Fault}
use Rattle.jc_types.specs.declared.numbers.Version.{Version}
use Rattle.jc_types.specs.declared.replies.Answer.{Answer}
use Rattle.jc_types.specs.declared.replies.Answer.TheVariants as answer
use Rattle.jc_types.specs.declared.replies.Request.{Request}
use Rattle.jc_types.specs.declared.replies.Request.TheVariants as request
use Rattle.jc_types.specs.declared.syncs.Backoff.{Backoff}
use Rattle.jc_states.specs.declared.bases.Basis.{Basis}
use Rattle.jc_types.specs.declared.objects.KeyNames.{KeyNames as Key}
use Rattle.jc_types.specs.Keys.{same_key}
use Rattle.jc_history.specs.SoFar.{is_write_first}
use Rattle.jc_asks.specs.Readings.{next_ask, with_step}
use Rattle.jc_history.specs.Lines.{is_processing}
use Rattle.jc_history.specs.Notes.{Note, Began, Asked, Ended, Faulted, newest}

-- ---- registers

-- What the note says of the worker's register: the basis of its sync, or that it is free.
abbrev pub register_told : ℕ → Note → Option (Option Basis)
register_told w (Began worker basis) = if worker == w then Some (Some basis) else None
register_told w (Ended worker basis end now) = if worker == w then Some None else None
register_told w note = None

-- The basis of the worker's sync, while it goes on.
abbrev pub register : ℕ → List Note → Option Basis
register w notes = unwrap_or (newest (register_told w) notes) None

-- A sync of the worker began.
abbrev pub begins_for : ℕ → Note → Bool
begins_for w (Began worker basis) = worker == w
begins_for w note = false

-- What the worker asked and was answered.
abbrev pub asked_by : ℕ → Note → Option (Request × Answer)
asked_by w (Asked worker basis request answer) = if worker == w then Some (request, answer) else None
asked_by w note = None

-- What the worker's sync asked and was answered so far, the newest first.
abbrev pub made : ℕ → List Note → List (Request × Answer)
made w [] = []
made w (note ∷ older) = if begins_for w note then [] else with_step (asked_by w note) (made w older)

-- ---- faults

-- What the note says of the fault of the worker: which one is pending, or none.
abbrev pub fault_told : ℕ → Note → Option (Option Fault)
fault_told w (Faulted worker fault) = if worker == w then Some (Some fault) else None
fault_told w (Ended worker basis end now) = if (worker == w) && forgets_caches end then Some None else None
fault_told w note = None

-- The fault that the worker's next request meets.
abbrev pub pending : ℕ → List Note → Option Fault
pending w notes = unwrap_or (newest (fault_told w) notes) None

-- ---- floors

-- The version of the answer to a request for the key, where it tells how far the log had come.
abbrev pub version_told : Key → Note → Option Version
version_told k (Asked worker basis request answer) = if same_key basis.key k then floor_given answer else None
version_told k note = None

-- The later of a floor and a version that is there.
abbrev pub later_if : Version → Option Version → Version
later_if floor None = floor
later_if floor (Some version) = later floor version

-- The greatest version that an answer to a sync of the key had, or 0.
abbrev pub floor : Key → List Note → Version
floor k [] = record { 0 = 0 }
floor k (note ∷ older) = later_if (floor k older) (version_told k note)

-- ---- backoffs

-- The request is a write of the status.
abbrev pub asks_status : Request → Bool
asks_status request.Status = true
asks_status other = false

-- The answer says that something was written.
abbrev pub tells_written : Answer → Bool
tells_written (answer.Written version) = true
tells_written other = false

-- The next request of the worker's sync writes its first status.
abbrev pub is_first : ℕ → Basis → List Note → Bool
is_first w basis notes = is_write_first (next_ask (planned basis) (made w notes))

-- The first status of a sync of the key was written.
abbrev pub keeps_backoff : Key → Note → List Note → Bool
keeps_backoff k (Asked worker basis request answer) older =
    same_key basis.key k && (asks_status request && tells_written answer && is_first worker basis older)
keeps_backoff k note older = false

-- The backoff that the sync of the note comes to.
abbrev pub planned_backoff : Note → Backoff → Backoff
planned_backoff (Asked worker basis request answer) before = (planned basis).backoff
planned_backoff note before = before

-- The backoff of the key: that of the last sync of it that wrote its first status.
abbrev pub backoff : Key → List Note → Backoff
backoff k [] = record { failures = 0; last = None }
backoff k (note ∷ older) =
    if keeps_backoff k note older then planned_backoff note (backoff k older) else backoff k older

-- ---- notes that fit

-- A sync begins for a free worker and a key that no sync has; a sync that goes on is its worker's.
abbrev pub Fits : Note → List Note → Type 0
Fits (Began worker basis) older = (register worker older ≡ None) × (is_processing basis.key older ≡ false)
Fits (Asked worker basis request answer) older = register worker older ≡ Some basis
Fits (Ended worker basis end now) older = register worker older ≡ Some basis
Fits note older = Unit {0}

-- Each note fits those before it.
abbrev pub AllFit : List Note → Type 0
AllFit [] = Unit {0}
AllFit (note ∷ older) = Fits note older × AllFit older

-- A worker's sync has its key processing, and no other worker's sync has that key.
pub record HaveOwnKeys (notes : List Note) : Type 0 where
  pub busy : (w : ℕ) (basis : Basis) → register w notes ≡ Some basis → is_processing basis.key notes ≡ true
  pub apart : (w v : ℕ) (one other : Basis) → register w notes ≡ Some one → register v notes ≡ Some other
      → same_key one.key other.key ≡ true → w ≡ v
