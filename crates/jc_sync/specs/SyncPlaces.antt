-- Where a sync stands among its requests.
--     SeenActive basis u v      an active tracked pod of the basis has the UID, at the version
--     IsEarly basis ask         the request may come before the first status
--     KnowsFirst flight         the status that the sync knows is the first one as a value
--     AreReleased flight pods   each of the pods is among those whose release was answered
--     IsUnder flight left       this is left to ask, and so much has been done
--     IsAt flight left          the same, or the second status is written
--     IfGoesOn next P           it holds of the sync, where that goes on
use Rattle.std.specs.Prelude.{◌≡◌, true, List, [], ◌++◌, find, Some, None, IfSome}
use Rattle.std.specs.List.{AllByRecursion as Each}
use Rattle.jc_types.specs.declared.numbers.Uid.{Uid}
use Rattle.jc_types.specs.declared.numbers.Version.{Version}
use Rattle.jc_types.specs.declared.objects.Pod.{Pod}
use Rattle.jc_states.specs.declared.bases.Basis.{Basis}
use Rattle.jc_types.specs.Keys.{same_uid}
use Rattle.jc_states.specs.Pods.{is_active}
use Rattle.jc_states.specs.UidLists.{is_in}
use Rattle.jc_plan.specs.Creations.{IsIndexFor}
use Rattle.jc_plan.specs.Plans.{planned}
use Rattle.jc_plan.specs.Statuses.{first_value}
use Rattle.jc_ledger.specs.declared.flights.Flight.{Flight}
use Rattle.jc_ledger.specs.Flights.{known}
use Rattle.jc_asks.specs.declared.asks.Ask.{Ask}
use Rattle.jc_asks.specs.declared.asks.Ask.TheVariants.{MakePod, MarkPod, LetPodGo, WriteFirst, ReleasePod, WriteSecond}
use Rattle.jc_asks.specs.Asks.{last_asks, late_asks}
use Rattle.jc_asks.specs.Steps.{Sync, Next, GoesOn, Ends}

-- An active pod of the basis has the UID, and this version.
pub record SeenActive (basis : Basis) (u : Uid) (v : Version) : Type 0 where
  pub seen : Pod
  pub is_seen : find (λ (p : Pod). same_uid p.uid u) basis.pods ≡ Some seen
  pub uid : seen.uid ≡ u
  pub active : is_active seen ≡ true
  pub version : seen.version ≡ v

-- The request may come before the first status: a pod of an Indexed Job is made with an index, and a pod that is
-- let go is active, at its version.
abbrev pub IsEarly : Basis → Ask → Type 0
IsEarly basis (MakePod index) = IfSome basis.job (λ job. IsIndexFor job index)
IsEarly basis (MarkPod u) = Unit {0}
IsEarly basis (LetPodGo u v) = SeenActive basis u v
IsEarly basis WriteFirst = ⊥
IsEarly basis (ReleasePod u) = ⊥
IsEarly basis WriteSecond = ⊥

-- The status that the sync knows is the first one as a value.
abbrev pub KnowsFirst : Flight → Type 0
KnowsFirst flight = IfSome flight.basis.job (λ job. known flight job ≡ first_value job flight.basis)

-- Each of the pods is among those whose release was answered.
abbrev pub AreReleased : Flight → List Uid → Type 0
AreReleased flight pods = (u : Uid) → is_in u pods ≡ true → is_in u flight.released ≡ true

-- What is left to ask before the second status is written, and what has been done by then. Before the first
-- status nothing is written. After it the status that the sync knows is the first one as a value, whether it was
-- written or not needed, and each release that is no longer to be made was answered.
pub data IsUnder (flight : Flight) (left : List Ask) : Type 0 where
  Before : (front : List Ask) → left ≡ front ++ late_asks (planned flight.basis)
      → Each (IsEarly flight.basis) front → flight.written ≡ None → IsUnder flight left
  After : (made rest : List Uid) → (planned flight.basis).releases ≡ made ++ rest
      → left ≡ last_asks rest (planned flight.basis).second
      → KnowsFirst flight → AreReleased flight made → IsUnder flight left

-- So it stands, or its second status is written and nothing is left to ask: each release was answered.
pub data IsAt (flight : Flight) (left : List Ask) : Type 0 where
  Under : IsUnder flight left → IsAt flight left
  Over : left ≡ [] → AreReleased flight (planned flight.basis).releases → IsAt flight left

-- It holds of the sync, where that goes on.
abbrev pub IfGoesOn : Next → (Sync → Type 0) → Type 0
IfGoesOn (GoesOn sync) P = P sync
IfGoesOn (Ends end) P = Unit {0}
