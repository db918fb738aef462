-- What a step keeps, and what a refusal tells.
--     StaysTied d past log front back flight step    what ties a history stays where the deed is this step
--     IsLaterThan sent answered                      a conflict tells of a later version than the one that was sent
use Rattle.std.specs.Prelude.{◌<◌, List, ◌∷◌, ◌++◌, Option, IfSome}
use Rattle.jc_types.specs.declared.numbers.Version.{Version}
use Rattle.jc_types.specs.declared.objects.Entry.{Entry}
use Rattle.jc_log.specs.Deeds.{Deed}
use Rattle.jc_log.specs.Requests.{Answered, grown}
use Rattle.jc_log.specs.Writes.{Stored}
use Rattle.jc_ledger.specs.declared.flights.Flight.{Flight}
use Rattle.jc_ledger.specs.Tied.{Tied}
use Rattle.jc_asks.specs.Asks.{conflict_of}
use Rattle.jc_asks.specs.Steps.{IsStepOf, Stepped, as_answer, flights_of}

-- What ties a history stays where the deed is this step of the sync, among others that are under way.
abbrev pub StaysTied : Deed → List Deed → List Entry → List Flight → List Flight → Flight → Stepped → Type 0
StaysTied d past log front back flight step =
    IsStepOf d past log flight step → Stored (grown log step.entry)
    → Tied (d ∷ past) (grown log step.entry) (front ++ (flights_of step.next ++ back))

-- A conflict tells of a later version than the one that was sent, where one was.
abbrev pub IsLaterThan : Option Version → Answered → Type 0
IsLaterThan sent answered =
    IfSome sent (λ old. IfSome (conflict_of (as_answer answered.reply)) (λ current. old.0 < current.0))
