-- What the lines of events tell.
--     IsSystem, IsEvent           the numbers of an event are such as the code's types allow
--     Glimpse, glimpse event      what a line shows of an event: its lane, or the event of the system
--     AreEvents events            the numbers of each event are
--     Follow gives before events  each event is what came before it and its glimpse give
--     HaveSameLines script a b    both are printed in the same lines
use Rattle.std.specs.Prelude.{◌≡◌, ℕ, ◌^◌, ◌<◌, List, [], ◌∷◌, map}
use Rattle.jc_types.specs.declared.actions.Script.{Script}
use Rattle.jc_types.specs.declared.runs.Event.{Event}
use Rattle.jc_types.specs.declared.runs.Event.TheVariants as event
use Rattle.jc_types.specs.declared.runs.Past.{Past}
use Rattle.jc_types.specs.declared.runs.Sys.{Sys}
use Rattle.jc_types.specs.declared.runs.Sys.TheVariants as sys
use Rattle.jc_log.specs.Deeds.{deed}
use Rattle.jc_lines.specs.Events.{event_lines}

-- A controller and a worker are numbers of 32 bits, seconds of 64.
abbrev pub IsSystem : Sys → Type 0
IsSystem (sys.List controller kind) = controller < 2 ^ 32
IsSystem (sys.Deliver controller kind) = controller < 2 ^ 32
IsSystem (sys.Begin controller worker) = (controller < 2 ^ 32) × (worker < 2 ^ 32)
IsSystem (sys.Step controller worker) = (controller < 2 ^ 32) × (worker < 2 ^ 32)
IsSystem sys.Node = Unit {0}
IsSystem (sys.Clock add) = add < 2 ^ 64

-- A lane is a number of 8 bits.
abbrev pub IsEvent : Event → Type 0
IsEvent (event.Command lane number) = lane < 2 ^ 8
IsEvent (event.System system) = IsSystem system

abbrev pub AreEvents : List Past → Type 0
AreEvents [] = Unit {0}
AreEvents (past ∷ events) = IsEvent past.event × AreEvents events

-- What a line shows of an event without a look at the script.
pub data Glimpse : Type 0 where
  OfLane : ℕ → Glimpse
  OfSystem : Sys → Glimpse

abbrev pub glimpse : Event → Glimpse
glimpse (event.Command lane number) = OfLane lane
glimpse (event.System system) = OfSystem system

-- What came before, the newest first, and its glimpse give all of each event.
abbrev pub Follow : (List Past → Glimpse → Past) → List Past → List Past → Type 0
Follow gives before [] = Unit {0}
Follow gives before (past ∷ later) = (past ≡ gives before (glimpse past.event)) × Follow gives (past ∷ before) later

-- Both lists of events of the script are printed in the same lines.
abbrev pub HaveSameLines : Script → List Past → List Past → Type 0
HaveSameLines script events others = event_lines 1 (map (deed script) events) ≡ event_lines 1 (map (deed script) others)
