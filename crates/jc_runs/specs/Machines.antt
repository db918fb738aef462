-- What a cluster has is what its history says.
--     AreWorkers notes rs fs         the workers have the syncs and the faults that the notes tell
--     IsTeam shape deeds log c team  a controller with its workers has what the history says of it
--     IsMachine shape deeds log ..   all have, with the log, the fates of pods and the moment
--     MachineWorld                   a history so far, and what a machine has after it
--     IsOfMachine m                  it is what the history says
--     WorksOn m c team w sync        the worker of the controller has this sync under way
--     AllAskValid deeds              each Job that a deed creates has a valid specification
use Rattle.std.specs.Prelude.{◌≡◌, ℕ, ◌≤◌, List, length, slice_get, Option, Some}
use Rattle.std.specs.List.{AllByRecursion as Each}
use Rattle.std.specs.Option.{option_map}
use Rattle.jc_control.specs.Schedules.{MirrorsLog}
use Rattle.jc_history.specs.Agrees.{IsScheduleOf}
use Rattle.jc_history.specs.Diaries.{moment, notes}
use Rattle.jc_history.specs.Legal.{IsLegal}
use Rattle.jc_history.specs.Notes.{Note}
use Rattle.jc_history.specs.Registers.{pending, register}
use Rattle.jc_history.specs.Replies.{log_given}
use Rattle.jc_sync.specs.Plannable.{IsPlannable}
use Rattle.jc_sync.specs.AllRegisters.{HasSyncs}
use Rattle.jc_asks.specs.Steps.{Sync}
use Rattle.jc_types.specs.declared.actions.Fault.{Fault}
use Rattle.jc_types.specs.declared.objects.Entry.{Entry}
use Rattle.jc_types.specs.declared.runs.Shape.{Shape}
use Rattle.jc_types.specs.ValidSpecs.{IsValidSpec}
use Rattle.jc_log.specs.Acts as does
use Rattle.jc_log.specs.Acts.{Act}
use Rattle.jc_log.specs.Deeds.{Deed}
use Rattle.jc_runs.specs.Fates.{AreFated, Fates}
use Rattle.jc_runs.specs.Teams.{Team, registers_of}

-- The workers have the syncs and the faults that the notes tell.
pub record AreWorkers (notes : List Note) (rs : List (Option Sync)) (fs : List (Option Fault))
    : Type 0 where
  pub syncs : (w : ℕ) (sync : Option Sync) → slice_get rs w ≡ Some sync
      → register w notes ≡ option_map (λ s. s.flight.basis) sync
  pub faults : (w : ℕ) (fault : Option Fault) → slice_get fs w ≡ Some fault
      → pending w notes ≡ fault

-- What a controller with its workers has is what its notes say.
pub record IsTeam (shape : Shape) (deeds : List Deed) (log : List Entry) (c : ℕ) (team : Team)
    : Type 0 where
  pub schedule : IsScheduleOf (notes shape c deeds log) team.con.schedule
  pub holds : MirrorsLog log team.con
  pub workers : AreWorkers (notes shape c deeds log) team.registers team.faults
  pub count : length team.registers ≡ shape.workers
  pub faults : length team.faults ≡ shape.workers

-- What a machine has after so many deeds: a legal history says it all, what ties it is kept, and
-- each sync can be planned.
pub record IsMachine (shape : Shape) (deeds : List Deed) (log : List Entry) (teams : List Team)
    (fates : Fates) (now : ℕ) : Type 0 where
  pub legal : IsLegal shape deeds
  pub log_is : log ≡ log_given shape deeds
  pub now_is : now ≡ moment shape deeds
  pub fated : AreFated deeds fates
  pub count : length teams ≡ shape.controllers
  pub each : (c : ℕ) (team : Team) → slice_get teams c ≡ Some team → IsTeam shape deeds log c team
  pub syncs : HasSyncs deeds log (registers_of teams)
  pub plannable : IsPlannable log
  pub short : length log ≤ length deeds

-- A history so far, of this shape: its deeds, its log, both newest first, and what a machine then has.
pub record MachineWorld : Type 0 where
  pub shape : Shape
  pub deeds : List Deed
  pub log : List Entry
  pub teams : List Team
  pub fates : Fates
  pub now : ℕ

-- All of it is what the history says.
abbrev pub IsOfMachine : MachineWorld → Type 0
IsOfMachine m = IsMachine m.shape m.deeds m.log m.teams m.fates m.now

-- The controller of the number has this team, and the team's worker has this sync under way.
pub record WorksOn (m : MachineWorld) (c : ℕ) (team : Team) (w : ℕ) (sync : Sync) : Type 0 where
  pub team_is : slice_get m.teams c ≡ Some team
  pub sync_is : slice_get team.registers w ≡ Some (Some sync)

-- A Job that the act creates has a valid specification.
abbrev pub AsksValid : Act → Type 0
AsksValid (does.Create key spec) = IsValidSpec spec
AsksValid other = Unit {0}

-- So has each that a deed creates.
abbrev pub AllAskValid : List Deed → Type 0
AllAskValid deeds = Each (λ (d : Deed). AsksValid d.act) deeds
