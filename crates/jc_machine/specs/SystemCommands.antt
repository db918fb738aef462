-- Commands that do what the system does too.
--     as_system action      the event of the system that does the same
use Rattle.std.specs.Prelude.{Option, Some, None}
use Rattle.jc_types.specs.declared.actions.Action1.{Action1}
use Rattle.jc_types.specs.declared.actions.Action1.TheVariants as act
use Rattle.jc_types.specs.declared.runs.Sys.{Sys}
use Rattle.jc_types.specs.declared.runs.Sys.TheVariants as sys

-- The event of the system that does the same.
abbrev pub as_system : Action1 → Option Sys
as_system (act.Clock add) = Some (sys.Clock add)
as_system (act.List controller kind) = Some (sys.List controller kind)
as_system (act.Deliver controller kind) = Some (sys.Deliver controller kind)
as_system (act.Begin controller worker) = Some (sys.Begin controller worker)
as_system (act.Sync controller worker) = Some (sys.Begin controller worker)
as_system (act.Step controller worker) = Some (sys.Step controller worker)
as_system act.Node = Some sys.Node
as_system other = None
