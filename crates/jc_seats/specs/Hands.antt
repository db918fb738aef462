-- How a seat hands in what it was to plan.
--     WasTaken script shape events work   the work was taken when these events had happened
--     offered made                    of what the plan that was made is, where one was
--     IsAwaited seat c w offered old  the seat holds the register, whose sync began with what is offered
--     IsHandedIn seat c w offered old new     the seat holds the register no longer; its plan is kept, or is not
use Rattle.std.specs.Prelude.{◌≡◌, ◌↔◌, ℕ, Bool, true, List, Option, None, Some, Result, Ok, Err, IsTrue}
use Rattle.std.specs.List.{list_any}
use Rattle.jc_runs.specs.Basis.{Basis}
use Rattle.jc_plan.specs.Plans.{PlanOf}
use Rattle.jc_types.specs.declared.actions.Script.{Script}
use Rattle.jc_types.specs.declared.runs.Past.{Past}
use Rattle.jc_types.specs.declared.runs.Shape.{Shape}
use Rattle.jc_history.specs.Registers.{register}
use Rattle.jc_core.specs.DiariesSeen.{diary_seen}
use Rattle.jc_core.specs.Shared.{Shared, holds_slot, submitted_by}
use Rattle.jc_core.specs.declared.holding.Work.{Work}
use Rattle.jc_seats.specs.Names.{named_seen}

-- When these events had happened, in order, the register's sync had begun with the basis of the work.
abbrev pub WasTaken : Script → Shape → List Past → Work → Type 0
WasTaken script shape events work =
    register work.worker (diary_seen (named_seen script shape events) work.controller)
    ≡ Some work.basis

-- Of what the plan is, where one was made.
abbrev pub offered : {E : Type 0} → Result PlanOf E → Option Basis
offered (Ok plan) = Some plan.basis
offered (Err e) = None

-- The seat holds the register, whose sync began with what is offered.
abbrev pub IsAwaited : ℕ → ℕ → ℕ → Option Basis → Shared → Type 0
IsAwaited seat c w None old = ⊥
IsAwaited seat c w (Some basis) old =
    (list_any (holds_slot seat c w) old.slots ≡ true)
    × (register w (diary_seen old.seen c) ≡ Some basis)

-- The seat holds the register no longer; its plan is kept exactly where it is awaited. Nothing happened to the
-- cluster.
pub record IsHandedIn (seat c w : ℕ) (offer : Option Basis) (old new : Shared) : Type 0 where
  pub is_kept : Bool
  pub exactly : IsTrue is_kept ↔ IsAwaited seat c w offer old
  pub slots : new.slots ≡ submitted_by seat c w is_kept old.slots
  pub seen : new.seen ≡ old.seen
