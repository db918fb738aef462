-- The sync of a worker, as it stands before its plan is made and after.
--     staged basis stage       the sync that a contract sees
--     is_going stage           its requests are made
--     IsOfBasis basis stage    the plan that was made is of the basis
--     IsStarted basis stage    what the type keeps
use Rattle.std.specs.Prelude.{◌≡◌, Bool, true, false, IsSome}
use Rattle.jc_states.specs.declared.bases.Basis.{Basis}
use Rattle.jc_states.specs.Bases.{CanPlan}
use Rattle.jc_sync.specs.Sends.{new_sync}
use Rattle.jc_sync.specs.Steps.{Sync}
use Rattle.jc_team.specs.declared.started.Stage.{Stage}
use Rattle.jc_team.specs.declared.started.Stage.TheVariants as stage

-- One that has made no request yet is seen as it begins.
abbrev pub staged : Basis → Stage → Sync
staged basis stage.Unplanned = new_sync basis
staged basis (stage.Planned plan) = new_sync basis
staged basis (stage.Going sync) = sync

-- Its requests are made.
abbrev pub is_going : Stage → Bool
is_going (stage.Going sync) = true
is_going other = false

-- The plan that was made is of the basis.
abbrev pub IsOfBasis : Basis → Stage → Type 0
IsOfBasis basis stage.Unplanned = Unit {0}
IsOfBasis basis (stage.Planned plan) = plan.basis ≡ basis
IsOfBasis basis (stage.Going sync) = sync.flight.basis ≡ basis

-- A plan can be made of the basis, and one that was made is of the basis.
pub record IsStarted (basis : Basis) (stage : Stage) : Type 0 where
  pub plannable : IsSome basis.job → CanPlan basis
  pub own : IsOfBasis basis stage
