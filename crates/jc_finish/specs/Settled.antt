-- The conditions of a Job after a sync (batch/v1, KEP-3998). `target` is that which the sync decided,
-- and `due` says that the end of the Job is due.
--     settled_suspended ..    the Suspended condition is that of the specification
--     with_target ..          the decided target stands last
--     with_end ..             the end that follows the target stands last
--     settled ..              all three, one after another
use Rattle.std.specs.Prelude.{ℕ, Bool, true, false, not, ◌&&◌, ◌||◌, List, [], ◌∷◌, ◌++◌, map, find, if◌then◌else◌, Option, Some, None, is_some, option_map}
use Rattle.std.specs.List.{list_any}
use Rattle.std.specs.Option.{option_map_or}
use Rattle.jc_types.specs.declared.statuses.CondKind.{CondKind}
use Rattle.jc_types.specs.declared.statuses.CondKind.TheVariants.{Suspended, FailureTarget, SuccessCriteriaMet, Failed, Complete}
use Rattle.jc_types.specs.declared.statuses.Condition.{Condition}
use Rattle.jc_types.specs.declared.statuses.Reason.{Reason}
use Rattle.jc_types.specs.declared.statuses.Reason.TheVariants.{JobSuspended, JobResumed}
use Rattle.jc_states.specs.declared.bases.Basis.{Basis}
use Rattle.jc_states.specs.Conditions.{stands, has_target, has_end}
use Rattle.jc_types.specs.Equality.{same_bool, same_kind}

-- A condition of the kind, true since then.
abbrev pub true_since : ℕ → CondKind → Reason → Condition
true_since since kind reason = record { kind = kind; status = true; reason = reason; since = since }

-- ---- the Suspended condition

-- The condition of a Job that is suspended, or resumed, since then.
abbrev pub suspension : ℕ → Bool → Condition
suspension since suspend =
    record { kind = Suspended; status = suspend; reason = if suspend then JobSuspended else JobResumed; since = since }

-- The kind Suspended.
abbrev pub is_suspension : Condition → Bool
is_suspension condition = same_kind condition.kind Suspended

-- The Suspended condition in the place of an older one.
abbrev pub in_place : Condition → Condition → Condition
in_place new condition = if is_suspension condition then new else condition

-- The Suspended condition in the place of an older one, or at the end where there is none.
abbrev pub with_suspension : Condition → List Condition → List Condition
with_suspension new conditions =
    if list_any is_suspension conditions then map (in_place new) conditions else conditions ++ new ∷ []

-- While how the Job will end is open, the Suspended condition is true just where the Job is suspended. It
-- changes, with its moment, only where it has to, and a Job that never was suspended gets none.
abbrev pub settled_suspended : ℕ → Bool → Bool → List Condition → List Condition
settled_suspended now suspend is_decided conditions =
    if is_decided || has_target conditions || same_bool suspend (stands Suspended conditions) then conditions
    else with_suspension (suspension now suspend) conditions

-- ---- the target

-- With a condition at the end, where there is one.
abbrev pub with_last : Option Condition → List Condition → List Condition
with_last None conditions = conditions
with_last (Some last) conditions = conditions ++ last ∷ []

-- With the target at the end, where one is decided.
abbrev pub with_target : ℕ → Option (CondKind × Reason) → List Condition → List Condition
with_target now target conditions = with_last (option_map (λ pair. true_since now pair.0 pair.1) target) conditions

-- ---- the end

-- The kinds that settle how a Job will end.
abbrev pub is_target_kind : CondKind → Bool
is_target_kind Suspended = false
is_target_kind FailureTarget = true
is_target_kind SuccessCriteriaMet = true
is_target_kind Failed = false
is_target_kind Complete = false

-- The condition is a target that stands.
abbrev pub is_target : Condition → Bool
is_target condition = is_target_kind condition.kind && condition.status

-- The end that follows a target: Failed after FailureTarget, and Complete after SuccessCriteriaMet.
abbrev pub end_kind : CondKind → CondKind
end_kind kind = if same_kind kind FailureTarget then Failed else Complete

-- The end that follows the first target that stands, for the same reason.
abbrev pub end_of : ℕ → List Condition → Option Condition
end_of now conditions =
    option_map (λ target. true_since now (end_kind target.kind) target.reason) (find is_target conditions)

-- With that end at the end of the list, where it is due and none stands.
abbrev pub with_end : ℕ → Bool → List Condition → List Condition
with_end now due conditions =
    if due && not (has_end conditions) then with_last (end_of now conditions) conditions else conditions

-- ---- all three

-- The conditions after a sync: the Suspended condition, then the decided target, then the end.
abbrev pub settled : ℕ → Bool → Option (CondKind × Reason) → Bool → List Condition → List Condition
settled now suspend target due conditions =
    with_end now due (with_target now target (settled_suspended now suspend (is_some target) conditions))

-- Those of the basis's Job, and none where there is none.
abbrev pub settled_of : Basis → Option (CondKind × Reason) → Bool → List Condition
settled_of basis target due =
    option_map_or (λ job. settled basis.now job.spec.suspend target due job.status.conditions) basis.job []
