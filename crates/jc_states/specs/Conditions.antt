-- Words on the conditions of a Job (batch/v1, KEP-3998).
--     stands kind conditions     a true condition of the kind is among them
--     has_target conditions      FailureTarget or SuccessCriteriaMet stands
--     has_end conditions         Failed or Complete stands
use Rattle.std.specs.Prelude.{Bool, ◌&&◌, ◌||◌, List}
use Rattle.std.specs.List.{list_any}
use Rattle.jc_types.specs.declared.statuses.CondKind.{CondKind}
use Rattle.jc_types.specs.declared.statuses.CondKind.TheVariants.{FailureTarget, SuccessCriteriaMet, Failed, Complete}
use Rattle.jc_types.specs.declared.statuses.Condition.{Condition}
use Rattle.jc_types.specs.Equality.{same_kind}

-- A true condition of the kind is among them.
abbrev pub stands : CondKind → List Condition → Bool
stands kind conditions =
    list_any (λ condition. same_kind condition.kind kind && condition.status) conditions

-- How the Job will end is decided.
abbrev pub has_target : List Condition → Bool
has_target conditions = stands FailureTarget conditions || stands SuccessCriteriaMet conditions

-- The Job has ended.
abbrev pub has_end : List Condition → Bool
has_end conditions = stands Failed conditions || stands Complete conditions
