-- Which rule of a pod failure policy decides about a failed pod (KEP-3329).
--     exit_is_failure exit               a container that ended with a code other than 0
--     looks_at only container       a rule on exit codes looks at the container
--     meets operator values code    the code is one of the values, or none of them
--     finds pattern condition       the condition is what the pattern looks for
--     has_code .., has_condition ..  a container, or a condition, is what the rule asks for
--     shows_one_of patterns conditions    a condition is what one of the patterns looks for
--     matches rule pod              the pod shows what the rule asks for
--     matching_place policy pod     the least place of a rule that matches
--     action_of policy pod          the action of that rule, and Count where there is none
use Rattle.std.specs.Prelude.{ℕ, ℤ, pos, Bool, true, false, not, ◌&&◌, List, Option, Some, None, position, slice_get}
use Rattle.std.specs.List.{list_any}
use Rattle.std.specs.Option.{option_map_or}
use Rattle.std.specs.Ordering.{int_eq}
use Rattle.jc_types.specs.declared.objects.Container.{Container}
use Rattle.jc_types.specs.declared.objects.Pod.{Pod}
use Rattle.jc_types.specs.declared.policies.Action.{Action}
use Rattle.jc_types.specs.declared.policies.Action.TheVariants.{Count}
use Rattle.jc_types.specs.declared.policies.FailurePolicy.{FailurePolicy}
use Rattle.jc_types.specs.declared.policies.FailureRule.{FailureRule}
use Rattle.jc_types.specs.declared.policies.Operator.{Operator}
use Rattle.jc_types.specs.declared.policies.Operator.TheVariants.{Within, NotWithin}
use Rattle.jc_types.specs.declared.policies.Pattern.{Pattern}
use Rattle.jc_types.specs.declared.policies.Requirement.{Requirement}
use Rattle.jc_types.specs.declared.policies.Requirement.TheVariants.{ExitCodes, Conditions}
use Rattle.jc_types.specs.Equality.{same_pattern, same_text}

-- The container has ended with a code other than 0.
abbrev pub exit_is_failure : Option ℤ → Bool
exit_is_failure None = false
exit_is_failure (Some code) = not (int_eq code (pos 0))

-- The container is the one that the rule names, if it names one.
abbrev pub is_named : Option (List ℕ) → List ℕ → Bool
is_named None name = true
is_named (Some only) name = same_text name only

-- A rule on exit codes looks at the container, or init container: it has failed, and the rule names it or
-- none.
abbrev pub looks_at : Option (List ℕ) → Container → Bool
looks_at only container = exit_is_failure container.exit && is_named only container.name

-- The code is one of the values (In), or none of them (NotIn).
abbrev pub meets : Operator → List ℤ → ℤ → Bool
meets Within values code = list_any (λ value. int_eq value code) values
meets NotWithin values code = not (list_any (λ value. int_eq value code) values)

-- The container's code meets the operator.
abbrev pub code_meets : Operator → List ℤ → Option ℤ → Bool
code_meets operator values None = false
code_meets operator values (Some code) = meets operator values code

-- The condition has the kind and the truth that the pattern looks for.
abbrev pub finds : Pattern → Pattern → Bool
finds pattern condition = same_pattern condition pattern

-- A container that the rule looks at has a code that meets its operator.
abbrev pub has_code : Option (List ℕ) → Operator → List ℤ → List Container → Bool
has_code only operator values containers =
    list_any (λ container. looks_at only container && code_meets operator values container.exit) containers

-- A condition is what the pattern looks for.
abbrev pub has_condition : Pattern → List Pattern → Bool
has_condition pattern conditions = list_any (λ condition. finds pattern condition) conditions

-- A condition is what one of the patterns looks for.
abbrev pub shows_one_of : List Pattern → List Pattern → Bool
shows_one_of patterns conditions = list_any (λ pattern. has_condition pattern conditions) patterns

-- Containers and conditions show what a rule asks for: a code, or a condition for one of its patterns.
abbrev pub shows : List Container → List Pattern → Requirement → Bool
shows containers conditions (ExitCodes only operator values) = has_code only operator values containers
shows containers conditions (Conditions patterns) = shows_one_of patterns conditions

-- The rule matches the pod.
abbrev pub matches : FailureRule → Pod → Bool
matches rule pod = shows pod.containers pod.conditions rule.requirement

-- The least place of a rule that matches.
abbrev pub matching_place : FailurePolicy → Pod → Option ℕ
matching_place policy pod = position (λ rule. matches rule pod) policy.rules

-- The action of the rule at the place, and Count where there is none.
abbrev pub action_at : List FailureRule → Option ℕ → Action
action_at rules None = Count
action_at rules (Some place) = option_map_or (λ rule. rule.action) (slice_get rules place) Count

-- The action of the first rule that matches, and Count where none does.
abbrev pub action_of : FailurePolicy → Pod → Action
action_of policy pod = action_at policy.rules (matching_place policy pod)
