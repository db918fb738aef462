-- What a rule requires, as the last member of an object.
use Rattle.std.proofs.Common.{◌≡◌, true, ℤ, List, ℕ, [], ◌∷◌, codes, map, Option, Some, ap, refl, sym}
use Rattle.json.specs.Written.{Written}
use Rattle.serde_json.specs.Data.{Data, no_members}
use Rattle.jc_types.specs.declared.policies.Operator.{Operator}
use Rattle.jc_types.specs.declared.policies.Pattern.{Pattern}
use Rattle.jc_types.specs.declared.policies.Requirement.{Requirement}
use Rattle.jc_types.specs.declared.policies.Requirement.TheVariants.{Conditions, ExitCodes}
use Rattle.jc_print.specs.PrintedMembers.{list_data, with_json_member}
use Rattle.jc_print.specs.PrintedSpecs.{exit_codes_data, pattern_data, with_requirement}
use Rattle.jc_print.specs.Tokens.{AddsTokens, front_tokens, given_tokens}
use Rattle.jc_print.proofs.Writing.{Named, adds_same, group_of, is_ordered, more, more_of, no_more}

-- a member alone
alone : (a b : Written) (name : List ℕ) (d : Data) → AddsTokens a b (given_tokens name (Some d))
    → AddsTokens a b (front_tokens (with_json_member name (Some d) no_members))
alone a b name d one = group_of ((name, Some d) ∷ []) a b refl (more _ _ _ _ _ _ [] one refl (no_more a))

pub exits_written : (r : Requirement) (container : Option (List ℕ)) (operator : Operator) (values : List ℤ)
    (a b : Written)
    → r ≡ ExitCodes container operator values
    → AddsTokens a b (given_tokens (codes "onExitCodes") (Some (exit_codes_data container operator values)))
    → AddsTokens a b (front_tokens (with_requirement r no_members))
exits_written r container operator values a b is one =
    adds_same a b _ _ (ap (λ q. front_tokens (with_requirement q no_members)) (sym is)) (alone a b _ _ one)

pub conditions_written : (r : Requirement) (patterns : List Pattern) (a b : Written) → r ≡ Conditions patterns
    → AddsTokens a b (given_tokens (codes "onPodConditions") (Some (list_data (map pattern_data patterns))))
    → AddsTokens a b (front_tokens (with_requirement r no_members))
conditions_written r patterns a b is one =
    adds_same a b _ _ (ap (λ q. front_tokens (with_requirement q no_members)) (sym is)) (alone a b _ _ one)

behind : (name : List ℕ) (d : Data) (o : Option Data) (a b c : Written)
    → is_ordered ((name, Some d) ∷ (codes "action", o) ∷ []) ≡ true
    → AddsTokens a b (given_tokens (codes "action") o) → AddsTokens b c (front_tokens (with_json_member name (Some d) no_members))
    → AddsTokens a c (front_tokens (with_json_member name (Some d) (with_json_member (codes "action") o no_members)))
behind name d o a b c ordered first next =
    let last : Named = (name, Some d) ∷ [] in
    let whole : Named = (name, Some d) ∷ (codes "action", o) ∷ [] in
    group_of whole a c ordered (more_of last _ a b c refl next (more _ _ _ _ o o [] first refl (no_more a)))

pub requirement_behind : (r : Requirement) (o : Option Data) (a b c : Written)
    → AddsTokens a b (given_tokens (codes "action") o)
    → AddsTokens b c (front_tokens (with_requirement r no_members))
    → AddsTokens a c (front_tokens (with_requirement r (with_json_member (codes "action") o no_members)))
requirement_behind (ExitCodes container operator values) o a b c first next =
    behind (codes "onExitCodes") _ o a b c refl first next
requirement_behind (Conditions patterns) o a b c first next =
    behind (codes "onPodConditions") _ o a b c refl first next
