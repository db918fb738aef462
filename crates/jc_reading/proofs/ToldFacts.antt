-- The printed value of an allowed specification is told by its text: its numbers are whole, and it nests not deep.
use Rattle.std.proofs.Common.{◌≡◌, ℕ, ℤ, pos, negsuc, suc, ◌<◌, ◌≤◌, ◌^◌, List, [], ◌∷◌, map, Bool, true, cond, Ordering, Less, Equal, Greater, nat_cmp, Option, Some, None, is_some, option_map, IfSome, ap, ◌∙◌, arith}
use Rattle.std.specs.Cmp.Lexicographic.{slice_cmp}
use Rattle.std.specs.Ordering.{match_ordering}
use Rattle.std.specs.List.{AllByRecursion as Each}
use Rattle.std.proofs.lemmas.Bool.{leb-true}
use Rattle.serde_json.specs.Data.{Data, boolean, number, string, object, Members, no_members, member, put, depth, items_depth, members_depth}
use Rattle.serde_json.specs.Find.{of_integer}
use Rattle.serde_json.specs.Read.{read}
use Rattle.serde_json.specs.View.{items_of}
use Rattle.serde_json.specs.Written.{compact_text}
use Rattle.std.specs.Str.{is_utf8}
use Rattle.jc_json.specs.Line.{data_of}
use Rattle.jc_ranges.specs.Texts.{ranges_text}
use Rattle.jc_types.specs.declared.policies.FailurePolicy.{FailurePolicy}
use Rattle.jc_types.specs.declared.policies.FailureRule.{FailureRule}
use Rattle.jc_types.specs.declared.policies.Requirement.{Requirement}
use Rattle.jc_types.specs.declared.policies.Requirement.TheVariants.{ExitCodes, Conditions}
use Rattle.jc_types.specs.declared.policies.SuccessPolicy.{SuccessPolicy}
use Rattle.jc_types.specs.declared.policies.SuccessRule.{SuccessRule}
use Rattle.jc_types.specs.declared.specifications.JobSpec.{JobSpec}
use Rattle.jc_types.specs.declared.specifications.Template.{Template}
use Rattle.jc_print.specs.PrintedMembers.{with_json_member, list_data, number_data}
use Rattle.jc_print.specs.PrintedSpecs.{rules_data, pattern_data, exit_codes_data, with_requirement, failure_rule_data, failure_data, with_success_rule, success_rule_data, success_data, with_template, template_data, with_index_limits}
use Rattle.jc_print.specs.PrintedSpecs.{with_limits, with_counts, with_policies, spec_data}
use Rattle.jc_reading.specs.Allowed.{IsAllowedRequirement, IsAllowedRule, IsAllowedFailure, IsAllowedSuccess, IsAllowedSuccessRule, IsAllowedSpec, IsCode}
use Rattle.jc_reading.specs.Compact.{AreTold, HasTold, IsTold}
use Rattle.jc_reading.proofs.CompactFacts.{compact_text_told, put_told}

-- A value that is told, and nests at most n deep.
pub record IsToldWithin (n : ℕ) (d : Data) : Type 0 where
  pub told : IsTold d
  pub deep : depth d ≤ n

pub record HasToldWithin (n : ℕ) (ms : Members) : Type 0 where
  pub told : HasTold ms
  pub deep : members_depth ms ≤ n

put_deep : (k : List ℕ) (d : Data) (ms : Members) (n : ℕ) → depth d ≤ n → members_depth ms ≤ n → members_depth (put k d ms) ≤ n
put_deep k d no_members n one all = omega (arith, one)
put_deep k d (member l e ms) n one all = by (slice_cmp nat_cmp k l) (put_deep k d ms n one (omega (arith, all)))
  where
    by : (o : Ordering) → members_depth (put k d ms) ≤ n → members_depth (match_ordering o (member k d (member l e ms)) (member l d ms) (member l e (put k d ms))) ≤ n
    by Less rest = omega (arith, one, all)
    by Equal rest = omega (arith, one, all)
    by Greater rest = omega (arith, rest, all)

pub none_told : (n : ℕ) → HasToldWithin n no_members
none_told n = record { told = tt; deep = omega arith }

pub with_told : (n : ℕ) (k : List ℕ) (given : Option Data) (ms : Members) → IfSome given (IsToldWithin n) → HasToldWithin n ms → HasToldWithin n (with_json_member k given ms)
unfolding with_json_member
with_told n k None ms one all = all
with_told n k (Some d) ms one all = record { told = put_told k d ms one.told all.told; deep = put_deep k d ms n one.deep all.deep }

pub object_told : (n : ℕ) (ms : Members) → HasToldWithin n ms → IsToldWithin (suc n) (object ms)
object_told n ms h = let deep = h.deep in record { told = h.told; deep = omega (arith, deep) }

pub leaf_text : (n : ℕ) (s : List ℕ) → IsToldWithin n (string s)
leaf_text n s = record { told = tt; deep = omega arith }

pub leaf_bool : (n : ℕ) (b : Bool) → IsToldWithin n (boolean b)
leaf_bool n b = record { told = tt; deep = omega arith }

pub leaf_number : (n m : ℕ) → m < 2 ^ 64 → IsToldWithin n (number_data m)
leaf_number n m few = record { told = few; deep = omega arith }

items_told : {X : Type 0} (f : X → Data) (n : ℕ) (xs : List X) → Each (λ x. IsToldWithin n (f x)) xs → AreTold (items_of (map f xs))
items_told f n [] all = tt
items_told f n (x ∷ xs) all = (all.0.told, items_told f n xs all.1)

items_deep : {X : Type 0} (f : X → Data) (n : ℕ) (xs : List X) → Each (λ x. IsToldWithin n (f x)) xs → items_depth (items_of (map f xs)) ≤ n
items_deep f n [] all = omega arith
items_deep f n (x ∷ xs) all = let first = all.0.deep in let rest = items_deep f n xs all.1 in omega (arith, first, rest)

pub list_told : {X : Type 0} (f : X → Data) (n : ℕ) (xs : List X) → Each (λ x. IsToldWithin n (f x)) xs → IsToldWithin (suc n) (list_data (map f xs))
list_told f n xs all = let deep = items_deep f n xs all in record { told = items_told f n xs all; deep = omega (arith, deep) }

pub each : {X : Type 0} {P Q : X → Type 0} (h : (x : X) → P x → Q x) (xs : List X) → Each P xs → Each Q xs
each h [] all = tt
each h (x ∷ xs) all = (h x all.0, each h xs all.1)

pub always : {X : Type 0} {Q : X → Type 0} (h : (x : X) → Q x) (xs : List X) → Each Q xs
always h [] = tt
always h (x ∷ xs) = (h x, always h xs)

pub given_told : {X : Type 0} {P : X → Type 0} (f : X → Data) (n : ℕ) (o : Option X) → ((x : X) → P x → IsToldWithin n (f x)) → IfSome o P → IfSome (option_map f o) (IsToldWithin n)
given_told f n None h one = tt
given_told f n (Some x) h one = h x one

pub any_given : {X : Type 0} (f : X → Data) (n : ℕ) (o : Option X) → ((x : X) → IsToldWithin n (f x)) → IfSome (option_map f o) (IsToldWithin n)
any_given f n None h = tt
any_given f n (Some x) h = h x

-- ---- parts

pub code_told : (n : ℕ) (z : ℤ) → IsCode z → IsToldWithin n (number (of_integer z))
code_told n (pos m) code = let few = leb-true m 2147483647 code.greatest in record { told = omega (arith, few); deep = omega arith }
code_told n (negsuc m) code = let few = leb-true m 2147483647 code.least in record { told = omega (arith, few); deep = omega arith }

requirement_told : (names : List (List ℕ)) (r : Requirement) (ms : Members) → IsAllowedRequirement names r → HasToldWithin 3 ms → HasToldWithin 3 (with_requirement r ms)
unfolding exit_codes_data pattern_data
requirement_told names (ExitCodes container operator values) ms allowed rest =
    with_told 3 _ _ ms
    (object_told 2 _
    (with_told 2 _ _ _ (list_told (λ z. number (of_integer z)) 1 values (each (code_told 1) values allowed.2))
    (with_told 2 _ _ _ (leaf_text 2 _) (with_told 2 _ _ _ (any_given string 2 container (leaf_text 2)) (none_told 2))))) rest
requirement_told names (Conditions patterns) ms allowed rest =
    with_told 3 _ _ ms
    (list_told pattern_data 2 patterns (always (λ p. object_told 1 _ (with_told 1 _ _ _ (leaf_text 1 _) (with_told 1 _ _ _ (leaf_text 1 _) (none_told 1)))) patterns)) rest

failure_rule_told : (by_index : Bool) (names : List (List ℕ)) (rule : FailureRule) → IsAllowedRule by_index names rule → IsToldWithin 4 (failure_rule_data rule)
unfolding failure_rule_data
failure_rule_told by_index names rule allowed =
    object_told 3 _ (requirement_told names rule.requirement _ allowed.requirement (with_told 3 _ _ _ (leaf_text 3 _) (none_told 3)))

rules_told : (rules : List Data) → IsToldWithin 5 (list_data rules) → IsToldWithin 6 (rules_data rules)
unfolding rules_data
rules_told rules all = object_told 5 _ (with_told 5 _ _ _ all (none_told 5))

failure_told : (by_index : Bool) (template : Template) (policy : FailurePolicy) → IsAllowedFailure by_index template policy → IsToldWithin 6 (failure_data policy)
failure_told by_index template policy allowed = rules_told _ (list_told failure_rule_data 4 policy.rules (each (failure_rule_told by_index _) policy.rules allowed.rules))

success_rule_told : (completions : ℕ) (rule : SuccessRule) → IsAllowedSuccessRule completions rule → IsToldWithin 4 (success_rule_data rule)
unfolding success_rule_data with_success_rule
success_rule_told completions rule allowed =
    object_told 3 _
    (with_told 3 _ _ _ (any_given (λ set. string (ranges_text set)) 3 rule.indexes (λ set. leaf_text 3 _))
    (with_told 3 _ _ _ (given_told number_data 3 rule.count (λ n h. let few = h.few in leaf_number 3 n (omega (arith, few))) allowed.count) (none_told 3)))

success_told : (spec : JobSpec) (policy : SuccessPolicy) → IsAllowedSuccess spec policy → IsToldWithin 6 (success_data policy)
success_told spec policy allowed = rules_told _ (list_told success_rule_data 4 policy.rules (each (success_rule_told _) policy.rules allowed.rules))

template_told : (template : Template) → IsToldWithin 6 (template_data template)
unfolding template_data with_template
template_told template =
    object_told 5 _
    (with_told 5 _ _ _ (leaf_text 5 _)
    (with_told 5 _ _ _ (list_told string 4 template.inits (always (leaf_text 4) template.inits))
    (with_told 5 _ _ _ (list_told string 4 template.containers (always (leaf_text 4) template.containers)) (none_told 5))))

pub spec_told : (spec : JobSpec) → IsAllowedSpec spec → IsToldWithin 7 (spec_data spec)
unfolding spec_data with_policies with_counts with_index_limits with_limits
spec_told spec allowed =
    let parallelism = allowed.parallelism in
    let backoff = allowed.backoff_limit in
    object_told 6 _
    (with_told 6 _ _ _ (template_told spec.template)
    (with_told 6 _ _ _ (given_told success_data 6 spec.success (success_told spec) allowed.success)
    (with_told 6 _ _ _ (leaf_text 6 _)
    (with_told 6 _ _ _ (given_told failure_data 6 spec.failure (failure_told (is_some spec.per_index) spec.template) allowed.failure)
    (with_told 6 _ _ _ (leaf_bool 6 _)
    (with_told 6 _ _ _ (leaf_number 6 _ (omega (arith, parallelism)))
    (with_told 6 _ _ _ (given_told number_data 6 spec.completions (λ n h. leaf_number 6 n (omega (arith, h))) allowed.completions)
    (with_told 6 _ _ _ (given_told number_data 6 spec.max_failed (λ n h. leaf_number 6 n (omega (arith, h))) allowed.by_index.max_failed)
    (with_told 6 _ _ _ (given_told number_data 6 spec.per_index (λ n h. leaf_number 6 n (omega (arith, h))) allowed.by_index.per_index)
    (with_told 6 _ _ _ (leaf_text 6 _)
    (with_told 6 _ _ _ (leaf_number 6 _ (omega (arith, backoff)))
    (with_told 6 _ _ _ (given_told number_data 6 spec.deadline (λ n h. leaf_number 6 n (omega (arith, h))) allowed.deadline) (none_told 6)))))))))))))

-- The text of an allowed specification reads as its value, where it is Unicode.
pub spec_read : (spec : JobSpec) → IsAllowedSpec spec → is_utf8 (compact_text (spec_data spec)) ≡ true → data_of (compact_text (spec_data spec)) ≡ Some (spec_data spec)
unfolding data_of
spec_read spec allowed text =
    let fine = spec_told spec allowed in
    let deep = fine.deep in
    ap (λ b. cond b (read (compact_text (spec_data spec))) None) text ∙ compact_text_told (spec_data spec) fine.told (omega (arith, deep))
