-- What an accepted manifest says is a valid specification.
use Rattle.std.proofs.Common.{◌≡◌, ◌≢◌, refl, sym, ◌∙◌, ap, subst, ℕ, zero, suc, ◌+◌, ◌<◌, ◌≤◌, ℤ, pos, negsuc, nat_abs, List, [], ◌∷◌, ◌++◌, length, get_or, Bool, true, false, not, ◌&&◌, ◌||◌, cond, bytes_eq, Option, Some, None}
use Rattle.std.proofs.Common.{option_map, is_some, IsSome, IfSome, Result, Ok, Err, codes, append_assoc, true≢false, arith}
use Rattle.std.specs.Prelude.{All, IfOk, AllPairs, int_le, is_none, nat_lt, nat_le, ok_or, option_and_then, unwrap_or}
use Rattle.std.specs.Option.{option_or, option_map_or}
use Rattle.std.specs.Result.{result_unwrap_or}
use Rattle.std.specs.Cmp.Lexicographic.{bytes_decides}
use Rattle.std.proofs.lemmas.Bool.{leb-true, ltb-true, or_parts as or_false}
use Rattle.std.proofs.lemmas.List.{append-nil}
use Rattle.std.proofs.lemmas.List.Elements.{All-nil, All-cons}
use Rattle.std.proofs.lemmas.List.Quantifiers.{all_pairs_push}
use Rattle.serde_json.specs.Data.{Data, null, boolean, number, string, array, object, Items, no_items, item}
use Rattle.serde_json.specs.Events.{items_len}
use Rattle.serde_json.specs.Find.{get, as_array, as_integer, as_number}
use Rattle.jc_json.specs.Place.{path_to, path_at}
use Rattle.jc_json.specs.Field.{Refusal, wrong_type, out_of_range, ◌>>=◌, member_of, unless_null, within_bounds, bounded_number, listed_items, list_of, may_be, optional_number, optional_list, optional_object, needed_text, needed_list}
use Rattle.jc_types.specs.declared.limits.TheConstants.{GREATEST_COMPLETIONS, GREATEST_LIMIT, GREATEST_PARALLELISM, MOST_CONTAINERS}
use Rattle.jc_types.specs.declared.objects.KeyNames.{KeyNames as Key}
use Rattle.jc_types.specs.declared.policies.Action.{Action}
use Rattle.jc_types.specs.declared.policies.Action.TheVariants.{FailIndex}
use Rattle.jc_types.specs.declared.policies.FailurePolicy.{FailurePolicy}
use Rattle.jc_types.specs.declared.policies.FailureRule.{FailureRule}
use Rattle.jc_types.specs.declared.specifications.JobSpec.{JobSpec}
use Rattle.jc_types.specs.declared.specifications.Mode.{Mode}
use Rattle.jc_types.specs.declared.specifications.Mode.TheVariants.{NonIndexed, Indexed}
use Rattle.jc_types.specs.declared.specifications.Replacement.{Replacement}
use Rattle.jc_types.specs.declared.specifications.Replacement.TheVariants.{TerminatingOrFailed, FailedOnly}
use Rattle.jc_types.specs.declared.specifications.Restart.{Restart}
use Rattle.jc_types.specs.declared.specifications.Restart.TheVariants.{Never, OnFailure}
use Rattle.jc_types.specs.declared.specifications.Template.{Template}
use Rattle.jc_types.specs.ValidSpecs.{FailsNoIndex, IsSuccessCount, IsValidSpec}
use Rattle.jc_rows.specs.declared.counts.Counts.{Counts}
use Rattle.jc_manifest.specs.declared.index_limits.IndexLimits.{IndexLimits}
use Rattle.jc_manifest.specs.declared.manifests.Head.{Head}
use Rattle.jc_rows.specs.declared.refusals.ManifestFault.{ManifestFault}
use Rattle.jc_log.specs.Requests.{is_indexed}
use Rattle.jc_rows.specs.PodCountRows.{is_mode, completions_of, completions_or, indexed_row, numbers_refusal, parallelism_in, completions_in, mode_in, counts_refusal, counts_in}
use Rattle.jc_policies.specs.FailurePolicies.{is_fail_index, action_in, action_refusal, failure_rule_refusal, failure_rule_in, failure_rule_row, failure_rules_from, failure_rules_refusal, given_failure_refusal, failure_refusal}
use Rattle.jc_policies.specs.FailurePolicies.{failure_rules_in, failure_in}
use Rattle.jc_manifest.specs.IndexLimits.{index_limits_refusal, index_limits_in, is_by_index, has_indexes_to_limit, by_index_refusal}
use Rattle.jc_manifest.specs.Limits.{managed_row, usual_backoff, limits_in}
use Rattle.jc_manifest.specs.Manifests.{is_early, replacement_in, replacement_refusal, head_refusal, head_in, policies_refusal, policies_in, spec_refusal, spec_in, metadata_part_refusal, spec_part_refusal, manifest_refusal, key_of, spec_of}
use Rattle.jc_manifest.specs.Metadata.{type_refusal}
use Rattle.jc_rows.specs.ManifestRows.{Row, Reads, each, rule_row, passes, number_in, object_in, rows_of_given, given_in, text_row, given_text_row, object_row}
use Rattle.jc_policies.specs.SuccessPolicies.{count_in, success_rule_in, success_rules_from, success_rules_in, given_success_refusal, success_refusal, success_in}
use Rattle.jc_rows.specs.Templates.{never_restarts, restart_in, restart_refusal, init_count, list_in, given_list_in, are_right_many, containers_refusal, is_among, is_new_label, name_row, container_name, names_row, names_in}
use Rattle.jc_rows.specs.Templates.{all_names_refusal, all_containers_refusal, pod_refusal, names_of_both, all_names_in, template_in_pod, pod_path, pod_spec_in, template_refusal, template_in}
use Rattle.jc_rows.specs.NameForms.{is_label}
use Rattle.jc_policies.proofs.IndexSetFacts.{left, right}

-- ---- rows that refuse nothing

pub parts : (row rest : Row) → option_or row rest ≡ None → (row ≡ None) × (rest ≡ None)
parts None rest e = (refl, e)
parts (Some r) rest e = absurd (cc (e))

pub kept : (path : List ℕ) (rule : ℕ) (b : Bool) → rule_row path rule b ≡ None → b ≡ true
kept path rule true e = refl
kept path rule false e = absurd (cc (e))

pub passed : {A : Type 0} (path : List ℕ) (rule : ℕ) (test : A → Bool) (read : Result A Refusal) (filler : A)
    → passes path rule test read ≡ None → test (result_unwrap_or read filler) ≡ true
passed path rule test (Ok a) filler e = kept path rule (test a) e
passed path rule test (Err refusal) filler e = absurd (cc (e))

given_rows : {A : Type 0} (f : Data → A) (read : Result (Option Data) Refusal) (rows : Data → Row) → rows_of_given read rows ≡ None
    → IsSome (option_map f (result_unwrap_or read None)) → (d : Data) × (rows d ≡ None)
given_rows f (Ok None) rows e some = absurd (true≢false (sym some))
given_rows f (Ok (Some d)) rows e some = (d, e)
given_rows f (Err refusal) rows e some = absurd (true≢false (sym some))

-- what each object that passes says holds of what is said, where it is given
given_holds : {A : Type 0} (P : A → Type 0) (f : Data → A) (read : Result (Option Data) Refusal) (rows : Data → Row)
    → ((d : Data) → rows d ≡ None → P (f d)) → rows_of_given read rows ≡ None → IfSome (option_map f (result_unwrap_or read None)) P
given_holds P f (Ok None) rows holds e = tt
given_holds P f (Ok (Some d)) rows holds e = holds d e
given_holds P f (Err refusal) rows holds e = tt

-- ---- numbers

bounded : (path : List ℕ) (least greatest : ℕ) (z : ℤ) (b : Bool) → (int_le (pos least) z && int_le z (pos greatest)) ≡ b
    → IfSome (option_map nat_abs (result_unwrap_or (cond b (Ok z) (Err (out_of_range path)) >>= (λ a. Ok (Some a))) None))
    (λ n. (least ≤ n) × (n ≤ greatest))
bounded path least greatest (pos n) true e =
    (leb-true least n (left _ (nat_le n greatest) e), leb-true n greatest (right (nat_le least n) _ e))
bounded path least greatest (negsuc n) true e = absurd (true≢false (sym e))
bounded path least greatest z false e = tt

number_bounded : (path : List ℕ) (least greatest : ℕ) (w : Option ℤ)
    → IfSome (option_map nat_abs (result_unwrap_or ((ok_or w (wrong_type path) >>= within_bounds path (pos least) (pos greatest)) >>= (λ a. Ok (Some a))) None))
    (λ n. (least ≤ n) × (n ≤ greatest))
number_bounded path least greatest None = tt
number_bounded path least greatest (Some z) = bounded path least greatest z (int_le (pos least) z && int_le z (pos greatest)) refl

given_bounded : (path : List ℕ) (least greatest : ℕ) (o : Option Data)
    → IfSome (option_map nat_abs (result_unwrap_or (may_be (bounded_number path (pos least) (pos greatest)) o) None)) (λ n. (least ≤ n) × (n ≤ greatest))
given_bounded path least greatest None = tt
given_bounded path least greatest (Some d) = number_bounded path least greatest (option_and_then as_integer (as_number d))

optional_bounded : (path name : List ℕ) (d : Data) (least greatest : ℕ)
    → IfSome (option_map nat_abs (result_unwrap_or (optional_number path name (pos least) (pos greatest) d) None)) (λ n. (least ≤ n) × (n ≤ greatest))
unfolding optional_number
optional_bounded path name d least greatest = given_bounded (path_to path name) least greatest (member_of name d)

below : (greatest : ℕ) (o : Option ℕ) → IfSome o (λ n. (0 ≤ n) × (n ≤ greatest)) → IfSome o (λ n. n ≤ greatest)
below greatest None h = tt
below greatest (Some n) h = h.1

number_fits : (path : List ℕ) (d : Data) (name : List ℕ) (greatest : ℕ) → IfSome (number_in path d name greatest) (λ n. n ≤ greatest)
unfolding number_in
number_fits path d name greatest = below greatest _ (optional_bounded path name d 0 greatest)

or_fits : (o : Option ℕ) (usual greatest : ℕ) → IfSome o (λ n. n ≤ greatest) → usual ≤ greatest → unwrap_or o usual ≤ greatest
or_fits None usual greatest h within_bounds = within_bounds
or_fits (Some n) usual greatest h within_bounds = h

completions_fit : (p c : Option ℕ) → IfSome c (λ n. n ≤ GREATEST_COMPLETIONS) → IfSome (completions_or p c) (λ n. n ≤ GREATEST_COMPLETIONS)
completions_fit p (Some c) h = h
completions_fit None None h = omega arith
completions_fit (Some p) None h = tt

-- ---- names

among_or : (a b : Bool) → not (a || b) ≡ true → (a ≡ false) × (b ≡ false)
among_or true b e = absurd (true≢false (sym e))
among_or false true e = absurd (true≢false (sym e))
among_or false false e = (refl, refl)

-- what is not among names differs from each of them
not_among : (names : List (List ℕ)) (s : List ℕ) → is_among names s ≡ false → (k : ℕ) (d : List ℕ) → k < length names → get_or names k d ≢ s
not_among [] s e k d within_bounds = absurd (omega arith)
not_among (name ∷ names) s e zero d within_bounds =
    let apart = or_false (bytes_eq name s) (is_among names s) e in
    λ same. true≢false (sym ((bytes_decides name s).1 same) ∙ apart.0)
not_among (name ∷ names) s e (suc k) d within_bounds =
    not_among names s (or_false (bytes_eq name s) (is_among names s) e).1 k d (omega arith)

among_append : (a b : List (List ℕ)) (s : List ℕ) → is_among a s ≡ false → is_among b s ≡ false → is_among (a ++ b) s ≡ false
among_append [] b s p q = q
among_append (name ∷ a) b s p q =
    let apart = or_false (bytes_eq name s) (is_among a s) p in
    ap (λ t. t || is_among (a ++ b) s) apart.0 ∙ among_append a b s apart.1 q

regroup : (others earlier : List (List ℕ)) (name : List ℕ) (names : List (List ℕ))
    → (others ++ (earlier ++ name ∷ [])) ++ names ≡ (others ++ earlier) ++ name ∷ names
regroup others earlier name names = simp append_assoc

abbrev Distinct : List (List ℕ) → Type 0
Distinct names = AllPairs (λ name other. name ≢ other) names

new_label : (others earlier : List (List ℕ)) (path : List ℕ) (d : Data) → name_row others earlier path d ≡ None
    → is_new_label others earlier (container_name path d) ≡ true
unfolding name_row text_row container_name
new_label others earlier path d e = passed _ 11 (is_new_label others earlier) (needed_text path (codes "name") d) [] e

-- names that are accepted one after another differ from those before them
names_differ : (path : List ℕ) (others earlier : List (List ℕ)) (place : ℕ) (ds : List Data) → names_row path others earlier place ds ≡ None
    → Distinct (others ++ earlier) → Distinct ((others ++ earlier) ++ names_in path place ds)
names_differ path others earlier place [] e before = subst Distinct (sym (append-nil (others ++ earlier))) before
names_differ path others earlier place (d ∷ ds) e before =
    let rows = parts (name_row others earlier (path_at path place) d) _ e in
    let name : List ℕ = container_name (path_at path place) d in
    let new = new_label others earlier (path_at path place) d rows.0 in
    let apart = among_or (is_among others name) (is_among earlier name) (right (is_label name) (not (is_among others name || is_among earlier name)) new) in
    let fresh = not_among (others ++ earlier) name (among_append others earlier name apart.0 apart.1) in
    let pushed : Distinct ((others ++ earlier) ++ name ∷ []) = all_pairs_push (λ one other. one ≢ other) (others ++ earlier) name before fresh in
    let more : Distinct (others ++ (earlier ++ name ∷ [])) = subst Distinct (append_assoc others earlier (name ∷ [])) pushed in
    subst Distinct (regroup others earlier name (names_in path (place + 1) ds))
    (names_differ path others (earlier ++ name ∷ []) (place + 1) ds rows.1 more)

names_counted : (path : List ℕ) (place : ℕ) (ds : List Data) → length (names_in path place ds) ≡ length ds
names_counted path place [] = refl
names_counted path place (d ∷ ds) = ap suc (names_counted path (place + 1) ds)

pub items_counted_in : (items : Items) → length (listed_items items) ≡ items_len items
items_counted_in no_items = refl
items_counted_in (item d ds) = ap suc (items_counted_in ds)

inits_within : (path : List ℕ) (found : Option Data)
    → length (unwrap_or (result_unwrap_or (may_be (list_of path) (option_and_then unless_null found)) None) [])
    ≤ option_map_or items_len (option_and_then as_array found) 0
inits_within path None = omega arith
inits_within path (Some null) = omega arith
inits_within path (Some (boolean b)) = omega arith
inits_within path (Some (number n)) = omega arith
inits_within path (Some (string s)) = omega arith
inits_within path (Some (array items)) = omega (arith, items_counted_in items)
inits_within path (Some (object ms)) = omega arith

inits_few : (path : List ℕ) (pod : Data) → length (given_list_in path pod (codes "initContainers")) ≤ init_count pod
unfolding given_list_in init_count optional_list member_of
inits_few path pod = inits_within (path_to path (codes "initContainers")) (get (codes "initContainers") pod)

-- what is kept of a template
record IsValidTemplate (template : Template) : Type 0 where
  some : 0 < length template.containers
  few : length template.containers + length template.inits ≤ MOST_CONTAINERS
  distinct : Distinct (template.containers ++ template.inits)

none_differ : Distinct []
none_differ i j d less within_bounds = absurd (omega arith)

pod_valid : (by_index : Bool) (path : List ℕ) (pod : Data) → pod_refusal by_index path pod ≡ None → IsValidTemplate (template_in_pod path pod)
unfolding pod_refusal template_in_pod all_containers_refusal all_names_refusal all_names_in names_of_both containers_refusal list_in
pod_valid by_index path pod e =
    let containers : List Data = list_in path pod (codes "containers") in
    let inits : List Data = given_list_in path pod (codes "initContainers") in
    let at : List ℕ = path_to path (codes "containers") in
    let init_at : List ℕ = path_to path (codes "initContainers") in
    let rows = parts _ _ (parts _ _ (parts _ _ e).1).0 in
    let lists = parts _ _ rows.0 in
    let names = parts _ _ (parts _ _ (parts _ _ rows.1).1).0 in
    let many = passed _ 10 (are_right_many (init_count pod)) (needed_list path (codes "containers") pod) [] lists.0 in
    let some = ltb-true 0 (length containers) (left _ (nat_le (length containers + init_count pod) MOST_CONTAINERS) many) in
    let fit = leb-true (length containers + init_count pod) MOST_CONTAINERS (right (nat_lt 0 (length containers)) _ many) in
    let count = names_counted at 0 containers in
    let init_counted = names_counted init_at 0 inits in
    let few = inits_few path pod in
    let first : Distinct (names_in at 0 containers) = names_differ at [] [] 0 containers names.0 none_differ in
    let all = names_differ init_at (names_in at 0 containers) [] 0 inits (parts _ _ names.1).0
    (subst Distinct (sym (append-nil (names_in at 0 containers))) first) in
    record {
      some = omega (arith, some, count);
      few = omega (arith, fit, count, init_counted, few);
      distinct = subst (λ front. Distinct (front ++ names_in init_at 0 inits)) (append-nil (names_in at 0 containers)) all;
    }

template_valid : (by_index : Bool) (path : List ℕ) (spec : Data) → template_refusal by_index path spec ≡ None → IsValidTemplate (template_in path spec)
unfolding template_refusal template_in
template_valid by_index path spec e = pod_valid by_index (pod_path path) (pod_spec_in path spec) (parts _ _ (parts _ _ (parts _ _ e).1).1).0

-- ---- policies

never : (restart : Restart) → never_restarts restart ≡ true → restart ≡ Never
never Never e = refl
never OnFailure e = absurd (true≢false (sym e))

either : (b : Bool) (restart : Restart) → (not b || never_restarts restart) ≡ true → b ≡ true → restart ≡ Never
either true restart e is = never restart e
either false restart e is = absurd (true≢false (sym is))

-- where failures are limited by index, no container is restarted
pod_by_index : (by_index : Bool) (path : List ℕ) (pod : Data) → pod_refusal by_index path pod ≡ None → by_index ≡ true
    → (template_in_pod path pod).restart ≡ Never
unfolding pod_refusal restart_refusal template_in_pod
pod_by_index by_index path pod e is =
    either by_index (restart_in path pod) (kept _ 33 _ (parts _ _ (parts _ _ (parts _ _ e).0).1).0) is

template_by_index : (by_index : Bool) (path : List ℕ) (spec : Data) → template_refusal by_index path spec ≡ None → by_index ≡ true
    → (template_in path spec).restart ≡ Never
unfolding template_refusal template_in
template_by_index by_index path spec e =
    pod_by_index by_index (pod_path path) (pod_spec_in path spec) (parts _ _ (parts _ _ (parts _ _ e).1).1).0

failure_valid : (by_index : Bool) (template : Template) (path : List ℕ) (spec : Data) → failure_refusal by_index template path spec ≡ None → IsSome (failure_in path spec)
    → template.restart ≡ Never
unfolding failure_refusal failure_in given_failure_refusal
failure_valid by_index template path spec e some =
    let policy = given_rows (failure_rules_in (path_to path (codes "podFailurePolicy"))) (optional_object path (codes "podFailurePolicy") spec) _ e some in
    never template.restart (kept _ 13 _ (parts _ _ policy.1).0)

apart_from_fail_index : (action : Action) → not (is_fail_index action) ≡ true → action ≢ FailIndex
apart_from_fail_index action e = λ same. true≢false (sym e ∙ ap (λ a. not (is_fail_index a)) same)

-- where failures are not limited by index, no rule fails one
action_fails_none : (path : List ℕ) (rule : Data) → action_refusal false path rule ≡ None → action_in path rule ≢ FailIndex
unfolding action_refusal
action_fails_none path rule e = apart_from_fail_index (action_in path rule) (kept _ 27 _ (parts _ _ (parts _ _ e).1).0)

row_fails_none : (names : List (List ℕ)) (path : List ℕ) (place : ℕ) (rule : Data) → failure_rule_row false names path place rule ≡ None
    → (failure_rule_in (path_at path place) rule).action ≢ FailIndex
unfolding failure_rule_row failure_rule_refusal failure_rule_in
row_fails_none names path place rule e = action_fails_none (path_at path place) rule (parts _ _ e).0

rules_fail_none : (names : List (List ℕ)) (path : List ℕ) (place : ℕ) (ds : List Data) → each (failure_rule_row false names path) place ds ≡ None
    → All (λ (rule : FailureRule). rule.action ≢ FailIndex) (failure_rules_from path place ds)
rules_fail_none names path place [] e = All-nil (λ (rule : FailureRule). rule.action ≢ FailIndex)
rules_fail_none names path place (d ∷ ds) e =
    let rows = parts (failure_rule_row false names path place d) _ e in
    All-cons (λ (rule : FailureRule). rule.action ≢ FailIndex) (failure_rule_in (path_at path place) d) (failure_rules_from path (place + 1) ds)
    (row_fails_none names path place d rows.0) (rules_fail_none names path (place + 1) ds rows.1)

policy_fails_none : (template : Template) (path : List ℕ) (policy : Data) → given_failure_refusal false template path policy ≡ None
    → FailsNoIndex (failure_rules_in path policy)
unfolding given_failure_refusal failure_rules_refusal failure_rules_in
policy_fails_none template path policy e =
    let rules = parts _ _ (parts _ _ (parts _ _ e).1).0 in
    rules_fail_none (template.containers ++ template.inits) (path_to path (codes "rules")) 0 (list_in path policy (codes "rules"))
    (parts _ _ (parts _ _ rules.1).1).0

failure_fails_none : (limit : Option ℕ) (template : Template) (path : List ℕ) (spec : Data) → failure_refusal (is_some limit) template path spec ≡ None
    → limit ≡ None → IfSome (failure_in path spec) FailsNoIndex
unfolding failure_refusal failure_in
failure_fails_none (Some limit) template path spec e none = absurd (cc (none))
failure_fails_none None template path spec e none =
    given_holds (λ (policy : FailurePolicy). FailsNoIndex policy) (failure_rules_in (path_to path (codes "podFailurePolicy")))
    (optional_object path (codes "podFailurePolicy") spec)
    (given_failure_refusal false template (path_to path (codes "podFailurePolicy")))
    (policy_fails_none template (path_to path (codes "podFailurePolicy"))) e

late : (b : Bool) (replacement : Replacement) → not (b && is_early replacement) ≡ true → b ≡ true → replacement ≡ FailedOnly
late true TerminatingOrFailed e is = absurd (true≢false (sym e))
late true FailedOnly e is = refl
late false replacement e is = absurd (true≢false (sym is))

replacement_valid : (b : Bool) (path : List ℕ) (spec : Data) → replacement_refusal b path spec ≡ None → b ≡ true
    → replacement_in b path spec ≡ FailedOnly
unfolding replacement_refusal
replacement_valid b path spec e is = late b (replacement_in b path spec) (kept _ 8 _ (parts _ _ (parts _ _ e).1).0) is

is_indexed_mode : (mode : Mode) → is_indexed mode ≡ true → mode ≡ Indexed
is_indexed_mode Indexed e = refl
is_indexed_mode NonIndexed e = absurd (true≢false (sym e))

success_valid : (counts : Counts) (path : List ℕ) (spec : Data) → success_refusal counts path spec ≡ None → IsSome (success_in counts path spec)
    → counts.mode ≡ Indexed
unfolding success_refusal success_in given_success_refusal
success_valid counts path spec e some =
    let policy = given_rows (success_rules_in (completions_of counts) (path_to path (codes "successPolicy"))) (optional_object path (codes "successPolicy") spec) _ e some in
    is_indexed_mode counts.mode (kept _ 21 _ (parts _ _ policy.1).0)

rule_counted : (completions : ℕ) (path : List ℕ) (d : Data) → IsSuccessCount (success_rule_in completions path d)
unfolding success_rule_in count_in
rule_counted completions path d = optional_bounded path (codes "succeededCount") d 1 GREATEST_COMPLETIONS

rules_counted : (completions : ℕ) (path : List ℕ) (place : ℕ) (ds : List Data)
    → All IsSuccessCount (success_rules_from completions path place ds)
rules_counted completions path place [] = All-nil IsSuccessCount
rules_counted completions path place (d ∷ ds) =
    All-cons IsSuccessCount (success_rule_in completions (path_at path place) d) (success_rules_from completions path (place + 1) ds)
    (rule_counted completions (path_at path place) d) (rules_counted completions path (place + 1) ds)

policy_counted : (completions : ℕ) (path : List ℕ) (given : Option Data) → IfSome (option_map (success_rules_in completions path) given) (λ policy. All IsSuccessCount policy.rules)
unfolding success_rules_in
policy_counted completions path None = tt
policy_counted completions path (Some d) = rules_counted completions (path_to path (codes "rules")) 0 (list_in path d (codes "rules"))

-- ---- the specification

has_completions : (mode : Mode) (completions : Option ℕ) → not (is_indexed mode && is_none completions) ≡ true → mode ≡ Indexed → IsSome completions
has_completions mode (Some n) e is = refl
has_completions Indexed None e is = absurd (true≢false (sym e))
has_completions NonIndexed None e is = absurd (cc (is))

indexed_valid : (path : List ℕ) (mode : Mode) (completions : Option ℕ) → indexed_row path mode completions ≡ None → mode ≡ Indexed → IsSome completions
unfolding indexed_row
indexed_valid path mode completions e is = has_completions mode completions (kept _ 6 _ e) is

-- limits of indexes stand with an Indexed Job
limit_indexed : (counts : Counts) (limits : IndexLimits) → has_indexes_to_limit counts limits ≡ true → is_by_index limits ≡ true
    → counts.mode ≡ Indexed
limit_indexed counts limits e is = by (is_by_index limits) e is
  where
    by : (b : Bool) → (not b || is_indexed counts.mode) ≡ true → b ≡ true → counts.mode ≡ Indexed
    by true h is = is_indexed_mode counts.mode h
    by false h is = absurd (true≢false (sym is))

-- a number of failed indexes stands beside a limit of each
most_beside : (most : Option ℕ) (test : ℕ → Bool) (b : Bool) → option_map_or (λ n. b && test n) most true ≡ true → IsSome most → b ≡ true
most_beside None test b e some = absurd (true≢false (sym some))
most_beside (Some n) test b e some = left b (test n) e

by_index_valid : (path : List ℕ) (counts : Counts) (limits : IndexLimits) → by_index_refusal path counts limits ≡ None
    → (is_by_index limits ≡ true → counts.mode ≡ Indexed) × (IsSome limits.max_failed → is_by_index limits ≡ true)
unfolding by_index_refusal
by_index_valid path counts limits e =
    let rows = parts _ _ e in (
      limit_indexed counts limits (kept _ 31 _ rows.0),
      most_beside limits.max_failed (λ n. nat_le n (completions_of counts)) (is_by_index limits) (kept _ 32 _ (parts _ _ rows.1).0),
    )

usual_fits : (by_index : Bool) → usual_backoff by_index ≤ GREATEST_LIMIT
usual_fits true = omega arith
usual_fits false = omega arith

-- what is kept of the head, and of the policies
record IsKeptHead (path : List ℕ) (spec : Data) : Type 0 where
  modes : indexed_row path (mode_in path spec) (completions_in path spec) ≡ None
  by_index : by_index_refusal path (counts_in path spec) (index_limits_in path spec) ≡ None

head_kept : (path : List ℕ) (spec : Data) → head_refusal path spec ≡ None → IsKeptHead path spec
unfolding head_refusal counts_refusal
head_kept path spec e =
    let managed = parts (managed_row path spec) _ e in
    let limits = parts (index_limits_refusal path spec) _ managed.1 in
    let counts = parts (counts_refusal path spec) _ limits.1 in
    let numbers = parts (numbers_refusal path spec) _ counts.0 in
    let mode = parts (given_text_row path spec (codes "completionMode") 5 is_mode) _ numbers.1 in
    record {
      modes = (parts (indexed_row path (mode_in path spec) (completions_in path spec)) None mode.1).0;
      by_index = (parts (by_index_refusal path (counts_in path spec) (index_limits_in path spec)) _ counts.1).0;
    }

record AreKeptPolicies (by_index : Bool) (counts : Counts) (template : Template) (path : List ℕ) (spec : Data) : Type 0 where
  failure : failure_refusal by_index template path spec ≡ None
  replacement : replacement_refusal (is_some (failure_in path spec)) path spec ≡ None
  success : success_refusal counts path spec ≡ None

policies_kept : (head : Head) (template : Template) (path : List ℕ) (spec : Data) → policies_refusal head template path spec ≡ None
    → AreKeptPolicies (is_by_index head.index_limits) head.counts template path spec
unfolding policies_refusal
policies_kept head template path spec e =
    let failure = parts (failure_refusal (is_by_index head.index_limits) template path spec) _ e in
    let replacement = parts (replacement_refusal (is_some (failure_in path spec)) path spec) _ failure.1 in
    record {
      failure = failure.0;
      replacement = replacement.0;
      success = (parts (success_refusal head.counts path spec) None replacement.1).0;
    }

spec_valid : (path : List ℕ) (spec : Data) → spec_refusal path spec ≡ None → IsValidSpec (spec_in path spec)
unfolding spec_refusal spec_in head_in policies_in counts_in index_limits_in limits_in parallelism_in completions_in success_in
spec_valid path spec e =
    let limits : IndexLimits = index_limits_in path spec in
    let rows = parts (head_refusal path spec) _ e in
    let later = parts (template_refusal (is_by_index limits) path spec) _ rows.1 in
    let last = parts (policies_refusal (head_in path spec) (template_in path spec) path spec) None later.1 in
    let head = head_kept path spec rows.0 in
    let policies = policies_kept (head_in path spec) (template_in path spec) path spec last.0 in
    let by_index = by_index_valid path (counts_in path spec) limits head.by_index in
    let template = template_valid (is_by_index limits) path spec later.0 in
    record {
      parallelism = or_fits _ 1 GREATEST_PARALLELISM (number_fits path spec (codes "parallelism") GREATEST_PARALLELISM) (omega arith);
      completions = completions_fit _ _ (number_fits path spec (codes "completions") GREATEST_COMPLETIONS);
      backoff_limit = or_fits _ (usual_backoff (is_by_index limits)) GREATEST_LIMIT (number_fits path spec (codes "backoffLimit") GREATEST_LIMIT) (usual_fits (is_by_index limits));
      deadline = number_fits path spec (codes "activeDeadlineSeconds") GREATEST_LIMIT;
      counts = policy_counted (completions_of (counts_in path spec)) (path_to path (codes "successPolicy")) (given_in path spec (codes "successPolicy"));
      some = template.some;
      few = template.few;
      distinct = template.distinct;
      indexed = indexed_valid path (mode_in path spec) (completions_in path spec) head.modes;
      failure = λ some. (
        failure_valid (is_by_index limits) (template_in path spec) path spec policies.failure some,
        replacement_valid (is_some (failure_in path spec)) path spec policies.replacement some,
      );
      success = success_valid (counts_in path spec) path spec policies.success;
      per_index = number_fits path spec (codes "backoffLimitPerIndex") GREATEST_LIMIT;
      max_failed = number_fits path spec (codes "maxFailedIndexes") GREATEST_COMPLETIONS;
      by_index = λ some. (by_index.0 some, template_by_index (is_by_index limits) path spec later.0 some);
      beside = by_index.1;
      fail_index = failure_fails_none limits.per_index (template_in path spec) path spec policies.failure;
    }

-- the specification of an accepted manifest is valid
pub accepted_is_valid : (path : List ℕ) (job : Data) → manifest_refusal path job ≡ None → IsValidSpec (spec_of path job)
unfolding manifest_refusal spec_part_refusal spec_of
accepted_is_valid path job e =
    let rows = parts (type_refusal path job) _ e in
    let later = parts (metadata_part_refusal path job) _ rows.1 in
    let spec = parts (spec_part_refusal path job) None later.1 in
    let inner = parts (object_row path job (codes "spec")) _ spec.0 in
    let last = parts (spec_refusal (path_to path (codes "spec")) (object_in path job (codes "spec"))) None inner.1 in
    spec_valid (path_to path (codes "spec")) (object_in path job (codes "spec")) last.0

-- the specification of an answer that reads a manifest is valid
pub answer_is_valid : (path : List ℕ) (job : Data) (answer : Result (Key × JobSpec) ManifestFault)
    → Reads (λ said. said) answer (manifest_refusal path job) (key_of path job, spec_of path job)
    → IfOk answer (λ said. IsValidSpec said.1)
answer_is_valid path job (Ok said) reads =
    subst (λ (spec : JobSpec). IsValidSpec spec) (sym (ap (λ (pair : Key × JobSpec). pair.1) reads.1)) (accepted_is_valid path job reads.0)
answer_is_valid path job (Err fault) reads = tt
