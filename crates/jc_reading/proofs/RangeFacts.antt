-- The numbers that a script says of a specification and of a pod are within their ranges; what is printed of a change, of a
-- report and of ends has whole numbers, and nests not deep.
use Rattle.std.proofs.Common.{◌≡◌, ℕ, ℤ, pos, negsuc, nat_abs, List, [], Bool, true, false, ◌&&◌, cond, codes, Option, Some, None, IfSome, Result, Ok, Err, refl, sym, subst, arith}
use Rattle.std.specs.Prelude.{IfOk, int_le, ok_or, option_map, option_and_then}
use Rattle.std.specs.List.{AllByRecursion as Each}
use Rattle.serde_json.specs.Data.{Data, string, boolean}
use Rattle.serde_json.specs.Find.{as_integer, as_number}
use Rattle.jc_json.specs.Field.{◌>>=◌, wrong_type, out_of_range, member_of, bounded_number, may_be, within_bounds, needed_object, optional_bool, optional_number}
use Rattle.jc_json.specs.Place.{path_to}
use Rattle.jc_print.specs.PrintedMembers.{number_data}
use Rattle.jc_print.specs.PrintedSpecs.{change_data, with_changed_counts, with_changed_limits}
use Rattle.jc_rows.specs.NameForms.{is_label}
use Rattle.jc_script.specs.LineCauses.{read_as}
use Rattle.jc_script.specs.Cause.{Cause}
use Rattle.jc_script.specs.Members.{given_number_in, only_known, tested}
use Rattle.jc_script.specs.Phases.{container_count, container_restarts, entry_in, exit_in}
use Rattle.jc_script.specs.Updates.{change_at, change_in, change_members, counts_of, limits_of}
use Rattle.jc_types.specs.declared.actions.ContainerChange.{ContainerChange}
use Rattle.jc_types.specs.declared.actions.End.{End}
use Rattle.jc_types.specs.declared.actions.PhaseChange.{PhaseChange}
use Rattle.jc_types.specs.declared.actions.SpecChange.{SpecChange}
use Rattle.jc_types.specs.declared.limits.TheConstants.{GREATEST_COMPLETIONS, GREATEST_LIMIT, GREATEST_PARALLELISM}
use Rattle.jc_types.specs.declared.policies.Pattern.{Pattern}
use Rattle.jc_script.proofs.Within.{IsUpTo, given_is_within, member_is_within, using_first, whatever}
use Rattle.jc_reading.specs.Allowed.{IsCode}
use Rattle.jc_lines.specs.ChangeTexts.{container_data, end_data, ends_data, exit_data, phase_change_data, pod_condition_data, with_container, with_exit_member}
use Rattle.jc_reading.specs.Proper.{IsAllowedChange, IsAllowedContainer, IsAllowedEnd, IsAllowedReport, IsExit}
use Rattle.jc_reading.proofs.ToldFacts.{IsToldWithin, always, any_given, code_told, each, given_told, leaf_bool, leaf_number, leaf_text, list_told, none_told, object_told, with_told}

-- ---- the change of a specification

counts_small : (path : List ℕ) (d : Data) → IfOk (counts_of path d) (λ counts. IsUpTo GREATEST_PARALLELISM counts.parallelism × IsUpTo GREATEST_COMPLETIONS counts.completions)
unfolding counts_of
counts_small path d =
    using_first _ (IsUpTo GREATEST_PARALLELISM) (given_number_in path (codes "parallelism") 0 GREATEST_PARALLELISM d) _
    (given_is_within path (codes "parallelism") 0 GREATEST_PARALLELISM d)
    (λ p first. using_first _ (IsUpTo GREATEST_COMPLETIONS) (given_number_in path (codes "completions") 0 GREATEST_COMPLETIONS d) _
    (given_is_within path (codes "completions") 0 GREATEST_COMPLETIONS d) (λ c second. (first, second)))

limits_small : (path : List ℕ) (d : Data) → IfOk (limits_of path d) (λ limits. IsUpTo GREATEST_LIMIT limits.deadline × IsUpTo GREATEST_LIMIT limits.backoff_limit)
unfolding limits_of
limits_small path d =
    using_first _ (IsUpTo GREATEST_LIMIT) (given_number_in path (codes "activeDeadlineSeconds") 0 GREATEST_LIMIT d) _
    (given_is_within path (codes "activeDeadlineSeconds") 0 GREATEST_LIMIT d)
    (λ s first. using_first _ (IsUpTo GREATEST_LIMIT) (given_number_in path (codes "backoffLimit") 0 GREATEST_LIMIT d) _
    (given_is_within path (codes "backoffLimit") 0 GREATEST_LIMIT d) (λ b second. (first, second)))

change_at_allowed : (path : List ℕ) (d : Data) → IfOk (change_at path d) IsAllowedChange
unfolding change_at
change_at_allowed path d =
    using_first IsAllowedChange _ (counts_of path d) _ (counts_small path d)
    (λ counts first. whatever IsAllowedChange (read_as (optional_bool path (codes "suspend") d)) _
    (λ suspend. using_first IsAllowedChange _ (limits_of path d) _ (limits_small path d)
    (λ limits second. record { parallelism = first.0; completions = first.1; deadline = second.0; backoff_limit = second.1 })))

pub change_allowed : (d : Data) → IfOk (change_in d) IsAllowedChange
unfolding change_in
change_allowed d =
    whatever IsAllowedChange (read_as (needed_object [] (codes "spec") d)) _
    (λ spec. whatever IsAllowedChange (only_known (path_to [] (codes "spec")) change_members spec) _
    (λ known. change_at_allowed (path_to [] (codes "spec")) spec))

pub change_told : (change : SpecChange) → IsAllowedChange change → IsToldWithin 2 (change_data change)
unfolding change_data with_changed_counts with_changed_limits
change_told change allowed =
    object_told 1 _
    (with_told 1 _ _ _ (any_given boolean 1 change.suspend (leaf_bool 1))
    (with_told 1 _ _ _ (given_told number_data 1 change.parallelism (λ n h. leaf_number 1 n (omega (arith, h))) allowed.parallelism)
    (with_told 1 _ _ _ (given_told number_data 1 change.completions (λ n h. leaf_number 1 n (omega (arith, h))) allowed.completions)
    (with_told 1 _ _ _ (given_told number_data 1 change.backoff_limit (λ n h. leaf_number 1 n (omega (arith, h))) allowed.backoff_limit)
    (with_told 1 _ _ _ (given_told number_data 1 change.deadline (λ n h. leaf_number 1 n (omega (arith, h))) allowed.deadline) (none_told 1))))))

-- ---- the report of a pod

abbrev pub IsExitCode : Option ℤ → Type 0
IsExitCode o = IfSome o IsCode

exit_whole : (path : List ℕ) (z : ℤ) (a b : Bool) → int_le (negsuc 2147483647) z ≡ a → int_le z (pos 2147483647) ≡ b
    → IfOk (read_as (cond (a && b) (Ok z) (Err (out_of_range path)) >>= (λ a. Ok (Some a)))) IsExitCode
exit_whole path z true true low high = record { least = low; greatest = high }
exit_whole path z true false low high = tt
exit_whole path z false b low high = tt

exit_number : (path : List ℕ) (w : Option ℤ)
    → IfOk (read_as ((ok_or w (wrong_type path) >>= within_bounds path (negsuc 2147483647) (pos 2147483647)) >>= (λ a. Ok (Some a)))) IsExitCode
exit_number path None = tt
exit_number path (Some z) = exit_whole path z (int_le (negsuc 2147483647) z) (int_le z (pos 2147483647)) refl refl

exit_member : (path : List ℕ) (o : Option Data) → IfOk (read_as (may_be (bounded_number path (negsuc 2147483647) (pos 2147483647)) o)) IsExitCode
exit_member path None = tt
exit_member path (Some d) = exit_number path (option_and_then as_integer (as_number d))

pub exit_is_code : (exits : Data) (name : List ℕ) → IfOk (exit_in exits name) IsExitCode
unfolding exit_in entry_in optional_number
exit_is_code exits name =
    let at = path_to [] (codes "exitCodes") in
    whatever IsExitCode (tested (path_to at name) 11 is_label name) _ (λ label. exit_member (path_to at name) (member_of name exits))

pub count_is_within : (restarts : Data) (name : List ℕ) → IfOk (container_count restarts name) (IsUpTo 2147483647)
unfolding container_count container_restarts entry_in optional_number
count_is_within restarts name = by (tested (path_to (path_to [] (codes "restartCounts")) name) 11 is_label name)
  where
    by : (t : Result (List ℕ) Cause)
        → IfOk ((t >>= λ label. read_as (may_be (bounded_number (path_to (path_to [] (codes "restartCounts")) name) (pos 0) (pos 2147483647)) (member_of name restarts)))
        >>= λ count. Ok (option_map nat_abs count)) (IsUpTo 2147483647)
    by (Ok label) = member_is_within (path_to (path_to [] (codes "restartCounts")) name) 0 2147483647 (member_of name restarts)
    by (Err cause) = tt

container_told : (change : ContainerChange) → IsAllowedContainer change → IsToldWithin 2 (container_data change)
unfolding container_data with_container with_exit_member
container_told change allowed =
    object_told 1 _
    (with_told 1 _ _ _ (given_told number_data 1 change.restarts (λ n h. leaf_number 1 n (omega (arith, h))) allowed.restarts)
    (with_told 1 _ _ _ (leaf_text 1 _)
    (with_told 1 _ _ _ (given_told exit_data 1 change.exit (code_told 1) allowed.exit) (none_told 1))))

condition_told : (condition : Pattern) → IsToldWithin 2 (pod_condition_data condition)
unfolding pod_condition_data
condition_told condition = object_told 1 _ (with_told 1 _ _ _ (leaf_text 1 _) (with_told 1 _ _ _ (leaf_text 1 _) (none_told 1)))

pub report_told : (change : PhaseChange) → IsAllowedReport change → IsToldWithin 4 (phase_change_data change)
unfolding phase_change_data
report_told change allowed =
    object_told 3 _
    (with_told 3 _ _ _ (leaf_text 3 _)
    (with_told 3 _ _ _ (list_told container_data 2 change.containers (each container_told change.containers allowed.containers))
    (with_told 3 _ _ _ (list_told pod_condition_data 2 change.conditions (always condition_told change.conditions)) (none_told 3))))

-- ---- ends of pods

exit_told : (exit : ℤ) → IsExit exit → IsToldWithin 1 (exit_data exit)
exit_told exit is = let few = is.few in subst (λ z. IsToldWithin 1 (exit_data z)) (sym is.is) (record { told = omega (arith, few); deep = omega arith })

end_told : (end : End) → IsAllowedEnd end → IsToldWithin 2 (end_data end)
unfolding end_data
end_told end allowed =
    let few = allowed.restarts in
    object_told 1 _
    (with_told 1 _ _ _ (leaf_number 1 end.restarts (omega (arith, few)))
    (with_told 1 _ _ _ (exit_told end.exit allowed.exit)
    (with_told 1 _ _ _ (any_given string 1 end.condition (leaf_text 1)) (none_told 1))))

pub ends_told : (ends : List End) → Each IsAllowedEnd ends → IsToldWithin 3 (ends_data ends)
unfolding ends_data
ends_told ends allowed = list_told end_data 2 ends (each end_told ends allowed)
