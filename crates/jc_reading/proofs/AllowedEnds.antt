-- The conditions and the ends that a line says are such as the formats allow.
use Rattle.std.proofs.Common.{◌≡◌, ℕ, ℤ, ◌+◌, pos, negsuc, ◌<◌, ◌≤◌, List, [], ◌∷◌, length, Bool, true, false, ◌&&◌, cond, codes, Option, Some, None, option_and_then, IfSome, Result, Ok, Err, nat_lt, nat_le, refl, sym, subst, arith}
use Rattle.std.proofs.Common.{true≢false, ltb-true, leb-true}
use Rattle.std.specs.List.{AllByRecursion as Each}
use Rattle.std.specs.Prelude.{⊤, IfOk, int_le, ok_or, unwrap_or}
use Rattle.std.proofs.lemmas.Bool.{and_parts}
use Rattle.serde_json.specs.Data.{Data}
use Rattle.serde_json.specs.Find.{as_integer, as_number}
use Rattle.jc_json.specs.Field.{◌>>=◌, bounded_number, item_object, member_of, missing, needed_list, needed_number, optional_list, out_of_range, within_bounds, wrong_type}
use Rattle.jc_json.specs.Place.{path_at, path_to}
use Rattle.jc_members.specs.declared.causes.Cause.{Cause}
use Rattle.jc_members.specs.declared.causes.Cause.TheVariants.{Invalid}
use Rattle.jc_members.specs.LineCauses.{read_as}
use Rattle.jc_members.specs.EndMembers.{end_members, end_said, end_said_at, ends_said, rightly_many}
use Rattle.jc_members.specs.Items.{each_said, then_each}
use Rattle.jc_members.specs.Members.{given_number_in, given_text_in, only_known, text_in}
use Rattle.jc_members.specs.Phases.{condition_at, condition_members, condition_of, condition_truth, conditions_in}
use Rattle.jc_members.proofs.Within.{IsUpTo, given_is_within, or_zero, using_first, whatever}
use Rattle.jc_manifest.specs.FailurePolicies.{is_type}
use Rattle.jc_types.specs.declared.actions.End.{End}
use Rattle.jc_types.specs.declared.limits.TheConstants.{GREATEST_LIMIT}
use Rattle.jc_types.specs.declared.policies.Pattern.{Pattern}
use Rattle.jc_reading.specs.Proper.{AreAllowedEnds, IsAllowedEnd, IsAllowedType, IsExit}
use Rattle.jc_reading.specs.Spelled.{IsSpelled}
use Rattle.jc_reading.proofs.SpelledMembers.{IsTestedText, given_text_tested, item_spelled, needed_list_spelled, optional_list_spelled, read_ok, text_tested}

-- ---- each of several

then_both : {A : Type 0} (P : A → Type 0) (n : ℕ) (first : Result A Cause) (rest : Result (List A) Cause) → IfOk first P → IfOk rest (λ xs. Each P xs × (length xs ≡ n))
    → IfOk (then_each first rest) (λ xs. Each P xs × (length xs ≡ n + 1))
then_both P n (Ok a) (Ok others) one all = let many = all.1 in ((one, all.0), omega (arith, many))
then_both P n (Ok a) (Err cause) one all = tt
then_both P n (Err cause) rest one all = tt

same_count : {A : Type 0} (P : A → Type 0) (m n : ℕ) (r : Result (List A) Cause) → m ≡ n → IfOk r (λ xs. Each P xs × (length xs ≡ m)) → IfOk r (λ xs. Each P xs × (length xs ≡ n))
same_count P m n r e h = subst (λ k. IfOk r (λ xs. Each P xs × (length xs ≡ k))) e h

-- Each item says something, and as many are said as there are.
pub each_allowed : {A : Type 0} (P : A → Type 0) (read : ℕ → Data → Result A Cause) (place : ℕ) (ds : List Data)
    → ((place : ℕ) (d : Data) → IsSpelled d → IfOk (read place d) P) → Each IsSpelled ds → IfOk (each_said read place ds) (λ xs. Each P xs × (length xs ≡ length ds))
each_allowed P read place [] right all = (tt, refl)
each_allowed P read place (d ∷ ds) right all =
    let next : length ds + 1 ≡ length (d ∷ ds) = omega arith in
    same_count P (length ds + 1) (length (d ∷ ds)) (then_each (read place d) (each_said read (place + 1) ds)) next
    (then_both P (length ds) (read place d) (each_said read (place + 1) ds) (right place d all.0) (each_allowed P read (place + 1) ds right all.1))

-- ---- conditions

abbrev pub IsAllowedCondition : Pattern → Type 0
IsAllowedCondition condition = IsAllowedType condition.kind

condition_allowed : (path : List ℕ) (d : Data) → IsSpelled d → IfOk (condition_of path d) IsAllowedCondition
unfolding condition_of
condition_allowed path d h =
    using_first IsAllowedCondition (IsTestedText is_type) (text_in path (codes "type") 30 is_type d) _ (text_tested path (codes "type") 30 is_type d h)
    (λ kind good. whatever IsAllowedCondition (condition_truth path d) _ (λ truth. good))

condition_at_allowed : (list : List ℕ) (place : ℕ) (d : Data) → IsSpelled d → IfOk (condition_at list place d) IsAllowedCondition
unfolding condition_at
condition_at_allowed list place d h =
    using_first IsAllowedCondition IsSpelled (read_as (item_object list place d)) _ (read_ok IsSpelled (item_object list place d) (item_spelled list place d h))
    (λ found spelled. whatever IsAllowedCondition (only_known (path_at list place) condition_members found) _ (λ known. condition_allowed (path_at list place) found spelled))

pub conditions_allowed : (d : Data) → IsSpelled d → IfOk (conditions_in d) (Each IsAllowedCondition)
unfolding conditions_in
conditions_allowed d h =
    using_first (Each IsAllowedCondition) (λ o. Each IsSpelled (unwrap_or o [])) (read_as (optional_list [] (codes "conditions") d)) _
    (read_ok (λ o. Each IsSpelled (unwrap_or o [])) (optional_list [] (codes "conditions") d) (optional_list_spelled [] (codes "conditions") d h))
    (λ o all. first_of_both (length (unwrap_or o [])) (each_said (condition_at (path_to [] (codes "conditions"))) 0 (unwrap_or o []))
    (each_allowed IsAllowedCondition (condition_at (path_to [] (codes "conditions"))) 0 (unwrap_or o []) (λ place d h. condition_at_allowed (path_to [] (codes "conditions")) place d h) all))
  where
    first_of_both : (n : ℕ) (r : Result (List Pattern) Cause) → IfOk r (λ xs. Each IsAllowedCondition xs × (length xs ≡ n)) → IfOk r (Each IsAllowedCondition)
    first_of_both n (Ok xs) h = h.0
    first_of_both n (Err cause) h = tt

-- ---- ends

exit_allowed : (path : List ℕ) (z : ℤ) (b : Bool) → (int_le (pos 0) z && int_le z (pos 255)) ≡ b → IfOk (read_as (cond b (Ok z) (Err (out_of_range path)))) IsExit
exit_allowed path (pos n) true e =
    let few = leb-true n 255 ((and_parts (nat_le 0 n) (nat_le n 255) e).1) in
    record { code = n; few = few; is = refl }
exit_allowed path (negsuc n) true e = absurd (true≢false (sym e))
exit_allowed path z false e = tt

exit_number : (path : List ℕ) (w : Option ℤ) → IfOk (read_as (ok_or w (wrong_type path) >>= within_bounds path (pos 0) (pos 255))) IsExit
exit_number path None = tt
exit_number path (Some z) = exit_allowed path z (int_le (pos 0) z && int_le z (pos 255)) refl

exit_member : (path : List ℕ) (o : Option Data) → IfOk (read_as (ok_or o (missing path) >>= bounded_number path (pos 0) (pos 255))) IsExit
exit_member path None = tt
exit_member path (Some d) = exit_number path (option_and_then as_integer (as_number d))

pub exit_is_allowed : (path name : List ℕ) (d : Data) → IfOk (read_as (needed_number path name (pos 0) (pos 255) d)) IsExit
unfolding needed_number
exit_is_allowed path name d = exit_member (path_to path name) (member_of name d)

type_of : (o : Option (List ℕ)) → IfSome o (IsTestedText is_type) → IfSome o IsAllowedType
type_of None h = tt
type_of (Some kind) h = h

end_allowed : (path : List ℕ) (d : Data) → IsSpelled d → IfOk (end_said path d) IsAllowedEnd
unfolding end_said
end_allowed path d h =
    using_first IsAllowedEnd IsExit (read_as (needed_number path (codes "exitCode") (pos 0) (pos 255) d)) _ (exit_is_allowed path (codes "exitCode") d)
    (λ exit first. using_first IsAllowedEnd (IsUpTo GREATEST_LIMIT) (given_number_in path (codes "restarts") 0 GREATEST_LIMIT d) _
    (given_is_within path (codes "restarts") 0 GREATEST_LIMIT d)
    (λ restarts second. using_first IsAllowedEnd (λ o. IfSome o (IsTestedText is_type)) (given_text_in path (codes "condition") 30 is_type d) _
    (given_text_tested path (codes "condition") 30 is_type d h)
    (λ condition third. record { exit = first; restarts = or_zero restarts GREATEST_LIMIT second; condition = type_of condition third })))

end_at_allowed : (list : List ℕ) (place : ℕ) (d : Data) → IsSpelled d → IfOk (end_said_at list place d) IsAllowedEnd
unfolding end_said_at
end_at_allowed list place d h =
    using_first IsAllowedEnd IsSpelled (read_as (item_object list place d)) _ (read_ok IsSpelled (item_object list place d) (item_spelled list place d h))
    (λ found spelled. whatever IsAllowedEnd (only_known (path_at list place) end_members found) _ (λ known. end_allowed (path_at list place) found spelled))

-- as many as there may be
abbrev fits : Result ⊤ Cause
fits = Ok tt

pub ends_allowed : (d : Data) → IsSpelled d → IfOk (ends_said d) AreAllowedEnds
unfolding ends_said rightly_many
ends_allowed d h =
    using_first AreAllowedEnds (Each IsSpelled) (read_as (needed_list [] (codes "ends") d)) _
    (read_ok (Each IsSpelled) (needed_list [] (codes "ends") d) (needed_list_spelled [] (codes "ends") d h))
    (λ items all. by items all (nat_lt 0 (length items)) (nat_le (length items) 100) refl refl)
  where
    path : List ℕ
    path = path_to [] (codes "ends")

    counted : (n : ℕ) (r : Result (List End) Cause) → 0 < n → n ≤ 100 → IfOk r (λ xs. Each IsAllowedEnd xs × (length xs ≡ n)) → IfOk r AreAllowedEnds
    counted n (Ok ends) some few h = let many = h.1 in record { each = h.0; some = omega (arith, many, some); few = omega (arith, many, few) }
    counted n (Err cause) some few h = tt

    by : (items : List Data) → Each IsSpelled items → (p q : Bool) → nat_lt 0 (length items) ≡ p → nat_le (length items) 100 ≡ q
        → IfOk (cond (p && q) fits (Err (Invalid path 30)) >>= λ many. each_said (end_said_at path) 0 items) AreAllowedEnds
    by items all true true i j =
        counted (length items) (each_said (end_said_at path) 0 items) (ltb-true 0 (length items) i) (leb-true (length items) 100 j)
        (each_allowed IsAllowedEnd (end_said_at path) 0 items (λ place d h. end_at_allowed path place d h) all)
    by items all true false i j = tt
    by items all false q i j = tt
