-- What a line reports of a pod is such as the formats allow.
use Rattle.std.proofs.Common.{◌≡◌, ℕ, ℤ, pos, negsuc, nat_abs, List, [], ◌∷◌, Bool, true, false, ◌||◌, cond, codes, Option, Some, None, option_map, is_some, Result, Ok, Err, Ordering, Less, Equal, Greater, nat_cmp, refl, sym, ap₂, ◌∙◌, subst}
use Rattle.std.specs.Cmp.Lexicographic.{slice_cmp}
use Rattle.std.specs.List.{AllByRecursion as Each}
use Rattle.std.specs.Ordering.{match_ordering}
use Rattle.std.specs.Prelude.{IfOk, unwrap_or}
use Rattle.std.proofs.lemmas.Bool.{or_left, or_right}
use Rattle.serde_json.specs.Data.{Data, null, boolean, number, string, array, object, Members, no_members, member, put}
use Rattle.jc_json.specs.Field.{Refusal, ◌>>=◌, bounded_number, may_be, member_of, optional_number, optional_object, unless_null}
use Rattle.jc_json.specs.Place.{path_to}
use Rattle.jc_members.specs.declared.causes.Cause.{Cause}
use Rattle.jc_members.specs.declared.causes.Cause.TheVariants.{Invalid}
use Rattle.jc_members.specs.LineCauses.{read_as}
use Rattle.jc_members.specs.Items.{all_said, then_each}
use Rattle.jc_members.specs.Members.{word_in}
use Rattle.jc_members.specs.Phases.{conditions_in, container_change, container_count, container_numbers, container_restarts, containers_in, entries_fit, entry_in, exit_in, given_names, member_names, names_in_either, phase_of, put_names, report_in}
use Rattle.jc_members.proofs.Within.{IsUpTo, using_first, whatever}
use Rattle.jc_rows.specs.NameForms.{is_label}
use Rattle.jc_types.specs.declared.actions.ContainerChange.{ContainerChange}
use Rattle.jc_reading.specs.Proper.{AreAscending, IsAllowedContainer, IsAllowedReport}
use Rattle.jc_reading.specs.Spelled.{HasSpelled, IsSpelled}
use Rattle.jc_reading.proofs.ReportAgain.{names_in_change}
use Rattle.jc_reading.proofs.AllowedEnds.{IsAllowedCondition, conditions_allowed}
use Rattle.jc_reading.proofs.SpelledMembers.{optional_object_spelled, read_ok}
use Rattle.jc_reading.proofs.RisingFacts.{IsInOrder, either_rise, given_found}
use Rattle.jc_reading.proofs.RangeFacts.{IsExitCode, count_is_within, exit_is_code}
use Rattle.jc_reading.proofs.ToldFacts.{each}

-- ---- the members of a spelled object are in order

in_order : (ms : Members) → HasSpelled ms → IsInOrder ms
in_order no_members h = tt
in_order (member k d ms) h = (h.2, in_order ms h.3)

-- the object, or null, that was read
abbrev IsNumbers : Data → Type 0
IsNumbers d = Each (λ k. is_some (member_of k d) ≡ true) (member_names d)

numbers_found : (d : Data) → IsSpelled d → IsNumbers d
unfolding member_names
numbers_found null h = tt
numbers_found (boolean b) h = tt
numbers_found (number n) h = tt
numbers_found (string s) h = tt
numbers_found (array ds) h = tt
numbers_found (object ms) h = given_found ms (in_order ms h)

numbers_allowed : (name : List ℕ) (least greatest : ℤ) (d : Data) → IsSpelled d → IfOk (container_numbers name least greatest d) IsNumbers
unfolding container_numbers
numbers_allowed name least greatest d h =
    using_first IsNumbers (λ o. IsSpelled (unwrap_or o null)) (read_as (optional_object [] name d)) _
    (read_ok (λ o. IsSpelled (unwrap_or o null)) (optional_object [] name d) (optional_object_spelled [] name d h))
    (λ o spelled. whatever IsNumbers (entries_fit (path_to [] name) least greatest (unwrap_or o null) (member_names (unwrap_or o null))) _
    (λ fit. numbers_found (unwrap_or o null) spelled))

-- ---- each name is of the one object or of the other

module _ (P : List ℕ → Type 0) where
  abbrev NamesHave : Members → Type 0
  NamesHave no_members = Unit {0}
  NamesHave (member k d ms) = P k × NamesHave ms

  put_has : (k : List ℕ) (d : Data) (ms : Members) → P k → NamesHave ms → NamesHave (put k d ms)
  put_has k d no_members one all = (one, tt)
  put_has k d (member l e ms) one all = by (put_has k d ms one all.1) (slice_cmp nat_cmp k l)
    where
      by : NamesHave (put k d ms) → (o : Ordering) → NamesHave (match_ordering o (member k d (member l e ms)) (member l d ms) (member l e (put k d ms)))
      by rest Less = (one, all)
      by rest Equal = (all.0, all.1)
      by rest Greater = (all.0, rest)

  puts_have : (names : List (List ℕ)) (ms : Members) → Each P names → NamesHave ms → NamesHave (put_names names ms)
  puts_have [] ms one all = all
  puts_have (k ∷ names) ms one all = puts_have names (put k (boolean true) ms) one.1 (put_has k (boolean true) ms one.0 all)

  given_have : (ms : Members) → NamesHave ms → Each P (given_names ms)
  given_have no_members all = tt
  given_have (member k d ms) all = by (given_have ms all.1) (is_some (unless_null d))
    where
      by : Each P (given_names ms) → (b : Bool) → Each P (cond b (k ∷ given_names ms) (given_names ms))
      by rest true = (all.0, rest)
      by rest false = rest

  either_have : (exits restarts : Data) → Each P (member_names exits) → Each P (member_names restarts) → Each P (names_in_either exits restarts)
  unfolding member_names
  either_have exits restarts first second =
      given_have (put_names (member_names restarts) (put_names (member_names exits) no_members))
      (puts_have (member_names restarts) (put_names (member_names exits) no_members) second (puts_have (member_names exits) no_members first tt))

abbrev IsInEither : Data → Data → List ℕ → Type 0
IsInEither exits restarts k = (is_some (member_of k exits) || is_some (member_of k restarts)) ≡ true

names_allowed : (exits restarts : Data) → IsNumbers exits → IsNumbers restarts → Each (IsInEither exits restarts) (names_in_either exits restarts)
names_allowed exits restarts first second =
    either_have (IsInEither exits restarts) exits restarts
    (each (λ k e. or_left (is_some (member_of k exits)) (is_some (member_of k restarts)) e) (member_names exits) first)
    (each (λ k e. or_right (is_some (member_of k exits)) (is_some (member_of k restarts)) e) (member_names restarts) second)

-- ---- one container

-- Of a name with such a member a number is said.
abbrev SaysSome : Option Data → Option ℤ → Type 0
SaysSome found o = is_some found ≡ is_some o

number_some : (path : List ℕ) (least greatest : ℤ) (found : Option Data) → IfOk (read_as (may_be (bounded_number path least greatest) found)) (SaysSome found)
number_some path least greatest None = refl
number_some path least greatest (Some d) = by (bounded_number path least greatest d)
  where
    by : (r : Result ℤ Refusal) → IfOk (read_as (r >>= λ a. Ok (Some a))) (SaysSome (Some d))
    by (Ok z) = refl
    by (Err refusal) = tt

-- The name is a label, and a number is said where its member is there.
record IsEntry (name : List ℕ) (numbers : Data) (o : Option ℤ) : Type 0 where
  label : is_label name ≡ true
  some : is_some (member_of name numbers) ≡ is_some o

entry_allowed : (path : List ℕ) (least greatest : ℤ) (numbers : Data) (name : List ℕ) → IfOk (entry_in path least greatest numbers name) (IsEntry name numbers)
unfolding entry_in optional_number
entry_allowed path least greatest numbers name = by (is_label name) refl
  where
    at : List ℕ
    at = path_to path name

    number : is_label name ≡ true → (r : Result (Option ℤ) Cause) → IfOk r (SaysSome (member_of name numbers)) → IfOk r (IsEntry name numbers)
    number e (Ok o) h = record { label = e; some = h }
    number e (Err cause) h = tt

    by : (b : Bool) → is_label name ≡ b
        → IfOk (cond b (Ok name) (Err (Invalid at 11)) >>= λ label. read_as (may_be (bounded_number at least greatest) (member_of name numbers))) (IsEntry name numbers)
    by true e = number e (read_as (may_be (bounded_number at least greatest) (member_of name numbers))) (number_some at least greatest (member_of name numbers))
    by false e = tt

record IsCounted (name : List ℕ) (numbers : Data) (o : Option ℕ) : Type 0 where
  some : is_some (member_of name numbers) ≡ is_some o

count_allowed : (restarts : Data) (name : List ℕ) → IfOk (container_count restarts name) (IsCounted name restarts)
unfolding container_count container_restarts
count_allowed restarts name =
    using_first (IsCounted name restarts) (IsEntry name restarts) (entry_in (path_to [] (codes "restartCounts")) (pos 0) (pos 2147483647) restarts name) _
    (entry_allowed (path_to [] (codes "restartCounts")) (pos 0) (pos 2147483647) restarts name)
    (λ o h. record { some = h.some ∙ by o })
  where
    by : (o : Option ℤ) → is_some o ≡ is_some (option_map nat_abs o)
    by None = refl
    by (Some z) = refl

-- ---- of the container with such a name

record IsSaidContainer (name : List ℕ) (change : ContainerChange) : Type 0 where
  is : change.name ≡ name
  right : IsAllowedContainer change

pub both_ok : {A E : Type 0} (P Q : A → Type 0) (r : Result A E) → IfOk r P → IfOk r Q → IfOk r (λ a. P a × Q a)
both_ok P Q (Ok a) h g = (h, g)
both_ok P Q (Err e) h g = tt

container_allowed : (exits restarts : Data) (name : List ℕ) → IsInEither exits restarts name → IfOk (container_change exits restarts name) (IsSaidContainer name)
unfolding container_change exit_in
container_allowed exits restarts name either =
    let at : List ℕ = path_to [] (codes "exitCodes") in
    using_first (IsSaidContainer name) (λ o. IsExitCode o × IsEntry name exits o) (entry_in at (negsuc 2147483647) (pos 2147483647) exits name) _
    (both_ok IsExitCode (IsEntry name exits) (entry_in at (negsuc 2147483647) (pos 2147483647) exits name) (exit_is_code exits name)
    (entry_allowed at (negsuc 2147483647) (pos 2147483647) exits name))
    (λ exit first. using_first (IsSaidContainer name) (λ o. IsUpTo 2147483647 o × IsCounted name restarts o) (container_count restarts name) _
    (both_ok (IsUpTo 2147483647) (IsCounted name restarts) (container_count restarts name) (count_is_within restarts name) (count_allowed restarts name))
    (λ count second. record {
      is = refl;
      right = record {
        name = first.1.label;
        exit = first.0;
        restarts = second.0;
        some = ap₂ (λ a b. a || b) (sym first.1.some) (sym second.1.some) ∙ either;
      };
    }))

-- ---- all containers

abbrev AreOf : List (List ℕ) → List ContainerChange → Type 0
AreOf names changes = (names_in_change changes ≡ names) × Each IsAllowedContainer changes

then_of : (name : List ℕ) (names : List (List ℕ)) (first : Result ContainerChange Cause) (rest : Result (List ContainerChange) Cause) → IfOk first (IsSaidContainer name) → IfOk rest (AreOf names)
    → IfOk (then_each first rest) (AreOf (name ∷ names))
then_of name names (Ok change) (Ok changes) one all = (ap₂ (λ k ks. k ∷ ks) one.is all.0, (one.right, all.1))
then_of name names (Ok change) (Err cause) one all = tt
then_of name names (Err cause) rest one all = tt

all_allowed : (exits restarts : Data) (names : List (List ℕ)) → Each (IsInEither exits restarts) names → IfOk (all_said (container_change exits restarts) names) (AreOf names)
all_allowed exits restarts [] all = (refl, tt)
all_allowed exits restarts (name ∷ names) all =
    then_of name names (container_change exits restarts name) (all_said (container_change exits restarts) names)
    (container_allowed exits restarts name all.0) (all_allowed exits restarts names all.1)

abbrev AreAllowed : List ContainerChange → Type 0
AreAllowed changes = AreAscending (names_in_change changes) × Each IsAllowedContainer changes

risen : (names : List (List ℕ)) (r : Result (List ContainerChange) Cause) → AreAscending names → IfOk r (AreOf names) → IfOk r AreAllowed
risen names (Ok changes) rising all = (subst AreAscending (sym all.0) rising, all.1)
risen names (Err cause) rising all = tt

containers_allowed : (d : Data) → IsSpelled d → IfOk (containers_in d) AreAllowed
unfolding containers_in
containers_allowed d h =
    using_first AreAllowed IsNumbers (container_numbers (codes "exitCodes") (negsuc 2147483647) (pos 2147483647) d) _
    (numbers_allowed (codes "exitCodes") (negsuc 2147483647) (pos 2147483647) d h)
    (λ exits first. using_first AreAllowed IsNumbers (container_numbers (codes "restartCounts") (pos 0) (pos 2147483647) d) _
    (numbers_allowed (codes "restartCounts") (pos 0) (pos 2147483647) d h)
    (λ restarts second. risen (names_in_either exits restarts) (all_said (container_change exits restarts) (names_in_either exits restarts)) (either_rise exits restarts)
    (all_allowed exits restarts (names_in_either exits restarts) (names_allowed exits restarts first second))))

-- ---- the whole report

pub report_allowed : (d : Data) → IsSpelled d → IfOk (report_in d) IsAllowedReport
unfolding report_in
report_allowed d h =
    whatever IsAllowedReport (word_in [] (codes "phase") phase_of d) _
    (λ phase. using_first IsAllowedReport AreAllowed (containers_in d) _ (containers_allowed d h)
    (λ containers first. using_first IsAllowedReport (Each IsAllowedCondition) (conditions_in d) _ (conditions_allowed d h)
    (λ conditions second. record { rising = first.0; containers = first.1; conditions = each (λ condition allowed. allowed) conditions second })))
