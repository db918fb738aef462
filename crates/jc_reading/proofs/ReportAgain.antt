-- A printed report of a pod is read back.
use Rattle.std.proofs.Common.{◌≡◌, ℕ, ℤ, pos, negsuc, nat_abs, ◌≤◌, List, [], ◌∷◌, map, true, ◌&&◌, ◌||◌, cond, codes, Option, Some, None, option_map, option_and_then, is_some, IfSome, Result, Ok, Err, refl, sym, ap, ap₂, ◌∙◌, subst}
use Rattle.std.specs.List.{AllByRecursion as Each}
use Rattle.std.specs.Option.{option_or}
use Rattle.std.specs.Prelude.{int_le, ok_or, unwrap_or}
use Rattle.serde_json.specs.Data.{Data, null, string, object, no_items, Members, no_members, put}
use Rattle.serde_json.specs.Find.{as_array, as_str, get}
use Rattle.serde_json.specs.View.{items_of}
use Rattle.jc_json.specs.Field.{◌>>=◌, bounded_number, item_object, may_be, member_of, object_of, optional_number, optional_object, out_of_range, unless_null}
use Rattle.jc_json.specs.Place.{path_at, path_to}
use Rattle.jc_json.proofs.Items.{items_listed as listed}
use Rattle.jc_lines.specs.ChangeTexts.{container_data, exit_data, phase_change_data, pod_condition_data, with_container, with_exit_member}
use Rattle.jc_lines.specs.ReportWords.{phase_word}
use Rattle.jc_members.specs.declared.causes.Cause.{Cause}
use Rattle.jc_members.specs.declared.causes.Cause.TheVariants.{Invalid}
use Rattle.jc_members.specs.LineCauses.{read_as}
use Rattle.jc_members.specs.Items.{all_said, each_said, then_each, with_front}
use Rattle.jc_members.specs.Members.{tested, text_in, word_in}
use Rattle.jc_members.specs.Phases.{condition_at, condition_members, condition_of, condition_truth, conditions_in, container_change, container_count, container_numbers, container_restarts, containers_in, entries_fit, entry_in, exit_in}
use Rattle.jc_members.specs.Phases.{given_names, member_names, names_in_either, phase_of, report_in, truth_said}
use Rattle.jc_manifest.specs.FailurePolicies.{is_type, truth_of}
use Rattle.jc_print.specs.PrintedMembers.{list_data, number_data, put_given, with_json_member}
use Rattle.jc_print.specs.PrintedSpecs.{truth_word}
use Rattle.jc_rows.specs.NameForms.{is_label}
use Rattle.jc_types.specs.declared.actions.ContainerChange.{ContainerChange}
use Rattle.jc_types.specs.declared.actions.PhaseChange.{PhaseChange}
use Rattle.jc_types.specs.declared.objects.Phase.{Phase}
use Rattle.jc_types.specs.declared.objects.Phase.TheVariants.{Pending, Running, Succeeded, Failed}
use Rattle.jc_types.specs.declared.policies.Pattern.{Pattern}
use Rattle.jc_types.specs.declared.policies.Truth.{Truth}
use Rattle.jc_types.specs.declared.policies.Truth.TheVariants.{True, False, Unknown}
use Rattle.jc_reading.specs.Allowed.{IsCode}
use Rattle.jc_reading.specs.Proper.{AreAscending, IsAllowedContainer, IsAllowedReport, IsAllowedType}
use Rattle.jc_reading.specs.Turned.{numbers_by_name, put_named, report_of, with_numbers}
use Rattle.jc_reading.proofs.AgainHead.{given_number, given_text}
use Rattle.jc_reading.proofs.AgainTemplate.{list_given, text_needed}
use Rattle.jc_reading.proofs.EndsAgain.{each_again}
use Rattle.jc_reading.proofs.Found.{get_found, member_found, puts}
use Rattle.jc_reading.proofs.MemberFacts.{rows_known}
use Rattle.jc_reading.proofs.NamedFacts.{AreFound, AreWhole, HaveSome, Pairs, Rows, built, built_found, built_names, either_again, first_rise, firsts, given_in, keys, name_if, put_all, put_built, second_rise, seconds}

-- ---- what is reported, under the names of the containers

abbrev pub pair_of : ContainerChange → List ℕ × Option Data × Option Data
pair_of change = (change.name, option_map exit_data change.exit, option_map number_data change.restarts)

abbrev pub pairs_of : List ContainerChange → Pairs
pairs_of changes = map pair_of changes

-- the names of the containers
abbrev pub names_in_change : List ContainerChange → List (List ℕ)
names_in_change changes = map (λ (change : ContainerChange). change.name) changes

pub same_names : (changes : List ContainerChange) → names_in_change changes ≡ keys (pairs_of changes)
same_names [] = refl
same_names (change ∷ changes) = ap (λ names. change.name ∷ names) (same_names changes)

-- ---- the phase

word_again : (name : List ℕ) (d : Data) (phase : Phase) → member_of name d ≡ Some (string (phase_word phase)) → word_in [] name phase_of d ≡ Ok phase
unfolding word_in
word_again name d phase is =
    ap (λ r. read_as r >>= λ s. ok_or (phase_of s) (Invalid (path_to [] name) 29)) (text_needed [] name d (phase_word phase) is) ∙ by phase
  where
    by : (phase : Phase) → ok_or (phase_of (phase_word phase)) (Invalid (path_to [] name) 29) ≡ Ok phase
    by Pending = refl
    by Running = refl
    by Succeeded = refl
    by Failed = refl

-- ---- conditions

module _ (condition : Pattern) where
  abbrev condition_rows : Rows
  condition_rows = (codes "type", Some (string condition.kind)) ∷ (codes "status", Some (string (truth_word condition.truth))) ∷ []

  abbrev made_condition : Data
  made_condition = object (puts condition_rows)

  condition_puts : pod_condition_data condition ≡ made_condition
  unfolding pod_condition_data with_json_member
  condition_puts = refl

  kind_again : (path : List ℕ) → is_type condition.kind ≡ true → text_in path (codes "type") 30 is_type made_condition ≡ Ok condition.kind
  unfolding text_in
  kind_again path good =
      ap (λ r. read_as r >>= tested (path_to path (codes "type")) 30 is_type) (text_needed path (codes "type") made_condition condition.kind (member_found (codes "type") condition_rows))
      ∙ ap (λ b. cond b (Ok condition.kind) (Err (Invalid (path_to path (codes "type")) 30))) good

  truth_again : (path : List ℕ) → condition_truth path made_condition ≡ Ok condition.truth
  unfolding condition_truth
  truth_again path =
      ap (λ r. read_as r >>= truth_said (path_to path (codes "status")))
      (given_text path (codes "status") made_condition (truth_word condition.truth) (member_found (codes "status") condition_rows))
      ∙ by condition.truth
    where
      by : (truth : Truth) → ok_or (truth_of (truth_word truth)) (Invalid (path_to path (codes "status")) 29) ≡ Ok truth
      by True = refl
      by False = refl
      by Unknown = refl

  of_again : (path : List ℕ) → is_type condition.kind ≡ true → condition_of path made_condition ≡ Ok condition
  unfolding condition_of
  of_again path good =
      ap (λ r. r >>= λ kind. condition_truth path made_condition >>= λ truth. Ok (record { kind = kind; truth = truth })) (kind_again path good)
      ∙ ap (λ r. r >>= λ truth. Ok (record { kind = condition.kind; truth = truth })) (truth_again path)

  condition_again : (list : List ℕ) (place : ℕ) → is_type condition.kind ≡ true → condition_at list place (pod_condition_data condition) ≡ Ok condition
  unfolding condition_at item_object
  condition_again list place good =
      ap (condition_at list place) condition_puts
      ∙ ap (λ r. r >>= λ known. condition_of (path_at list place) made_condition) (rows_known (path_at list place) condition_members condition_rows refl)
      ∙ of_again (path_at list place) good

conditions_again : (d : Data) (conditions : List Pattern) → member_of (codes "conditions") d ≡ Some (list_data (map pod_condition_data conditions))
    → Each (λ (condition : Pattern). IsAllowedType condition.kind) conditions → conditions_in d ≡ Ok conditions
unfolding conditions_in
conditions_again d conditions is good =
    let path : List ℕ = path_to [] (codes "conditions") in
    ap (λ r. read_as r >>= λ o. each_said (condition_at path) 0 (unwrap_or o []))
    (list_given [] (codes "conditions") d (items_of (map pod_condition_data conditions)) is ∙ ap (λ ds. Ok (Some ds)) (listed (map pod_condition_data conditions)))
    ∙ each_again (condition_at path) pod_condition_data (λ condition. IsAllowedType condition.kind) (λ place condition good. condition_again condition path place good.0) 0 conditions good

-- ---- containers

-- what stands in the printed container
module _ (change : ContainerChange) where
  abbrev container_rows : Rows
  container_rows =
      (codes "restartCount", option_map number_data change.restarts) ∷ (codes "name", Some (string change.name))
      ∷ (codes "exitCode", option_map exit_data change.exit) ∷ []

  container_puts : container_data change ≡ object (puts container_rows)
  unfolding container_data with_container with_exit_member with_json_member
  container_puts = refl

  or_none : {X : Type 0} (f : X → Data) (o : Option X) → option_or (option_map f o) None ≡ option_map f o
  or_none f None = refl
  or_none f (Some x) = refl

  name_there : option_and_then as_str (get (codes "name") (container_data change)) ≡ Some change.name
  name_there = ap (λ d. option_and_then as_str (get (codes "name") d)) container_puts ∙ ap (option_and_then as_str) (get_found (codes "name") container_rows)

  exit_there : get (codes "exitCode") (container_data change) ≡ option_map exit_data change.exit
  exit_there = ap (get (codes "exitCode")) container_puts ∙ get_found (codes "exitCode") container_rows ∙ or_none exit_data change.exit

  restarts_there : get (codes "restartCount") (container_data change) ≡ option_map number_data change.restarts
  restarts_there = ap (get (codes "restartCount")) container_puts ∙ get_found (codes "restartCount") container_rows ∙ or_none number_data change.restarts

named_puts : (name : List ℕ) (o : Option Data) (ms : Members) → put_named (Some name) o ms ≡ put_given name o ms
named_puts name None ms = refl
named_puts name (Some d) ms = refl

exits_put : (changes : List ContainerChange) (ms : Members) → numbers_by_name (codes "exitCode") (items_of (map container_data changes)) ms ≡ put_all (firsts (pairs_of changes)) ms
exits_put [] ms = refl
exits_put (change ∷ changes) ms =
    ap₂ (λ n o. numbers_by_name (codes "exitCode") (items_of (map container_data changes)) (put_named n o ms)) (name_there change) (exit_there change)
    ∙ ap (numbers_by_name (codes "exitCode") (items_of (map container_data changes))) (named_puts change.name (option_map exit_data change.exit) ms)
    ∙ exits_put changes (put_given change.name (option_map exit_data change.exit) ms)

restarts_put : (changes : List ContainerChange) (ms : Members) → numbers_by_name (codes "restartCount") (items_of (map container_data changes)) ms ≡ put_all (seconds (pairs_of changes)) ms
restarts_put [] ms = refl
restarts_put (change ∷ changes) ms =
    ap₂ (λ n o. numbers_by_name (codes "restartCount") (items_of (map container_data changes)) (put_named n o ms)) (name_there change) (restarts_there change)
    ∙ ap (numbers_by_name (codes "restartCount") (items_of (map container_data changes))) (named_puts change.name (option_map number_data change.restarts) ms)
    ∙ restarts_put changes (put_given change.name (option_map number_data change.restarts) ms)

-- the numbers, each under its name
abbrev exits_of : List ContainerChange → Data
exits_of changes = object (built (firsts (pairs_of changes)))

abbrev restarts_of : List ContainerChange → Data
restarts_of changes = object (built (seconds (pairs_of changes)))

exits_whole : (changes : List ContainerChange) → AreWhole (firsts (pairs_of changes))
exits_whole [] = tt
exits_whole (change ∷ changes) = (by change.exit, exits_whole changes)
  where
    by : (o : Option ℤ) → option_and_then unless_null (option_map exit_data o) ≡ option_map exit_data o
    by None = refl
    by (Some z) = refl

restarts_whole : (changes : List ContainerChange) → AreWhole (seconds (pairs_of changes))
restarts_whole [] = tt
restarts_whole (change ∷ changes) = (by change.restarts, restarts_whole changes)
  where
    by : (o : Option ℕ) → option_and_then unless_null (option_map number_data o) ≡ option_map number_data o
    by None = refl
    by (Some n) = refl

-- ---- one number

bounded_code : (path : List ℕ) (z : ℤ) → IsCode z → bounded_number path (negsuc 2147483647) (pos 2147483647) (exit_data z) ≡ Ok z
bounded_code path (pos n) code =
    let fits : int_le (pos n) (pos 2147483647) ≡ true = code.greatest in
    ap (λ b. cond b (Ok (pos n)) (Err (out_of_range path))) fits
bounded_code path (negsuc n) code =
    let fits : int_le (negsuc 2147483647) (negsuc n) ≡ true = code.least in
    ap (λ b. cond (b && true) (Ok (negsuc n)) (Err (out_of_range path))) fits

exit_entry : (exits : Data) (name : List ℕ) (o : Option ℤ) → is_label name ≡ true → member_of name exits ≡ option_map exit_data o → IfSome o IsCode
    → entry_in (path_to [] (codes "exitCodes")) (negsuc 2147483647) (pos 2147483647) exits name ≡ Ok o
unfolding entry_in optional_number
exit_entry exits name o label is code =
    let at : List ℕ = path_to (path_to [] (codes "exitCodes")) name in
    ap (λ b. cond b (Ok name) (Err (Invalid at 11)) >>= λ label. read_as (may_be (bounded_number at (negsuc 2147483647) (pos 2147483647)) (member_of name exits))) label
    ∙ ap (λ m. read_as (may_be (bounded_number at (negsuc 2147483647) (pos 2147483647)) m)) is ∙ by at o code
  where
    by : (at : List ℕ) (o : Option ℤ) → IfSome o IsCode → read_as (may_be (bounded_number at (negsuc 2147483647) (pos 2147483647)) (option_map exit_data o)) ≡ Ok o
    by at None code = refl
    by at (Some z) code = ap (λ r. read_as (r >>= λ a. Ok (Some a))) (bounded_code at z code)

count_entry : (restarts : Data) (name : List ℕ) (o : Option ℕ) → is_label name ≡ true → member_of name restarts ≡ option_map number_data o → IfSome o (λ n. n ≤ 2147483647)
    → entry_in (path_to [] (codes "restartCounts")) (pos 0) (pos 2147483647) restarts name ≡ Ok (option_map pos o)
unfolding entry_in
count_entry restarts name o label is few =
    let path : List ℕ = path_to [] (codes "restartCounts") in
    ap (λ b. cond b (Ok name) (Err (Invalid (path_to path name) 11)) >>= λ label. read_as (optional_number path name (pos 0) (pos 2147483647) restarts)) label
    ∙ ap read_as (given_number path name restarts o 2147483647 is few)

-- ---- each container

abbrev counted : Result (Option ℤ) Cause → Result (Option ℕ) Cause
counted r = r >>= λ count. Ok (option_map nat_abs count)

module _ (exits restarts : Data) where
  abbrev HasExit : ContainerChange → Type 0
  HasExit change = member_of change.name exits ≡ option_map exit_data change.exit

  abbrev HasCount : ContainerChange → Type 0
  HasCount change = member_of change.name restarts ≡ option_map number_data change.restarts

  count_again : (change : ContainerChange) → IsAllowedContainer change → HasCount change → container_count restarts change.name ≡ Ok change.restarts
  unfolding container_count container_restarts
  count_again change allowed is =
      ap counted (count_entry restarts change.name change.restarts allowed.name is allowed.restarts) ∙ by change.restarts
    where
      by : (o : Option ℕ) → counted (Ok (option_map pos o)) ≡ Ok o
      by None = refl
      by (Some n) = refl

  container_again : (change : ContainerChange) → IsAllowedContainer change → HasExit change → HasCount change → container_change exits restarts change.name ≡ Ok change
  unfolding container_change exit_in
  container_again change allowed exit count =
      ap (λ r. r >>= λ exit. container_count restarts change.name >>= λ count. Ok (record { name = change.name; exit = exit; restarts = count }))
      (exit_entry exits change.name change.exit allowed.name exit allowed.exit)
      ∙ ap (λ r. r >>= λ count. Ok (record { name = change.name; exit = change.exit; restarts = count })) (count_again change allowed count)

  all_again : (changes : List ContainerChange) → Each IsAllowedContainer changes → Each HasExit changes → Each HasCount changes
      → all_said (container_change exits restarts) (keys (pairs_of changes)) ≡ Ok changes
  all_again [] allowed exit count = refl
  all_again (change ∷ changes) allowed exit count =
      ap (λ r. then_each r (all_said (container_change exits restarts) (keys (pairs_of changes)))) (container_again change allowed.0 exit.0 count.0)
      ∙ ap (with_front (change ∷ [])) (all_again changes allowed.1 exit.1 count.1)

  -- the names that are given have a number in its range
  abbrev ExitFits : List ℕ → Type 0
  ExitFits name = (o : Option ℤ) × (entry_in (path_to [] (codes "exitCodes")) (negsuc 2147483647) (pos 2147483647) exits name ≡ Ok o)

  abbrev CountFits : List ℕ → Type 0
  CountFits name = (o : Option ℤ) × (entry_in (path_to [] (codes "restartCounts")) (pos 0) (pos 2147483647) restarts name ≡ Ok o)

  exits_fit : (changes : List ContainerChange) → Each IsAllowedContainer changes → Each HasExit changes → Each ExitFits (given_in (firsts (pairs_of changes)))
  exits_fit [] allowed exit = tt
  exits_fit (change ∷ changes) allowed exit =
      by (change.exit, exit_entry exits change.name change.exit allowed.0.name exit.0 allowed.0.exit) (exits_fit changes allowed.1 exit.1) (option_map exit_data change.exit)
    where
      by : ExitFits change.name → Each ExitFits (given_in (firsts (pairs_of changes))) → (o : Option Data) → Each ExitFits (name_if o change.name (given_in (firsts (pairs_of changes))))
      by one rest None = rest
      by one rest (Some d) = (one, rest)

  counts_fit : (changes : List ContainerChange) → Each IsAllowedContainer changes → Each HasCount changes → Each CountFits (given_in (seconds (pairs_of changes)))
  counts_fit [] allowed count = tt
  counts_fit (change ∷ changes) allowed count =
      by (option_map pos change.restarts, count_entry restarts change.name change.restarts allowed.0.name count.0 allowed.0.restarts) (counts_fit changes allowed.1 count.1)
      (option_map number_data change.restarts)
    where
      by : CountFits change.name → Each CountFits (given_in (seconds (pairs_of changes))) → (o : Option Data) → Each CountFits (name_if o change.name (given_in (seconds (pairs_of changes))))
      by one rest None = rest
      by one rest (Some d) = (one, rest)

-- ---- the objects of numbers

all_fit : (path : List ℕ) (least greatest : ℤ) (numbers : Data) (names : List (List ℕ)) → Each (λ name. (o : Option ℤ) × (entry_in path least greatest numbers name ≡ Ok o)) names
    → entries_fit path least greatest numbers names ≡ Ok tt
all_fit path least greatest numbers [] all = refl
all_fit path least greatest numbers (name ∷ names) all =
    ap (λ r. r >>= λ number. entries_fit path least greatest numbers names) all.0.1 ∙ all_fit path least greatest numbers names all.1

numbers_again : (name : List ℕ) (least greatest : ℤ) (d : Data) (ms : Members) → member_of name d ≡ Some (object ms)
    → Each (λ n. (o : Option ℤ) × (entry_in (path_to [] name) least greatest (object ms) n ≡ Ok o)) (given_names ms)
    → container_numbers name least greatest d ≡ Ok (object ms)
unfolding container_numbers optional_object member_names
numbers_again name least greatest d ms is all =
    ap (λ r. read_as r >>= λ o. entries_fit (path_to [] name) least greatest (unwrap_or o null) (member_names (unwrap_or o null)) >>= λ fit. Ok (unwrap_or o null))
    (ap (may_be (object_of (path_to [] name))) is)
    ∙ ap (λ r. r >>= λ fit. Ok (object ms)) (all_fit (path_to [] name) least greatest (object ms) (given_names ms) all)

exits_found : (ms : Members) (changes : List ContainerChange) → AreFound ms (firsts (pairs_of changes)) → Each (HasExit (object ms) null) changes
unfolding member_of
exits_found ms [] all = tt
exits_found ms (change ∷ changes) all = (ap (option_and_then unless_null) all.0 ∙ (exits_whole (change ∷ changes)).0, exits_found ms changes all.1)

counts_found : (ms : Members) (changes : List ContainerChange) → AreFound ms (seconds (pairs_of changes)) → Each (HasCount null (object ms)) changes
unfolding member_of
counts_found ms [] all = tt
counts_found ms (change ∷ changes) all = (ap (option_and_then unless_null) all.0 ∙ (restarts_whole (change ∷ changes)).0, counts_found ms changes all.1)

have_some : (changes : List ContainerChange) → Each IsAllowedContainer changes → HaveSome (pairs_of changes)
have_some [] allowed = tt
have_some (change ∷ changes) allowed = (by change.exit change.restarts allowed.0.some, have_some changes allowed.1)
  where
    by : (o : Option ℤ) (p : Option ℕ) → (is_some o || is_some p) ≡ true → (is_some (option_map exit_data o) || is_some (option_map number_data p)) ≡ true
    by None None e = e
    by None (Some n) e = refl
    by (Some z) None e = refl
    by (Some z) (Some n) e = refl

containers_again : (d : Data) (changes : List ContainerChange) → member_of (codes "exitCodes") d ≡ Some (exits_of changes) → member_of (codes "restartCounts") d ≡ Some (restarts_of changes)
    → AreAscending (keys (pairs_of changes)) → Each IsAllowedContainer changes → containers_in d ≡ Ok changes
unfolding containers_in
containers_again d changes exits_at restarts_at rising allowed =
    let pairs : Pairs = pairs_of changes in
    let E : Members = built (firsts pairs) in
    let R : Members = built (seconds pairs) in
    let exits = exits_found E changes (built_found (firsts pairs) (first_rise pairs rising)) in
    let counts = counts_found R changes (built_found (seconds pairs) (second_rise pairs rising)) in
    ap (λ r. r >>= λ exits. container_numbers (codes "restartCounts") (pos 0) (pos 2147483647) d >>= λ restarts. all_said (container_change exits restarts) (names_in_either exits restarts))
    (numbers_again (codes "exitCodes") (negsuc 2147483647) (pos 2147483647) d E exits_at
    (subst (λ names. Each (ExitFits (object E) null) names) (sym (built_names (firsts pairs) (exits_whole changes))) (exits_fit (object E) null changes allowed exits)))
    ∙ ap (λ r. r >>= λ restarts. all_said (container_change (object E) restarts) (names_in_either (object E) restarts))
    (numbers_again (codes "restartCounts") (pos 0) (pos 2147483647) d R restarts_at
    (subst (λ names. Each (CountFits null (object R)) names) (sym (built_names (seconds pairs) (restarts_whole changes))) (counts_fit null (object R) changes allowed counts)))
    ∙ ap (all_said (container_change (object E) (object R))) (either_again pairs rising (have_some changes allowed) (exits_whole changes) (restarts_whole changes))
    ∙ all_again (object E) (object R) changes allowed exits counts

-- ---- the whole report

module _ (change : PhaseChange) where
  abbrev change_rows : Rows
  change_rows =
      (codes "phase", Some (string (phase_word change.phase))) ∷ (codes "containers", Some (list_data (map container_data change.containers)))
      ∷ (codes "conditions", Some (list_data (map pod_condition_data change.conditions))) ∷ []

  change_puts : phase_change_data change ≡ object (puts change_rows)
  unfolding phase_change_data with_json_member
  change_puts = refl

  abbrev line_rows : Rows
  line_rows =
      (codes "conditions", Some (list_data (map pod_condition_data change.conditions))) ∷ (codes "exitCodes", Some (exits_of change.containers))
      ∷ (codes "restartCounts", Some (restarts_of change.containers)) ∷ (codes "phase", Some (string (phase_word change.phase))) ∷ []

  abbrev line : Data
  line = object (puts line_rows)

  line_puts : AreAscending (keys (pairs_of change.containers)) → report_of (phase_change_data change) ≡ line
  unfolding report_of
  line_puts rising =
      let pairs : Pairs = pairs_of change.containers in
      let conditions : get (codes "conditions") (object (puts change_rows)) ≡ Some (list_data (map pod_condition_data change.conditions)) = get_found (codes "conditions") change_rows in
      let phase : get (codes "phase") (object (puts change_rows)) ≡ Some (string (phase_word change.phase)) = get_found (codes "phase") change_rows in
      let containers : get (codes "containers") (object (puts change_rows)) ≡ Some (list_data (map container_data change.containers)) = get_found (codes "containers") change_rows in
      ap report_of change_puts
      ∙ (λ i. object (put (codes "conditions") (unwrap_or (conditions i) null)
      (with_numbers (unwrap_or (option_and_then as_array (containers i)) no_items) (put (codes "phase") (unwrap_or (phase i) null) no_members))))
      ∙ ap₂ (λ e r. object (put (codes "conditions") (list_data (map pod_condition_data change.conditions))
      (put (codes "exitCodes") (object e) (put (codes "restartCounts") (object r) (put (codes "phase") (string (phase_word change.phase)) no_members)))))
      (exits_put change.containers no_members ∙ put_built (firsts pairs) (first_rise pairs rising))
      (restarts_put change.containers no_members ∙ put_built (seconds pairs) (second_rise pairs rising))

  pub report_again : IsAllowedReport change → report_in (report_of (phase_change_data change)) ≡ Ok change
  unfolding report_in
  report_again allowed =
      let rising : AreAscending (keys (pairs_of change.containers)) = subst AreAscending (same_names change.containers) allowed.rising in
      ap report_in (line_puts rising)
      ∙ ap (λ r. r >>= λ phase. containers_in line >>= λ containers. conditions_in line >>= λ conditions. Ok (record { phase = phase; containers = containers; conditions = conditions }))
      (word_again (codes "phase") line change.phase (member_found (codes "phase") line_rows))
      ∙ ap (λ r. r >>= λ containers. conditions_in line >>= λ conditions. Ok (record { phase = change.phase; containers = containers; conditions = conditions }))
      (containers_again line change.containers (member_found (codes "exitCodes") line_rows) (member_found (codes "restartCounts") line_rows) rising allowed.containers)
      ∙ ap (λ r. r >>= λ conditions. Ok (record { phase = change.phase; containers = change.containers; conditions = conditions }))
      (conditions_again line change.conditions (member_found (codes "conditions") line_rows) allowed.conditions)
