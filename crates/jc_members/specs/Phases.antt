-- What a line reports of a pod: its phase, its containers and its conditions.
--     containers_in d     what the members `exitCodes` and `restartCounts` say together
--     conditions_in d     the member `conditions`
--     report_in d         all of it
use Rattle.std.specs.Prelude.{ℕ, List, [], ◌∷◌, bytes_eq, codes, Option, Some, None, Result, Ok, ⊤, ℤ, pos, negsuc, nat_abs, true, is_some, ok_or, option_map, unwrap_or, if◌then◌else◌}
use Rattle.std.specs.Option.{option_map_or}
use Rattle.serde_json.specs.Data.{Data, null, boolean, object, Members, no_members, member, put}
use Rattle.serde_json.specs.Find.{as_object}
use Rattle.jc_json.specs.Field.{◌>>=◌, unless_null, optional_text, optional_number, optional_list, optional_object, item_object}
use Rattle.jc_json.specs.Place.{path_to, path_at}
use Rattle.jc_types.specs.declared.actions.ContainerChange.{ContainerChange}
use Rattle.jc_types.specs.declared.actions.PhaseChange.{PhaseChange}
use Rattle.jc_types.specs.declared.objects.Phase.{Phase}
use Rattle.jc_types.specs.declared.objects.Phase.TheVariants.{Pending, Running, Succeeded, Failed}
use Rattle.jc_types.specs.declared.policies.Pattern.{Pattern}
use Rattle.jc_types.specs.declared.policies.Truth.{Truth}
use Rattle.jc_types.specs.declared.policies.Truth.TheVariants.{True}
use Rattle.jc_members.specs.declared.causes.Cause.{Cause}
use Rattle.jc_members.specs.declared.causes.Cause.TheVariants.{Invalid}
use Rattle.jc_members.specs.LineCauses.{read_as}
use Rattle.jc_members.specs.Items.{each_said, all_said}
use Rattle.jc_members.specs.Members.{only_known, text_in, tested, word_in}
use Rattle.jc_policies.specs.FailurePolicies.{is_type, truth_of}
use Rattle.jc_rows.specs.NameForms.{is_label}

-- ---- words

abbrev pub phase_of : List ℕ → Option Phase
phase_of s =
    if bytes_eq s (codes "Pending") then Some Pending
    else if bytes_eq s (codes "Running") then Some Running
    else if bytes_eq s (codes "Succeeded") then Some Succeeded
    else if bytes_eq s (codes "Failed") then Some Failed
    else None

-- ---- conditions

abbrev pub condition_members : List (List ℕ)
condition_members = codes "type" ∷ codes "status" ∷ []

-- a condition holds where nothing else is said: rule 29
abbrev pub truth_said : List ℕ → Option (List ℕ) → Result Truth Cause
truth_said path None = Ok True
truth_said path (Some s) = ok_or (truth_of s) (Invalid path 29)

unfoldable pub condition_truth : List ℕ → Data → Result Truth Cause
condition_truth path d = do
  o ← read_as (optional_text path (codes "status") d)
  truth_said (path_to path (codes "status")) o

-- rules 30 and 29
unfoldable pub condition_of : List ℕ → Data → Result Pattern Cause
condition_of path d = do
  kind ← text_in path (codes "type") 30 is_type d
  truth ← condition_truth path d
  Ok (record { kind = kind; truth = truth })

-- one condition, at its place in the list
unfoldable pub condition_at : List ℕ → ℕ → Data → Result Pattern Cause
condition_at list place d = do
  found ← read_as (item_object list place d)
  known ← only_known (path_at list place) condition_members found
  condition_of (path_at list place) found

unfoldable pub conditions_in : Data → Result (List Pattern) Cause
conditions_in d = do
  o ← read_as (optional_list [] (codes "conditions") d)
  each_said (condition_at (path_to [] (codes "conditions"))) 0 (unwrap_or o [])

-- ---- containers

-- the names of the members that are given, in byte order; a null counts as absent
abbrev pub given_names : Members → List (List ℕ)
given_names no_members = []
given_names (member name d rest) =
    if is_some (unless_null d) then name ∷ given_names rest else given_names rest

unfoldable pub member_names : Data → List (List ℕ)
member_names d = option_map_or given_names (as_object d) []

-- the number that an object gives a container, where it gives one; the name comes before the
-- number: rule 11
unfoldable pub entry_in : List ℕ → ℤ → ℤ → Data → List ℕ → Result (Option ℤ) Cause
entry_in path least greatest numbers name = do
  label ← tested (path_to path name) 11 is_label name
  read_as (optional_number path name least greatest numbers)

-- each container's number is right
abbrev pub entries_fit : List ℕ → ℤ → ℤ → Data → List (List ℕ) → Result ⊤ Cause
entries_fit path least greatest numbers [] = Ok tt
entries_fit path least greatest numbers (name ∷ names) = do
  number ← entry_in path least greatest numbers name
  entries_fit path least greatest numbers names

-- an object of numbers, each of which is right; a null where none is given
unfoldable pub container_numbers : List ℕ → ℤ → ℤ → Data → Result Data Cause
container_numbers name least greatest d = do
  o ← read_as (optional_object [] name d)
  fit ← entries_fit (path_to [] name) least greatest (unwrap_or o null) (member_names (unwrap_or o null))
  Ok (unwrap_or o null)

abbrev pub put_names : List (List ℕ) → Members → Members
put_names [] ms = ms
put_names (name ∷ names) ms = put_names names (put name (boolean true) ms)

-- the names of both objects, each once, in byte order
abbrev pub names_in_either : Data → Data → List (List ℕ)
names_in_either exits restarts =
    member_names (object (put_names (member_names restarts) (put_names (member_names exits) no_members)))

-- exit codes are whole numbers of 32 bits
unfoldable pub exit_in : Data → List ℕ → Result (Option ℤ) Cause
exit_in exits name =
    entry_in (path_to [] (codes "exitCodes")) (negsuc 2147483647) (pos 2147483647) exits name

unfoldable pub container_restarts : Data → List ℕ → Result (Option ℤ) Cause
container_restarts restarts name =
    entry_in (path_to [] (codes "restartCounts")) (pos 0) (pos 2147483647) restarts name

unfoldable pub container_count : Data → List ℕ → Result (Option ℕ) Cause
container_count restarts name = do
  count ← container_restarts restarts name
  Ok (option_map nat_abs count)

unfoldable pub container_change : Data → Data → List ℕ → Result ContainerChange Cause
container_change exits restarts name = do
  exit ← exit_in exits name
  count ← container_count restarts name
  Ok (record { name = name; exit = exit; restarts = count })

-- one change for each container that either object names
unfoldable pub containers_in : Data → Result (List ContainerChange) Cause
containers_in d = do
  exits ← container_numbers (codes "exitCodes") (negsuc 2147483647) (pos 2147483647) d
  restarts ← container_numbers (codes "restartCounts") (pos 0) (pos 2147483647) d
  all_said (container_change exits restarts) (names_in_either exits restarts)

-- ---- all together

unfoldable pub report_in : Data → Result PhaseChange Cause
report_in d = do
  phase ← word_in [] (codes "phase") phase_of d
  containers ← containers_in d
  conditions ← conditions_in d
  Ok (record { phase = phase; containers = containers; conditions = conditions })
