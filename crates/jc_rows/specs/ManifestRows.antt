-- The rows of a table of members: each refuses a manifest or does not, and the first refusal is the answer.
--     first_refusal rows                 the first refusal in the order of the rows
--     text_row, given_text_row, ..       the row of a member, by its form and its rule
--     Reads, Checks, IsRefusal             an answer is the refusal, or what is said where there is none
--     object_in, number_in               what a member says; its row refuses what does not say it
use Rattle.std.specs.Prelude.{◌≡◌, ℕ, ◌+◌, List, [], ◌∷◌, Bool, true, Option, Some, None, Result, Ok, Err, pos, nat_abs, option_map, if◌then◌else◌}
use Rattle.std.specs.Option.{option_or, option_map_or}
use Rattle.std.specs.Result.{result_unwrap_or}
use Rattle.serde_json.specs.Data.{Data, null}
use Rattle.jc_json.specs.Place.{path_to}
use Rattle.jc_json.specs.Field.{Refusal, missing, wrong_type, out_of_range, needed_text, needed_object, optional_text, optional_bool, optional_number, optional_object}
use Rattle.jc_json.specs.declared.field.FieldFault.{FieldFault}
use Rattle.jc_json.specs.declared.field.FieldFault.TheVariants as field
use Rattle.jc_rows.specs.declared.refusals.ManifestFault.{ManifestFault}
use Rattle.jc_rows.specs.declared.refusals.ManifestFault.TheVariants.{Missing, WrongType, OutOfRange, Invalid, Want}

-- why a manifest is refused: a member was not read, or breaks the rule of that number, each with its path
pub data ManifestRefusal : Type 0 where
  unread : Refusal → ManifestRefusal
  invalid : List ℕ → ℕ → ManifestRefusal

-- what a row says of a manifest: its refusal, or nothing
abbrev pub Row : Type 0
Row = Option ManifestRefusal

-- the first refusal in the order of the rows
abbrev pub first_refusal : List Row → Row
first_refusal [] = None
first_refusal (row ∷ rows) = option_or row (first_refusal rows)

-- the first refusal of a list's items, by the row of an item and its place
abbrev pub each : (ℕ → Data → Row) → ℕ → List Data → Row
each row place [] = None
each row place (d ∷ ds) = option_or (row place d) (each row (place + 1) ds)

-- ---- one row

-- the rule holds, or is broken at that path
abbrev pub rule_row : List ℕ → ℕ → Bool → Row
rule_row path rule kept = if kept then None else Some (invalid path rule)

-- the member is read
abbrev pub reads : {A : Type 0} → Result A Refusal → Row
reads (Ok a) = None
reads (Err refusal) = Some (unread refusal)

-- the member is read, and its value passes the test of the rule
abbrev pub passes : {A : Type 0} → List ℕ → ℕ → (A → Bool) → Result A Refusal → Row
passes path rule test (Ok a) = rule_row path rule (test a)
passes path rule test (Err refusal) = Some (unread refusal)

-- ---- rows of the members of the object `d`, which stands at `path`

unfoldable pub text_row : List ℕ → Data → List ℕ → ℕ → (List ℕ → Bool) → Row
text_row path d name rule test = passes (path_to path name) rule test (needed_text path name d)

-- an absent member passes
unfoldable pub given_text_row : List ℕ → Data → List ℕ → ℕ → (List ℕ → Bool) → Row
given_text_row path d name rule test =
    passes (path_to path name) rule (λ o. option_map_or test o true) (optional_text path name d)

-- a whole number from 0
unfoldable pub number_row : List ℕ → Data → List ℕ → ℕ → Row
number_row path d name greatest = reads (optional_number path name (pos 0) (pos greatest) d)

unfoldable pub bool_row : List ℕ → Data → List ℕ → Row
bool_row path d name = reads (optional_bool path name d)

unfoldable pub object_row : List ℕ → Data → List ℕ → Row
object_row path d name = reads (needed_object path name d)

-- ---- what members say

unfoldable pub object_in : List ℕ → Data → List ℕ → Data
object_in path d name = result_unwrap_or (needed_object path name d) null

unfoldable pub number_in : List ℕ → Data → List ℕ → ℕ → Option ℕ
number_in path d name greatest =
    option_map nat_abs (result_unwrap_or (optional_number path name (pos 0) (pos greatest) d) None)

-- ---- answers

-- the fault is the row's refusal. Want of memory may stand in place of any other answer
abbrev pub IsRefusal : ManifestFault → Row → Type 0
IsRefusal (Missing path) row = row ≡ Some (unread (missing path))
IsRefusal (WrongType path) row = row ≡ Some (unread (wrong_type path))
IsRefusal (OutOfRange path) row = row ≡ Some (unread (out_of_range path))
IsRefusal (Invalid path rule) row = row ≡ Some (invalid path rule)
IsRefusal Want row = Unit {0}

-- the answer is the row's refusal, or else, as seen by `view`, what is said
abbrev pub Reads : {X A : Type 0} → (X → A) → Result X ManifestFault → Row → A → Type 0
Reads view (Ok x) row said = (row ≡ None) × (view x ≡ said)
Reads view (Err fault) row said = IsRefusal fault row

-- the answer is the row's refusal, or else the rows are kept
abbrev pub Checks : {X : Type 0} → Result X ManifestFault → Row → Type 0
Checks (Ok x) row = row ≡ None
Checks (Err fault) row = IsRefusal fault row

-- the fault of a member that was not read
abbrev pub of_field : FieldFault → ManifestFault
of_field (field.Missing path) = Missing path
of_field (field.WrongType path) = WrongType path
of_field (field.OutOfRange path) = OutOfRange path
of_field field.Want = Want

-- ---- members that are objects of their own

-- the rows of an object that may be given
abbrev pub rows_of_given : Result (Option Data) Refusal → (Data → Row) → Row
rows_of_given (Ok None) rows = None
rows_of_given (Ok (Some d)) rows = rows d
rows_of_given (Err refusal) rows = Some (unread refusal)

abbrev pub given_in : List ℕ → Data → List ℕ → Option Data
given_in path d name = result_unwrap_or (optional_object path name d) None
