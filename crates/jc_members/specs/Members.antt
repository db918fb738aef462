-- What the members of a line say, each by its form and its rule, or the cause that it is refused.
--     only_known path known d        no member but the known ones
--     whole_number_in, given_number_in ..  whole numbers from 0
--     text_in, given_text_in         texts that pass a test
--     word_in                        a text of a fixed set
use Rattle.std.specs.Prelude.{ℕ, List, Bool, not, ◌&&◌, Option, Some, None, Result, Ok, Err, ⊤, pos, nat_abs, is_some, ok_or, option_map, if◌then◌else◌}
use Rattle.std.specs.Option.{option_map_or}
use Rattle.serde_json.specs.Data.{Data, Members, no_members, member}
use Rattle.serde_json.specs.Find.{as_object}
use Rattle.jc_json.specs.Field.{◌>>=◌, unless_null, needed_text, needed_number, optional_text, optional_number}
use Rattle.jc_json.specs.Place.{path_to}
use Rattle.jc_rows.specs.Templates.{is_among}
use Rattle.jc_members.specs.declared.causes.Cause.{Cause}
use Rattle.jc_members.specs.declared.causes.Cause.TheVariants.{Invalid}
use Rattle.jc_members.specs.LineCauses.{read_as}

-- ---- known members

-- a member that is given and not known; a null counts as absent
abbrev pub is_unknown : List (List ℕ) → List ℕ → Data → Bool
is_unknown known name d = is_some (unless_null d) && not (is_among known name)

-- the name of the first member that is not known, in byte order of the names
abbrev pub unknown_among : List (List ℕ) → Members → Option (List ℕ)
unknown_among known no_members = None
unknown_among known (member name d rest) =
    if is_unknown known name d then Some name else unknown_among known rest

unfoldable pub unknown_in : List (List ℕ) → Data → Option (List ℕ)
unknown_in known d = option_map_or (unknown_among known) (as_object d) None

-- it is refused by rule 28
abbrev pub refuses_unknown : List ℕ → Option (List ℕ) → Result ⊤ Cause
refuses_unknown path None = Ok tt
refuses_unknown path (Some name) = Err (Invalid (path_to path name) 28)

unfoldable pub only_known : List ℕ → List (List ℕ) → Data → Result ⊤ Cause
only_known path known d = refuses_unknown path (unknown_in known d)

-- ---- numbers

-- a whole number from `least` to `greatest`
unfoldable pub whole_number_in : List ℕ → List ℕ → ℕ → ℕ → Data → Result ℕ Cause
whole_number_in path name least greatest d = do
  n ← read_as (needed_number path name (pos least) (pos greatest) d)
  Ok (nat_abs n)

-- such a number, where it is given
unfoldable pub given_number_in : List ℕ → List ℕ → ℕ → ℕ → Data → Result (Option ℕ) Cause
given_number_in path name least greatest d = do
  o ← read_as (optional_number path name (pos least) (pos greatest) d)
  Ok (option_map nat_abs o)

-- ---- texts

-- the text passes the test of the rule
abbrev pub tested : List ℕ → ℕ → (List ℕ → Bool) → List ℕ → Result (List ℕ) Cause
tested path rule test s = if test s then Ok s else Err (Invalid path rule)

unfoldable pub text_in : List ℕ → List ℕ → ℕ → (List ℕ → Bool) → Data → Result (List ℕ) Cause
text_in path name rule test d = do
  s ← read_as (needed_text path name d)
  tested (path_to path name) rule test s

abbrev pub given_tested : List ℕ → ℕ → (List ℕ → Bool) → Option (List ℕ)
    → Result (Option (List ℕ)) Cause
given_tested path rule test None = Ok None
given_tested path rule test (Some s) = if test s then Ok (Some s) else Err (Invalid path rule)

-- such a text, where it is given
unfoldable pub given_text_in : List ℕ → List ℕ → ℕ → (List ℕ → Bool) → Data
    → Result (Option (List ℕ)) Cause
given_text_in path name rule test d = do
  o ← read_as (optional_text path name d)
  given_tested (path_to path name) rule test o

-- a text of a fixed set of values, each of which stands for something: rule 29
unfoldable pub word_in : {A : Type 0} → List ℕ → List ℕ → (List ℕ → Option A) → Data → Result A Cause
word_in path name meaning d = do
  s ← read_as (needed_text path name d)
  ok_or (meaning s) (Invalid (path_to path name) 29)
