-- What the readers of members and of items answer: a value, or why there is none.
--     member_of name d                       the member of that name; a null counts as absent
--     optional_text, optional_number, ..     what a member that may be absent says
--     needed_text, needed_number, ..         what a member that must be there says
--     item_number, item_object               what an item of a list says
use Rattle.std.specs.Prelude.{ℕ, List, [], ◌∷◌, Bool, Option, Some, None, Result, Ok, Err, ℤ, int_le, ◌&&◌, is_some, if◌then◌else◌, ok_or, option_and_then, option_map}
use Rattle.serde_json.specs.Data.{Data, null, boolean, number, string, array, object, Items, no_items, item}
use Rattle.serde_json.specs.Find.{get, as_str, as_bool, as_array, as_object, as_number, as_integer}
use Rattle.jc_json.specs.Place.{path_to, path_at}

-- why a value is refused, with its path
pub data Refusal : Type 0 where
  missing : List ℕ → Refusal
  wrong_type : List ℕ → Refusal
  out_of_range : List ℕ → Refusal

-- then: the first refusal is the answer
infixl 10 ◌>>=◌
abbrev pub ◌>>=◌ : {A B E : Type 0} → Result A E → (A → Result B E) → Result B E
Ok a >>= next = next a
Err e >>= next = Err e

-- nothing, of a null
abbrev pub unless_null : Data → Option Data
unless_null null = None
unless_null (boolean b) = Some (boolean b)
unless_null (number n) = Some (number n)
unless_null (string s) = Some (string s)
unless_null (array items) = Some (array items)
unless_null (object members) = Some (object members)

-- the member of that name. A null counts as absent, and a value that is no object has no members
unfoldable pub member_of : List ℕ → Data → Option Data
member_of name d = option_and_then unless_null (get name d)

-- ---- what a value is, with its path

abbrev pub text_of : List ℕ → Data → Result (List ℕ) Refusal
text_of path d = ok_or (as_str d) (wrong_type path)

abbrev pub bool_of : List ℕ → Data → Result Bool Refusal
bool_of path d = ok_or (as_bool d) (wrong_type path)

-- the whole number that a value is: one that is kept as 64 bits, signed or unsigned
abbrev pub whole_number_of : List ℕ → Data → Result ℤ Refusal
whole_number_of path d = ok_or (option_and_then as_integer (as_number d)) (wrong_type path)

-- the number, where it is within bounds
abbrev pub within_bounds : List ℕ → ℤ → ℤ → ℤ → Result ℤ Refusal
within_bounds path least greatest n = if int_le least n && int_le n greatest then Ok n else Err (out_of_range path)

-- the whole number within bounds that a value is
abbrev pub bounded_number : List ℕ → ℤ → ℤ → Data → Result ℤ Refusal
bounded_number path least greatest d = do
  n ← whole_number_of path d
  within_bounds path least greatest n

-- the items of an array, in their order
abbrev pub listed_items : Items → List Data
listed_items no_items = []
listed_items (item d ds) = d ∷ listed_items ds

abbrev pub list_of : List ℕ → Data → Result (List Data) Refusal
list_of path d = ok_or (option_map listed_items (as_array d)) (wrong_type path)

-- the value itself, where it is an object
abbrev pub object_of : List ℕ → Data → Result Data Refusal
object_of path d = if is_some (as_object d) then Ok d else Err (wrong_type path)

-- ---- members that may be absent

-- nothing of an absent member, and of any other what is read
abbrev pub may_be : {A : Type 0} → (Data → Result A Refusal) → Option Data → Result (Option A) Refusal
may_be read None = Ok None
may_be read (Some d) = do
  a ← read d
  Ok (Some a)

unfoldable pub optional_text : List ℕ → List ℕ → Data → Result (Option (List ℕ)) Refusal
optional_text path name d = may_be (text_of (path_to path name)) (member_of name d)

unfoldable pub optional_bool : List ℕ → List ℕ → Data → Result (Option Bool) Refusal
optional_bool path name d = may_be (bool_of (path_to path name)) (member_of name d)

unfoldable pub optional_number : List ℕ → List ℕ → ℤ → ℤ → Data → Result (Option ℤ) Refusal
optional_number path name least greatest d = may_be (bounded_number (path_to path name) least greatest) (member_of name d)

unfoldable pub optional_list : List ℕ → List ℕ → Data → Result (Option (List Data)) Refusal
optional_list path name d = may_be (list_of (path_to path name)) (member_of name d)

unfoldable pub optional_object : List ℕ → List ℕ → Data → Result (Option Data) Refusal
optional_object path name d = may_be (object_of (path_to path name)) (member_of name d)

-- ---- members that must be there

-- the member, or that it is missing
abbrev pub needed : List ℕ → List ℕ → Data → Result Data Refusal
needed path name d = ok_or (member_of name d) (missing (path_to path name))

unfoldable pub needed_text : List ℕ → List ℕ → Data → Result (List ℕ) Refusal
needed_text path name d = do
  found ← needed path name d
  text_of (path_to path name) found

unfoldable pub needed_number : List ℕ → List ℕ → ℤ → ℤ → Data → Result ℤ Refusal
needed_number path name least greatest d = do
  found ← needed path name d
  bounded_number (path_to path name) least greatest found

unfoldable pub needed_list : List ℕ → List ℕ → Data → Result (List Data) Refusal
needed_list path name d = do
  found ← needed path name d
  list_of (path_to path name) found

unfoldable pub needed_object : List ℕ → List ℕ → Data → Result Data Refusal
needed_object path name d = do
  found ← needed path name d
  object_of (path_to path name) found

-- ---- items of a list, each with its place from 0

unfoldable pub item_number : List ℕ → ℕ → ℤ → ℤ → Data → Result ℤ Refusal
item_number path index least greatest d = bounded_number (path_at path index) least greatest d

unfoldable pub item_object : List ℕ → ℕ → Data → Result Data Refusal
item_object path index d = object_of (path_at path index) d
