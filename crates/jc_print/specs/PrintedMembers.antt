-- JSON objects by their members, one line a member.
--     with_json_member name given ms   the members with one more, which is left out where it is not given
--     unless_zero, ..                  what is given: nothing for 0, for the empty list
--     number_data, list_data, ..       a number, a list, texts as JSON
use Rattle.std.specs.Prelude.{ℕ, List, ◌==◌, length, map, if◌then◌else◌, Option, Some, None}
use Rattle.serde_json.specs.Data.{Data, number, string, array, unsigned, Members, put}
use Rattle.serde_json.specs.View.{items_of}

-- the member, where it is given; `put` keeps the members in byte order of their names
abbrev pub put_given : List ℕ → Option Data → Members → Members
put_given name None ms = ms
put_given name (Some d) ms = put name d ms

unfoldable pub with_json_member : List ℕ → Option Data → Members → Members
with_json_member name given ms = put_given name given ms

-- a number, or nothing for 0
abbrev pub unless_zero : ℕ → Option Data
unless_zero n = if n == 0 then None else Some (number (unsigned n))

abbrev pub number_data : ℕ → Data
number_data n = number (unsigned n)

abbrev pub list_data : List Data → Data
list_data ds = array (items_of ds)

-- a list, or nothing for the empty one
abbrev pub unless_empty : List Data → Option Data
unless_empty ds = if length ds == 0 then None else Some (list_data ds)

abbrev pub texts_data : List (List ℕ) → Data
texts_data texts = list_data (map string texts)
