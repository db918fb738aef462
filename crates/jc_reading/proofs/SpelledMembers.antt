-- What is read of a spelled value is spelled: its members, their texts, and the values of its lists and objects.
use Rattle.std.proofs.Common.{◌≡◌, ℕ, List, [], Bool, true, false, cond, Option, Some, None, option_and_then, is_some, IfSome, Result, Ok, Err, Ordering, Less, Equal, Greater, nat_cmp, IsUtf8, refl}
use Rattle.std.specs.Cmp.Lexicographic.{slice_cmp}
use Rattle.std.specs.List.{AllByRecursion as Each}
use Rattle.std.specs.Ordering.{match_ordering}
use Rattle.std.specs.Prelude.{IfOk, ok_or, unwrap_or}
use Rattle.serde_json.specs.Data.{Data, null, boolean, number, string, array, object, Items, no_items, item, Members, no_members, member}
use Rattle.serde_json.specs.Find.{as_object, get, get_member}
use Rattle.jc_json.specs.Field.{Refusal, ◌>>=◌, item_object, list_of, listed_items, may_be, member_of, missing, needed_list, needed_object, needed_text, object_of, optional_list, optional_object, optional_text, text_of, unless_null, wrong_type}
use Rattle.jc_json.specs.Place.{path_at, path_to}
use Rattle.jc_members.specs.declared.causes.Cause.TheVariants.{Invalid}
use Rattle.jc_members.specs.LineCauses.{read_as}
use Rattle.jc_members.specs.Members.{given_tested, given_text_in, tested, text_in}
use Rattle.jc_members.proofs.Within.{using_first}
use Rattle.jc_reading.specs.Spelled.{AreSpelled, HasSpelled, IsSpelled}

-- ---- members of a value that is spelled

get_spelled : (k : List ℕ) (ms : Members) → HasSpelled ms → IfSome (get_member k ms) IsSpelled
get_spelled k no_members h = tt
get_spelled k (member l d ms) h = by (get_spelled k ms h.3) (slice_cmp nat_cmp k l)
  where
    by : IfSome (get_member k ms) IsSpelled → (o : Ordering) → IfSome (match_ordering o (get_member k ms) (Some d) (get_member k ms)) IsSpelled
    by rest Less = rest
    by rest Equal = h.1
    by rest Greater = rest

pub found_spelled : (k : List ℕ) (d : Data) → IsSpelled d → IfSome (get k d) IsSpelled
found_spelled k null h = tt
found_spelled k (boolean b) h = tt
found_spelled k (number n) h = tt
found_spelled k (string s) h = tt
found_spelled k (array ds) h = tt
found_spelled k (object ms) h = get_spelled k ms h

unless_spelled : (d : Data) → IsSpelled d → IfSome (unless_null d) IsSpelled
unless_spelled null h = tt
unless_spelled (boolean b) h = h
unless_spelled (number n) h = h
unless_spelled (string s) h = h
unless_spelled (array ds) h = h
unless_spelled (object ms) h = h

pub member_spelled : (name : List ℕ) (d : Data) → IsSpelled d → IfSome (member_of name d) IsSpelled
unfolding member_of
member_spelled name d h = by (get name d) (found_spelled name d h)
  where
    by : (o : Option Data) → IfSome o IsSpelled → IfSome (option_and_then unless_null o) IsSpelled
    by None h = tt
    by (Some e) h = unless_spelled e h

-- ---- texts

text_spelled : (path : List ℕ) (d : Data) → IsSpelled d → IfOk (text_of path d) IsUtf8
text_spelled path null h = tt
text_spelled path (boolean b) h = tt
text_spelled path (number n) h = tt
text_spelled path (string s) h = h
text_spelled path (array ds) h = tt
text_spelled path (object ms) h = tt

pub needed_text_spelled : (path name : List ℕ) (d : Data) → IsSpelled d → IfOk (needed_text path name d) IsUtf8
unfolding needed_text
needed_text_spelled path name d h = by (member_of name d) (member_spelled name d h)
  where
    by : (o : Option Data) → IfSome o IsSpelled → IfOk (ok_or o (missing (path_to path name)) >>= text_of (path_to path name)) IsUtf8
    by None h = tt
    by (Some e) h = text_spelled (path_to path name) e h

pub optional_text_spelled : (path name : List ℕ) (d : Data) → IsSpelled d → IfOk (optional_text path name d) (λ o. IfSome o IsUtf8)
unfolding optional_text
optional_text_spelled path name d h = by (member_of name d) (member_spelled name d h)
  where
    some : (r : Result (List ℕ) Refusal) → IfOk r IsUtf8 → IfOk (r >>= λ a. Ok (Some a)) (λ o. IfSome o IsUtf8)
    some (Ok s) h = h
    some (Err refusal) h = tt

    by : (o : Option Data) → IfSome o IsSpelled → IfOk (may_be (text_of (path_to path name)) o) (λ o. IfSome o IsUtf8)
    by None h = tt
    by (Some e) h = some (text_of (path_to path name) e) (text_spelled (path_to path name) e h)

pub read_ok : {A : Type 0} (P : A → Type 0) (r : Result A Refusal) → IfOk r P → IfOk (read_as r) P
read_ok P (Ok a) h = h
read_ok P (Err refusal) h = tt

-- A text that passes a test.
abbrev pub IsTestedText : (List ℕ → Bool) → List ℕ → Type 0
IsTestedText test s = (test s ≡ true) × IsUtf8 s

test_passed : (path : List ℕ) (rule : ℕ) (test : List ℕ → Bool) (s : List ℕ) → IsUtf8 s → IfOk (tested path rule test s) (IsTestedText test)
test_passed path rule test s u = by (test s) refl
  where
    by : (b : Bool) → test s ≡ b → IfOk (cond b (Ok s) (Err (Invalid path rule))) (IsTestedText test)
    by true e = (e, u)
    by false e = tt

given_passed : (path : List ℕ) (rule : ℕ) (test : List ℕ → Bool) (o : Option (List ℕ)) → IfSome o IsUtf8 → IfOk (given_tested path rule test o) (λ o. IfSome o (IsTestedText test))
given_passed path rule test None u = tt
given_passed path rule test (Some s) u = by (test s) refl
  where
    by : (b : Bool) → test s ≡ b → IfOk (cond b (Ok (Some s)) (Err (Invalid path rule))) (λ o. IfSome o (IsTestedText test))
    by true e = (e, u)
    by false e = tt

pub text_tested : (path name : List ℕ) (rule : ℕ) (test : List ℕ → Bool) (d : Data) → IsSpelled d → IfOk (text_in path name rule test d) (IsTestedText test)
unfolding text_in
text_tested path name rule test d h =
    using_first (IsTestedText test) IsUtf8 (read_as (needed_text path name d)) (tested (path_to path name) rule test)
    (read_ok IsUtf8 (needed_text path name d) (needed_text_spelled path name d h)) (λ s u. test_passed (path_to path name) rule test s u)

pub given_text_tested : (path name : List ℕ) (rule : ℕ) (test : List ℕ → Bool) (d : Data) → IsSpelled d → IfOk (given_text_in path name rule test d) (λ o. IfSome o (IsTestedText test))
unfolding given_text_in
given_text_tested path name rule test d h =
    using_first (λ o. IfSome o (IsTestedText test)) (λ o. IfSome o IsUtf8) (read_as (optional_text path name d)) (given_tested (path_to path name) rule test)
    (read_ok (λ o. IfSome o IsUtf8) (optional_text path name d) (optional_text_spelled path name d h)) (λ o u. given_passed (path_to path name) rule test o u)

-- ---- lists and objects

listed_spelled : (ds : Items) → AreSpelled ds → Each IsSpelled (listed_items ds)
listed_spelled no_items h = tt
listed_spelled (item d ds) h = (h.0, listed_spelled ds h.1)

list_spelled : (path : List ℕ) (d : Data) → IsSpelled d → IfOk (list_of path d) (Each IsSpelled)
list_spelled path null h = tt
list_spelled path (boolean b) h = tt
list_spelled path (number n) h = tt
list_spelled path (string s) h = tt
list_spelled path (array ds) h = listed_spelled ds h
list_spelled path (object ms) h = tt

pub needed_list_spelled : (path name : List ℕ) (d : Data) → IsSpelled d → IfOk (needed_list path name d) (Each IsSpelled)
unfolding needed_list
needed_list_spelled path name d h = by (member_of name d) (member_spelled name d h)
  where
    by : (o : Option Data) → IfSome o IsSpelled → IfOk (ok_or o (missing (path_to path name)) >>= list_of (path_to path name)) (Each IsSpelled)
    by None h = tt
    by (Some e) h = list_spelled (path_to path name) e h

pub optional_list_spelled : (path name : List ℕ) (d : Data) → IsSpelled d → IfOk (optional_list path name d) (λ o. Each IsSpelled (unwrap_or o []))
unfolding optional_list
optional_list_spelled path name d h = by (member_of name d) (member_spelled name d h)
  where
    some : (r : Result (List Data) Refusal) → IfOk r (Each IsSpelled) → IfOk (r >>= λ a. Ok (Some a)) (λ o. Each IsSpelled (unwrap_or o []))
    some (Ok s) h = h
    some (Err refusal) h = tt

    by : (o : Option Data) → IfSome o IsSpelled → IfOk (may_be (list_of (path_to path name)) o) (λ o. Each IsSpelled (unwrap_or o []))
    by None h = tt
    by (Some e) h = some (list_of (path_to path name) e) (list_spelled (path_to path name) e h)

pub object_spelled : (path : List ℕ) (d : Data) → IsSpelled d → IfOk (object_of path d) IsSpelled
object_spelled path d h = by (is_some (as_object d))
  where
    by : (b : Bool) → IfOk (cond b (Ok d) (Err (wrong_type path))) IsSpelled
    by true = h
    by false = tt

pub needed_object_spelled : (path name : List ℕ) (d : Data) → IsSpelled d → IfOk (needed_object path name d) IsSpelled
unfolding needed_object
needed_object_spelled path name d h = by (member_of name d) (member_spelled name d h)
  where
    by : (o : Option Data) → IfSome o IsSpelled → IfOk (ok_or o (missing (path_to path name)) >>= object_of (path_to path name)) IsSpelled
    by None h = tt
    by (Some e) h = object_spelled (path_to path name) e h

pub optional_object_spelled : (path name : List ℕ) (d : Data) → IsSpelled d → IfOk (optional_object path name d) (λ o. IsSpelled (unwrap_or o null))
unfolding optional_object
optional_object_spelled path name d h = by (member_of name d) (member_spelled name d h)
  where
    some : (r : Result Data Refusal) → IfOk r IsSpelled → IfOk (r >>= λ a. Ok (Some a)) (λ o. IsSpelled (unwrap_or o null))
    some (Ok e) h = h
    some (Err refusal) h = tt

    by : (o : Option Data) → IfSome o IsSpelled → IfOk (may_be (object_of (path_to path name)) o) (λ o. IsSpelled (unwrap_or o null))
    by None h = tt
    by (Some e) h = some (object_of (path_to path name) e) (object_spelled (path_to path name) e h)

pub item_spelled : (path : List ℕ) (index : ℕ) (d : Data) → IsSpelled d → IfOk (item_object path index d) IsSpelled
unfolding item_object
item_spelled path index d h = object_spelled (path_at path index) d h
