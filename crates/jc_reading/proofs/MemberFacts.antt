-- What the members of an object say that was made of them, where all of them are known.
use Rattle.std.proofs.Common.{◌≡◌, ℕ, ℤ, pos, nat_abs, ◌≤◌, List, [], ◌∷◌, Bool, true, false, not, ◌&&◌, cond, Option, Some, None, option_map, option_and_then, is_some, IfSome, Ok, Ordering, Less, Equal, Greater, nat_cmp, refl, ap, ◌∙◌}
use Rattle.std.specs.Cmp.Lexicographic.{slice_cmp}
use Rattle.std.specs.List.{list_all}
use Rattle.std.specs.Option.{option_or}
use Rattle.std.specs.Ordering.{match_ordering}
use Rattle.std.proofs.lemmas.Bool.{and_parts}
use Rattle.serde_json.specs.Data.{Data, number, object, Members, no_members, member, put}
use Rattle.serde_json.specs.Find.{of_integer}
use Rattle.jc_json.specs.Field.{◌>>=◌, member_of, unless_null}
use Rattle.jc_print.specs.PrintedMembers.{number_data, put_given}
use Rattle.jc_members.specs.LineCauses.{read_as}
use Rattle.jc_members.specs.Members.{given_number_in, only_known, refuses_unknown, unknown_among, unknown_in}
use Rattle.jc_rows.specs.Templates.{is_among}
use Rattle.jc_reading.proofs.AgainHead.{given_number}
use Rattle.jc_reading.proofs.Found.{puts}

-- ---- known members

abbrev AreKnown : List (List ℕ) → Members → Type 0
AreKnown known no_members = Unit {0}
AreKnown known (member k d ms) = (is_among known k ≡ true) × AreKnown known ms

put_known : (known : List (List ℕ)) (k : List ℕ) (d : Data) (ms : Members) → is_among known k ≡ true → AreKnown known ms → AreKnown known (put k d ms)
put_known known k d no_members one all = (one, tt)
put_known known k d (member l e ms) one all = by (put_known known k d ms one all.1) (slice_cmp nat_cmp k l)
  where
    by : AreKnown known (put k d ms) → (o : Ordering) → AreKnown known (match_ordering o (member k d (member l e ms)) (member l d ms) (member l e (put k d ms)))
    by rest Less = (one, all)
    by rest Equal = (all.0, all.1)
    by rest Greater = (all.0, rest)

given_known : (known : List (List ℕ)) (k : List ℕ) (o : Option Data) (ms : Members) → is_among known k ≡ true → AreKnown known ms → AreKnown known (put_given k o ms)
given_known known k None ms one all = all
given_known known k (Some d) ms one all = put_known known k d ms one all

puts_known : (known : List (List ℕ)) (rows : List (List ℕ × Option Data)) → list_all (λ row. is_among known row.0) rows ≡ true → AreKnown known (puts rows)
puts_known known [] all = tt
puts_known known (row ∷ rows) all =
    let both = and_parts (is_among known row.0) (list_all (λ (row : List ℕ × Option Data). is_among known row.0) rows) all in
    given_known known row.0 row.1 (puts rows) both.0 (puts_known known rows both.1)

none_unknown : (known : List (List ℕ)) (ms : Members) → AreKnown known ms → unknown_among known ms ≡ None
none_unknown known no_members all = refl
none_unknown known (member k d ms) all =
    ap (λ b. cond (is_some (unless_null d) && not b) (Some k) (unknown_among known ms)) all.0
    ∙ by (none_unknown known ms all.1) (is_some (unless_null d))
  where
    by : unknown_among known ms ≡ None → (b : Bool) → cond (b && false) (Some k) (unknown_among known ms) ≡ None
    by rest true = rest
    by rest false = rest

pub rows_known : (path : List ℕ) (known : List (List ℕ)) (rows : List (List ℕ × Option Data)) → list_all (λ row. is_among known row.0) rows ≡ true
    → only_known path known (object (puts rows)) ≡ Ok tt
unfolding only_known unknown_in
rows_known path known rows all = ap (refuses_unknown path) (none_unknown known (puts rows) (puts_known known rows all))

-- ---- what may be given is never null

pub whole_given : {X : Type 0} (f : X → Data) → ((x : X) → unless_null (f x) ≡ Some (f x)) → (o : Option X)
    → option_and_then unless_null (option_or (option_map f o) None) ≡ option_map f o
whole_given f is None = refl
whole_given f is (Some x) = is x

pub whole_code : (z : ℤ) → unless_null (number (of_integer z)) ≡ Some (number (of_integer z))
whole_code z = refl

-- ---- numbers

pub given_in : (path name : List ℕ) (greatest : ℕ) (d : Data) (o : Option ℕ) → member_of name d ≡ option_map number_data o → IfSome o (λ n. n ≤ greatest)
    → given_number_in path name 0 greatest d ≡ Ok o
unfolding given_number_in
given_in path name greatest d o is few =
    ap (λ r. read_as r >>= λ o. Ok (option_map nat_abs o)) (given_number path name d o greatest is few) ∙ by o
  where
    by : (o : Option ℕ) → (read_as (Ok (option_map pos o)) >>= λ o. Ok (option_map nat_abs o)) ≡ Ok o
    by None = refl
    by (Some n) = refl
