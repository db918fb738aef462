-- Numbers that stand under names in ascending order: what is made of them, and that the same names are found in it.
use Rattle.std.proofs.Common.{◌≡◌, ℕ, List, [], ◌∷◌, true, cond, Option, Some, None, is_some, option_and_then, refl, sym, ap, ap₂, ◌∙◌, ◌||◌, true≢false}
use Rattle.std.specs.List.{AllByRecursion as Each}
use Rattle.serde_json.specs.Data.{Data, boolean, object, Members, no_members, member, put}
use Rattle.serde_json.specs.Find.{get_member}
use Rattle.jc_json.specs.Field.{unless_null}
use Rattle.jc_members.specs.Phases.{given_names, member_names, names_in_either, put_names}
use Rattle.jc_print.specs.PrintedMembers.{put_given}
use Rattle.jc_reading.specs.Compact.{IsAfter}
use Rattle.jc_reading.specs.Proper.{AreLater, AreAscending}
use Rattle.jc_reading.proofs.RisingFacts.{found_first, found_later, names_after, names_behind, none_found, put_behind, put_front, put_same}

-- ---- rows of names and what may stand there

abbrev pub Rows : Type 0
Rows = List (List ℕ × Option Data)

abbrev pub names_of : Rows → List (List ℕ)
names_of [] = []
names_of (row ∷ rows) = row.0 ∷ names_of rows

-- the member in front of the others, where it is given
abbrev pub in_front : List ℕ → Option Data → Members → Members
in_front k None ms = ms
in_front k (Some d) ms = member k d ms

abbrev pub built : Rows → Members
built [] = no_members
built (row ∷ rows) = in_front row.0 row.1 (built rows)

-- put one after another
abbrev pub put_all : Rows → Members → Members
put_all [] ms = ms
put_all (row ∷ rows) ms = put_all rows (put_given row.0 row.1 ms)

all_behind : (k : List ℕ) (d : Data) (rows : Rows) (ms : Members) → AreLater k (names_of rows) → put_all rows (member k d ms) ≡ member k d (put_all rows ms)
all_behind k d [] ms later = refl
all_behind k d ((l, None) ∷ rows) ms later = all_behind k d rows ms later.1
all_behind k d ((l, Some e) ∷ rows) ms later =
    ap (put_all rows) (put_behind k l d e ms later.0) ∙ all_behind k d rows (put l e ms) later.1

pub put_built : (rows : Rows) → AreAscending (names_of rows) → put_all rows no_members ≡ built rows
put_built [] rising = refl
put_built ((k, None) ∷ rows) rising = put_built rows rising.1
put_built ((k, Some d) ∷ rows) rising = all_behind k d rows no_members rising.0 ∙ ap (member k d) (put_built rows rising.1)

built_after : (k : List ℕ) (rows : Rows) → AreLater k (names_of rows) → IsAfter k (built rows)
built_after k [] later = tt
built_after k ((l, None) ∷ rows) later = built_after k rows later.1
built_after k ((l, Some d) ∷ rows) later = (later.0, built_after k rows later.1)

-- ---- what is found there

abbrev pub AreFound : Members → Rows → Type 0
AreFound ms rows = Each (λ (row : List ℕ × Option Data). get_member row.0 ms ≡ row.1) rows

more_found : (k : List ℕ) (d : Data) (ms : Members) (rows : Rows) → AreLater k (names_of rows) → AreFound ms rows → AreFound (member k d ms) rows
more_found k d ms [] later all = tt
more_found k d ms (row ∷ rows) later all = (found_later k row.0 d ms later.0 ∙ all.0, more_found k d ms rows later.1 all.1)

pub built_found : (rows : Rows) → AreAscending (names_of rows) → AreFound (built rows) rows
built_found [] rising = tt
built_found ((k, None) ∷ rows) rising = (none_found k (built rows) (built_after k rows rising.0), built_found rows rising.1)
built_found ((k, Some d) ∷ rows) rising = (found_first k d (built rows), more_found k d (built rows) rows rising.0 (built_found rows rising.1))

-- ---- the names that are given

abbrev pub name_if : Option Data → List ℕ → List (List ℕ) → List (List ℕ)
name_if None k names = names
name_if (Some d) k names = k ∷ names

abbrev pub given_in : Rows → List (List ℕ)
given_in [] = []
given_in (row ∷ rows) = name_if row.1 row.0 (given_in rows)

-- none of them is null
abbrev pub AreWhole : Rows → Type 0
AreWhole rows = Each (λ (row : List ℕ × Option Data). option_and_then unless_null row.1 ≡ row.1) rows

pub built_names : (rows : Rows) → AreWhole rows → given_names (built rows) ≡ given_in rows
built_names [] whole = refl
built_names ((k, None) ∷ rows) whole = built_names rows whole.1
built_names ((k, Some d) ∷ rows) whole =
    ap (λ b. cond b (k ∷ given_names (built rows)) (given_names (built rows))) (ap is_some whole.0) ∙ ap (λ names. k ∷ names) (built_names rows whole.1)

given_later : (k : List ℕ) (rows : Rows) → AreLater k (names_of rows) → AreLater k (given_in rows)
given_later k [] later = tt
given_later k ((l, None) ∷ rows) later = given_later k rows later.1
given_later k ((l, Some d) ∷ rows) later = (later.0, given_later k rows later.1)

-- ---- names with what may stand there in two places

abbrev pub Pairs : Type 0
Pairs = List (List ℕ × Option Data × Option Data)

abbrev pub keys : Pairs → List (List ℕ)
keys [] = []
keys (pair ∷ pairs) = pair.0 ∷ keys pairs

abbrev pub firsts : Pairs → Rows
firsts [] = []
firsts (pair ∷ pairs) = (pair.0, pair.1) ∷ firsts pairs

abbrev pub seconds : Pairs → Rows
seconds [] = []
seconds (pair ∷ pairs) = (pair.0, pair.2) ∷ seconds pairs

-- something stands in the one or the other
abbrev pub HaveSome : Pairs → Type 0
HaveSome pairs = Each (λ (pair : List ℕ × Option Data × Option Data). (is_some pair.1 || is_some pair.2) ≡ true) pairs

first_later : (k : List ℕ) (pairs : Pairs) → AreLater k (keys pairs) → AreLater k (names_of (firsts pairs))
first_later k [] later = tt
first_later k (pair ∷ pairs) later = (later.0, first_later k pairs later.1)

second_later : (k : List ℕ) (pairs : Pairs) → AreLater k (keys pairs) → AreLater k (names_of (seconds pairs))
second_later k [] later = tt
second_later k (pair ∷ pairs) later = (later.0, second_later k pairs later.1)

pub first_rise : (pairs : Pairs) → AreAscending (keys pairs) → AreAscending (names_of (firsts pairs))
first_rise [] rising = tt
first_rise (pair ∷ pairs) rising = (first_later pair.0 pairs rising.0, first_rise pairs rising.1)

pub second_rise : (pairs : Pairs) → AreAscending (keys pairs) → AreAscending (names_of (seconds pairs))
second_rise [] rising = tt
second_rise (pair ∷ pairs) rising = (second_later pair.0 pairs rising.0, second_rise pairs rising.1)

-- the members of these names
abbrev trues : List (List ℕ) → Members
trues [] = no_members
trues (k ∷ names) = member k (boolean true) (trues names)

trues_names : (names : List (List ℕ)) → given_names (trues names) ≡ names
trues_names [] = refl
trues_names (k ∷ names) = ap (λ more. k ∷ more) (trues_names names)

module _ (k : List ℕ) (pairs : Pairs) (later : AreLater k (keys pairs)) where
  abbrev A : List (List ℕ)
  A = given_in (firsts pairs)

  abbrev B : List (List ℕ)
  B = given_in (seconds pairs)

  a_later : AreLater k A
  a_later = given_later k (firsts pairs) (first_later k pairs later)

  b_later : AreLater k B
  b_later = given_later k (seconds pairs) (second_later k pairs later)

  by_first : put_names B (put_names A (member k (boolean true) no_members)) ≡ member k (boolean true) (put_names B (put_names A no_members))
  by_first =
      ap (put_names B) (names_behind k (boolean true) A no_members a_later) ∙ names_behind k (boolean true) B (put_names A no_members) b_later

  by_both : put_names B (put k (boolean true) (put_names A (member k (boolean true) no_members))) ≡ member k (boolean true) (put_names B (put_names A no_members))
  by_both =
      ap (λ ms. put_names B (put k (boolean true) ms)) (names_behind k (boolean true) A no_members a_later)
      ∙ ap (put_names B) (put_same k (boolean true) (boolean true) (put_names A no_members))
      ∙ names_behind k (boolean true) B (put_names A no_members) b_later

  by_second : put_names B (put k (boolean true) (put_names A no_members)) ≡ member k (boolean true) (put_names B (put_names A no_members))
  by_second =
      ap (put_names B) (put_front k (boolean true) (put_names A no_members) (names_after k A no_members a_later tt))
      ∙ names_behind k (boolean true) B (put_names A no_members) b_later

merged : (pairs : Pairs) → AreAscending (keys pairs) → HaveSome pairs → put_names (given_in (seconds pairs)) (put_names (given_in (firsts pairs)) no_members) ≡ trues (keys pairs)
merged [] rising some = refl
merged ((k, None, None) ∷ pairs) rising some = absurd (true≢false (sym some.0))
merged ((k, Some d, None) ∷ pairs) rising some = by_first k pairs rising.0 ∙ ap (member k (boolean true)) (merged pairs rising.1 some.1)
merged ((k, Some d, Some e) ∷ pairs) rising some = by_both k pairs rising.0 ∙ ap (member k (boolean true)) (merged pairs rising.1 some.1)
merged ((k, None, Some e) ∷ pairs) rising some = by_second k pairs rising.0 ∙ ap (member k (boolean true)) (merged pairs rising.1 some.1)

pub either_again : (pairs : Pairs) → AreAscending (keys pairs) → HaveSome pairs → AreWhole (firsts pairs) → AreWhole (seconds pairs)
    → names_in_either (object (built (firsts pairs))) (object (built (seconds pairs))) ≡ keys pairs
unfolding member_names
either_again pairs rising some first second =
    ap₂ (λ r e. given_names (put_names r (put_names e no_members))) (built_names (seconds pairs) second) (built_names (firsts pairs) first)
    ∙ ap given_names (merged pairs rising some) ∙ trues_names (keys pairs)
