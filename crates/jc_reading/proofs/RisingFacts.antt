-- Members that are put in ascending order of their names.
use Rattle.std.proofs.Common.{◌≡◌, ℕ, List, [], ◌∷◌, Bool, true, false, cond, Some, None, is_some, option_and_then, Ordering, Less, Equal, Greater, nat_cmp, refl, ap, ◌∙◌}
use Rattle.std.proofs.lemmas.Cmp.{nat_list_cmp_total}
use Rattle.std.specs.Cmp.Lexicographic.{slice_cmp}
use Rattle.std.specs.List.{AllByRecursion as Each}
use Rattle.std.specs.Ordering.{match_ordering, ordering_reverse}
use Rattle.serde_json.specs.Data.{Data, boolean, object, Members, no_members, member, put}
use Rattle.serde_json.specs.Find.{get_member}
use Rattle.jc_json.specs.Field.{member_of, unless_null}
use Rattle.jc_members.specs.Phases.{given_names, member_names, names_in_either, put_names}
use Rattle.jc_reading.specs.Compact.{IsAfter}
use Rattle.jc_reading.specs.Proper.{AreLater, AreAscending}
use Rattle.jc_reading.proofs.CompactFacts.{all_after, earlier, later, put_after}

-- ---- a name beside itself

pub equal : (k : List ℕ) → slice_cmp nat_cmp k k ≡ Equal
equal k = by (slice_cmp nat_cmp k k) (nat_list_cmp_total.antisymm k k)
  where
    by : (o : Ordering) → o ≡ ordering_reverse o → o ≡ Equal
    by Less e = absurd (cc (e))
    by Equal e = refl
    by Greater e = absurd (cc (e))

-- ---- a member put before or behind others

pub put_front : (k : List ℕ) (d : Data) (ms : Members) → IsAfter k ms → put k d ms ≡ member k d ms
put_front k d no_members after = refl
put_front k d (member l e ms) after = ap (λ o. match_ordering o (member k d (member l e ms)) (member l d ms) (member l e (put k d ms))) after.0

pub put_same : (k : List ℕ) (d e : Data) (ms : Members) → put k d (member k e ms) ≡ member k d ms
put_same k d e ms = ap (λ o. match_ordering o (member k d (member k e ms)) (member k d ms) (member k e (put k d ms))) (equal k)

pub put_behind : (k l : List ℕ) (d e : Data) (ms : Members) → slice_cmp nat_cmp k l ≡ Less → put l e (member k d ms) ≡ member k d (put l e ms)
put_behind k l d e ms less = ap (λ o. match_ordering o (member l e (member k d ms)) (member k e ms) (member k d (put l e ms))) (later k l less)

-- ---- names put one after another

pub names_behind : (k : List ℕ) (d : Data) (names : List (List ℕ)) (ms : Members) → AreLater k names → put_names names (member k d ms) ≡ member k d (put_names names ms)
names_behind k d [] ms later = refl
names_behind k d (l ∷ names) ms later =
    ap (put_names names) (put_behind k l d (boolean true) ms later.0) ∙ names_behind k d names (put l (boolean true) ms) later.1

pub names_after : (k : List ℕ) (names : List (List ℕ)) (ms : Members) → AreLater k names → IsAfter k ms → IsAfter k (put_names names ms)
names_after k [] ms later after = after
names_after k (l ∷ names) ms later after = names_after k names (put l (boolean true) ms) later.1 (put_after k l (boolean true) ms later.0 after)

-- ---- what is found

pub none_found : (k : List ℕ) (ms : Members) → IsAfter k ms → get_member k ms ≡ None
none_found k no_members after = refl
none_found k (member l e ms) after = ap (λ o. match_ordering o (get_member k ms) (Some e) (get_member k ms)) after.0 ∙ none_found k ms after.1

pub found_first : (k : List ℕ) (d : Data) (ms : Members) → get_member k (member k d ms) ≡ Some d
found_first k d ms = ap (λ o. match_ordering o (get_member k ms) (Some d) (get_member k ms)) (equal k)

pub found_later : (k l : List ℕ) (d : Data) (ms : Members) → slice_cmp nat_cmp k l ≡ Less → get_member l (member k d ms) ≡ get_member l ms
found_later k l d ms less = ap (λ o. match_ordering o (get_member l ms) (Some d) (get_member l ms)) (later k l less)

-- ---- members of an object in that order

abbrev pub IsInOrder : Members → Type 0
IsInOrder no_members = Unit {0}
IsInOrder (member k d ms) = IsAfter k ms × IsInOrder ms

given_later : (k : List ℕ) (ms : Members) → IsAfter k ms → AreLater k (given_names ms)
given_later k no_members after = tt
given_later k (member l d ms) after = by (given_later k ms after.1) (is_some (unless_null d))
  where
    by : AreLater k (given_names ms) → (b : Bool) → AreLater k (cond b (l ∷ given_names ms) (given_names ms))
    by rest true = (after.0, rest)
    by rest false = rest

pub given_rise : (ms : Members) → IsInOrder ms → AreAscending (given_names ms)
given_rise no_members order = tt
given_rise (member k d ms) order = by (given_rise ms order.1) (is_some (unless_null d))
  where
    by : AreAscending (given_names ms) → (b : Bool) → AreAscending (cond b (k ∷ given_names ms) (given_names ms))
    by rest true = (given_later k ms order.0, rest)
    by rest false = rest

pub put_order : (k : List ℕ) (d : Data) (ms : Members) → IsInOrder ms → IsInOrder (put k d ms)
put_order k d no_members h = (tt, tt)
put_order k d (member l e ms) h = by (put_order k d ms h.1) (slice_cmp nat_cmp k l) refl
  where
    by : IsInOrder (put k d ms) → (o : Ordering) → slice_cmp nat_cmp k l ≡ o → IsInOrder (match_ordering o (member k d (member l e ms)) (member l d ms) (member l e (put k d ms)))
    by rest Less less = ((less, all_after k l ms less h.0), h)
    by rest Equal same = (h.0, h.1)
    by rest Greater more = (put_after l k d ms (earlier k l more) h.0, rest)

pub names_order : (names : List (List ℕ)) (ms : Members) → IsInOrder ms → IsInOrder (put_names names ms)
names_order [] ms order = order
names_order (k ∷ names) ms order = names_order names (put k (boolean true) ms) (put_order k (boolean true) ms order)

pub either_rise : (exits restarts : Data) → AreAscending (names_in_either exits restarts)
unfolding member_names
either_rise exits restarts =
    given_rise (put_names (member_names restarts) (put_names (member_names exits) no_members))
    (names_order (member_names restarts) (put_names (member_names exits) no_members) (names_order (member_names exits) no_members tt))

-- ---- of each name that is given something is found

abbrev pub IsFound : Members → List ℕ → Type 0
IsFound ms k = is_some (member_of k (object ms)) ≡ true

found_behind : (k : List ℕ) (d : Data) (ms : Members) (names : List (List ℕ)) → AreLater k names → Each (IsFound ms) names → Each (IsFound (member k d ms)) names
unfolding member_of
found_behind k d ms [] later all = tt
found_behind k d ms (l ∷ names) later all =
    (ap (λ o. is_some (option_and_then unless_null o)) (found_later k l d ms later.0) ∙ all.0, found_behind k d ms names later.1 all.1)

pub given_found : (ms : Members) → IsInOrder ms → Each (IsFound ms) (given_names ms)
unfolding member_of
given_found no_members order = tt
given_found (member k d ms) order =
    by (found_behind k d ms (given_names ms) (given_later k ms order.0) (given_found ms order.1)) (is_some (unless_null d)) refl
  where
    by : Each (IsFound (member k d ms)) (given_names ms) → (b : Bool) → is_some (unless_null d) ≡ b → Each (IsFound (member k d ms)) (cond b (k ∷ given_names ms) (given_names ms))
    by rest true e = (ap (λ o. is_some (option_and_then unless_null o)) (found_first k d ms) ∙ e, rest)
    by rest false e = rest
