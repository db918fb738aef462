-- Members that are put in one order and in another are the same.
use Rattle.std.proofs.Common.{◌≡◌, ℕ, List, [], ◌∷◌, Bool, true, false, ◌&&◌, Option, None, Some, Ordering, Less, Equal, Greater, nat_cmp, true≢false, refl, sym, ap, ◌∙◌}
use Rattle.std.specs.Cmp.Lexicographic.{slice_cmp}
use Rattle.std.specs.Ordering.{match_ordering}
use Rattle.serde_json.specs.Data.{Data, Members, no_members, member, put}
use Rattle.jc_print.specs.PrintedMembers.{with_json_member}
use Rattle.std.proofs.lemmas.Bool.{and_parts}
use Rattle.jc_print.proofs.Writing.{Named, members_from}

-- A member before others, where it is given.
abbrev first_up : List ℕ → Option Data → Members → Members
first_up k None ms = ms
first_up k (Some d) ms = member k d ms

-- The members that are given, the first first.
abbrev members_up : Named → Members
members_up [] = no_members
members_up (n ∷ ns) = first_up n.0 n.1 (members_up ns)

abbrev insert : List ℕ × Option Data → Named → Named
insert n [] = n ∷ []
insert n (m ∷ ms) = match_ordering (slice_cmp nat_cmp n.0 m.0) (n ∷ m ∷ ms) (n ∷ ms) (m ∷ insert n ms)

abbrev is_less : Ordering → Bool
is_less Less = true
is_less Equal = false
is_less Greater = false

abbrev is_under : List ℕ → Named → Bool
is_under k [] = true
is_under k (m ∷ ms) = is_less (slice_cmp nat_cmp k m.0) && is_under k ms

-- The name is none of these, which stand in order.
abbrev has_room : List ℕ → Named → Bool
has_room k [] = true
has_room k (m ∷ ms) = match_ordering (slice_cmp nat_cmp k m.0) (is_under k ms) false (has_room k ms)

less : (o : Ordering) → is_less o ≡ true → o ≡ Less
less Less e = refl
less Equal e = absurd (true≢false (sym e))
less Greater e = absurd (true≢false (sym e))

put_before : (k : List ℕ) (d : Data) (l : List ℕ) (p : Option Data) (ms : Members) → slice_cmp nat_cmp k l ≡ Less
    → put k d ms ≡ member k d ms
    → put k d (first_up l p ms) ≡ member k d (first_up l p ms)
put_before k d l None ms under rest = rest
put_before k d l (Some e) ms under rest =
    ap (λ o. match_ordering o (member k d (member l e ms)) (member l d ms) (member l e (put k d ms))) under

put_after : (k : List ℕ) (d : Data) (l : List ℕ) (p : Option Data) (ms : Members) → slice_cmp nat_cmp k l ≡ Greater
    → put k d (first_up l p ms) ≡ first_up l p (put k d ms)
put_after k d l None ms over = refl
put_after k d l (Some e) ms over =
    ap (λ o. match_ordering o (member k d (member l e ms)) (member l d ms) (member l e (put k d ms))) over

put_first : (k : List ℕ) (d : Data) (ms : Named) → is_under k ms ≡ true
    → put k d (members_up ms) ≡ member k d (members_up ms)
put_first k d [] e = refl
put_first k d (m ∷ ms) e =
    put_before k d m.0 m.1 (members_up ms) (less _ (and_parts _ (is_under k ms) e).0)
    (put_first k d ms (and_parts (is_less (slice_cmp nat_cmp k m.0)) _ e).1)

put_at : (o : Ordering) (k : List ℕ) (d : Data) (l : List ℕ) (p : Option Data) (ms : Named)
    → slice_cmp nat_cmp k l ≡ o
    → match_ordering o (is_under k ms) false (has_room k ms) ≡ true
    → (has_room k ms ≡ true → put k d (members_up ms) ≡ members_up (insert (k, Some d) ms))
    → put k d (first_up l p (members_up ms)) ≡ members_up
    (match_ordering o ((k, Some d) ∷ (l, p) ∷ ms) ((k, Some d) ∷ ms) ((l, p) ∷ insert (k, Some d) ms))
put_at Less k d l p ms is room later = put_before k d l p (members_up ms) is (put_first k d ms room)
put_at Equal k d l p ms is room later = absurd (true≢false (sym room))
put_at Greater k d l p ms is room later = put_after k d l p (members_up ms) is ∙ ap (first_up l p) (later room)

put_in : (k : List ℕ) (d : Data) (ms : Named) → has_room k ms ≡ true
    → put k d (members_up ms) ≡ members_up (insert (k, Some d) ms)
put_in k d [] room = refl
put_in k d (m ∷ ms) room = put_at (slice_cmp nat_cmp k m.0) k d m.0 m.1 ms refl room (put_in k d ms)

none_at : (o : Ordering) (k l : List ℕ) (p : Option Data) (ms : Named)
    → match_ordering o (is_under k ms) false (has_room k ms) ≡ true
    → (has_room k ms ≡ true → members_up ms ≡ members_up (insert (k, None) ms))
    → first_up l p (members_up ms) ≡ members_up
    (match_ordering o ((k, None) ∷ (l, p) ∷ ms) ((k, None) ∷ ms) ((l, p) ∷ insert (k, None) ms))
none_at Less k l p ms room later = refl
none_at Equal k l p ms room later = absurd (true≢false (sym room))
none_at Greater k l p ms room later = ap (first_up l p) (later room)

none_in : (k : List ℕ) (ms : Named) → has_room k ms ≡ true → members_up ms ≡ members_up (insert (k, None) ms)
none_in k [] room = refl
none_in k (m ∷ ms) room = none_at (slice_cmp nat_cmp k m.0) k m.0 m.1 ms room (none_in k ms)

with_in : (k : List ℕ) (o : Option Data) (ms : Named) → has_room k ms ≡ true
    → with_json_member k o (members_up ms) ≡ members_up (insert (k, o) ms)
unfolding with_json_member
with_in k None ms room = none_in k ms room
with_in k (Some d) ms room = put_in k d ms room

-- In order, the first first.
abbrev pub sorted : Named → Named
sorted [] = []
sorted (n ∷ ns) = insert n (sorted ns)

-- No name stands twice.
abbrev pub all_fit : Named → Bool
all_fit [] = true
all_fit (n ∷ ns) = has_room n.0 (sorted ns) && all_fit ns

sorted_same : (ns : Named) → all_fit ns ≡ true → members_from ns ≡ members_up (sorted ns)
sorted_same [] fit = refl
sorted_same (n ∷ ns) fit =
    ap (with_json_member n.0 n.1) (sorted_same ns (and_parts (has_room n.0 (sorted ns)) _ fit).1)
    ∙ with_in n.0 n.1 (sorted ns) (and_parts _ (all_fit ns) fit).0

pub same_members : (ns ms : Named) → all_fit ns ≡ true → all_fit ms ≡ true → sorted ns ≡ sorted ms
    → members_from ns ≡ members_from ms
same_members ns ms fit too same = sorted_same ns fit ∙ ap members_up same ∙ sym (sorted_same ms too)
