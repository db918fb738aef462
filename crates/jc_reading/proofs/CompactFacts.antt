-- The compact text of a value reads as the value.
use Rattle.std.proofs.Common.{◌≡◌, ℕ, suc, ◌≤◌, max, pos, negsuc, List, [], false, ◌||◌, Ordering, Less, Equal, Greater, nat_cmp, Some, option_map, option_and_then, refl, sym, ap, ap₂, ◌∙◌, arith, append-nil}
use Rattle.std.proofs.lemmas.Cmp.{nat_list_cmp_total}
use Rattle.std.specs.Cmp.Lexicographic.{slice_cmp}
use Rattle.std.specs.Ordering.{match_ordering, ordering_reverse}
use Rattle.json.specs.Lex.{tokens}
use Rattle.json.specs.Json as json
use Rattle.json.specs.Tree as tree
use Rattle.json.proofs.Printed.Tokens.{tokens-print}
use Rattle.json.proofs.Printed.Trees.{ArePrintable-json_tokens, value-json_tokens}
use Rattle.json.proofs.Printed.Decimals.{IsNumber-decimal, IsNumber-signed_decimal}
use Rattle.serde_json.specs.Data.{unsigned, negative, float, Data, null, boolean, number, string, array, object, Items, no_items, item, Members, no_members, member, put, depth, items_depth, members_depth}
use Rattle.serde_json.specs.Read.{of_json, of_items, of_members, read, max_depth}
use Rattle.serde_json.specs.Written.{compact_text, outline, items_outline, members_outline, has_float, items_have_float, members_have_float}
use Rattle.serde_json.proofs.Numbers.{number_of-decimal, number_of-negative}
use Rattle.serde_json.proofs.Texts.{print-outline}
use Rattle.jc_reading.specs.Compact.{IsAfter, IsTold, AreTold, HasTold}

-- ---- the numbers of the text

mutual
  numbers : (d : Data) → IsTold d → tree.HasNumbers (outline d)
  numbers null h = tt
  numbers (boolean b) h = tt
  numbers (number (unsigned n)) h = IsNumber-decimal n h
  numbers (number (negative (pos n))) h = absurd h
  numbers (number (negative (negsuc n))) h = IsNumber-signed_decimal (negsuc n) h
  numbers (number (float x)) h = absurd h
  numbers (string s) h = tt
  numbers (array ds) h = items_numbers ds h
  numbers (object ms) h = members_numbers ms h

  items_numbers : (ds : Items) → AreTold ds → tree.ItemsHaveNumbers (items_outline ds)
  items_numbers no_items h = tt
  items_numbers (item d ds) h = (numbers d h.0, items_numbers ds h.1)

  members_numbers : (ms : Members) → HasTold ms → tree.MembersHaveNumbers (members_outline ms)
  members_numbers no_members h = tt
  members_numbers (member k d ms) h = (numbers d h.0, members_numbers ms h.2)

-- ---- how deep

mutual
  as_deep : (d : Data) → tree.depth (outline d) ≡ depth d
  as_deep null = refl
  as_deep (boolean b) = refl
  as_deep (number n) = refl
  as_deep (string s) = refl
  as_deep (array ds) = ap suc (items_as_deep ds)
  as_deep (object ms) = ap suc (members_as_deep ms)

  items_as_deep : (ds : Items) → tree.items_depth (items_outline ds) ≡ items_depth ds
  items_as_deep no_items = refl
  items_as_deep (item d ds) = ap₂ max (as_deep d) (items_as_deep ds)

  members_as_deep : (ms : Members) → tree.members_depth (members_outline ms) ≡ members_depth ms
  members_as_deep no_members = refl
  members_as_deep (member k d ms) = ap₂ max (as_deep d) (members_as_deep ms)

-- ---- members that go in one after another

join : Members → Members → Members
join no_members ns = ns
join (member l e ms) ns = member l e (join ms ns)

-- each of the members has an earlier name
abbrev IsBefore : List ℕ → Members → Type 0
IsBefore k no_members = Unit {0}
IsBefore k (member l d ms) = (slice_cmp nat_cmp k l ≡ Greater) × IsBefore k ms

-- so it is of each of the later ones
abbrev AreBefore : Members → Members → Type 0
AreBefore found no_members = Unit {0}
AreBefore found (member k d ms) = IsBefore k found × AreBefore found ms

pub later : (k l : List ℕ) → slice_cmp nat_cmp k l ≡ Less → slice_cmp nat_cmp l k ≡ Greater
later k l e = nat_list_cmp_total.antisymm l k ∙ ap ordering_reverse e

put_last : (k : List ℕ) (d : Data) (found : Members) → IsBefore k found → put k d found ≡ join found (member k d no_members)
unfolding join
put_last k d no_members before = refl
put_last k d (member l e found) before =
    ap (λ o. match_ordering o (member k d (member l e found)) (member l d found) (member l e (put k d found))) before.0
    ∙ ap (member l e) (put_last k d found before.1)

one_more : (k l : List ℕ) (d : Data) (found : Members) → IsBefore l found → slice_cmp nat_cmp k l ≡ Less → IsBefore l (join found (member k d no_members))
unfolding join
one_more k l d no_members before less = (later k l less, tt)
one_more k l d (member m e found) before less = (before.0, one_more k l d found before.1 less)

all_more : (k : List ℕ) (d : Data) (found ms : Members) → AreBefore found ms → IsAfter k ms → AreBefore (join found (member k d no_members)) ms
all_more k d found no_members before after = tt
all_more k d found (member l e ms) before after = (one_more k l d found before.0 after.0, all_more k d found ms before.1 after.1)

joined : (found ms : Members) (k : List ℕ) (d : Data) → join (join found (member k d no_members)) ms ≡ join found (member k d ms)
unfolding join
joined no_members ms k d = refl
joined (member l e found) ms k d = ap (member l e) (joined found ms k d)

alone : (found : Members) → join found no_members ≡ found
unfolding join
alone no_members = refl
alone (member l e found) = ap (member l e) (alone found)

none_before : (ms : Members) → AreBefore no_members ms
none_before no_members = tt
none_before (member k d ms) = (tt, none_before ms)

mutual
  unfolding join

  told : (d : Data) → IsTold d → of_json (outline d) ≡ Some d
  told null h = refl
  told (boolean b) h = refl
  told (number (unsigned n)) h = ap (option_map number) (number_of-decimal n h)
  told (number (negative (pos n))) h = absurd h
  told (number (negative (negsuc n))) h = ap (option_map number) (number_of-negative n h)
  told (number (float x)) h = absurd h
  told (string s) h = refl
  told (array ds) h = ap (option_map array) (items_told ds h)
  told (object ms) h = ap (option_map object) (members_told ms no_members h (none_before ms))

  items_told : (ds : Items) → AreTold ds → of_items (items_outline ds) ≡ Some ds
  items_told no_items h = refl
  items_told (item d ds) h =
      ap (option_and_then (λ e. option_map (item e) (of_items (items_outline ds)))) (told d h.0)
      ∙ ap (option_map (item d)) (items_told ds h.1)

  members_told : (ms found : Members) → HasTold ms → AreBefore found ms → of_members (members_outline ms) found ≡ Some (join found ms)
  members_told no_members found h before = ap Some (sym (alone found))
  members_told (member k d ms) found h before =
      ap (option_and_then (λ e. of_members (members_outline ms) (put k e found))) (told d h.0)
      ∙ ap (of_members (members_outline ms)) (put_last k d found before.0)
      ∙ members_told ms (join found (member k d no_members)) h.2 (all_more k d found ms before.1 h.1)
      ∙ ap Some (joined found ms k d)

-- ---- the law

pub compact_text_told : (d : Data) → IsTold d → depth d ≤ max_depth → read (compact_text d) ≡ Some d
compact_text_told d h shallow =
    let same : tokens (compact_text d) ≡ tree.json_tokens (outline d) =
    ap tokens (sym (print-outline d)) ∙ tokens-print (tree.json_tokens (outline d)) (ArePrintable-json_tokens (outline d) (numbers d h)) in
    let deep = as_deep d in
    ap (λ ts. option_and_then of_json (option_and_then (λ p. json.if_last p.0 p.1) (json.value max_depth ts))) (same ∙ sym (append-nil _))
    ∙ ap (λ o. option_and_then of_json (option_and_then (λ p. json.if_last p.0 p.1) o)) (value-json_tokens (outline d) max_depth [] (omega (arith, deep, shallow)))
    ∙ told d h

-- ---- no floats

mutual
  pub told_clean : (d : Data) → IsTold d → has_float d ≡ false
  told_clean null h = refl
  told_clean (boolean b) h = refl
  told_clean (number (unsigned n)) h = refl
  told_clean (number (negative (pos n))) h = absurd h
  told_clean (number (negative (negsuc n))) h = refl
  told_clean (number (float x)) h = absurd h
  told_clean (string s) h = refl
  told_clean (array ds) h = items_clean ds h
  told_clean (object ms) h = members_clean ms h

  items_clean : (ds : Items) → AreTold ds → items_have_float ds ≡ false
  items_clean no_items h = refl
  items_clean (item d ds) h = ap₂ (λ a b. a || b) (told_clean d h.0) (items_clean ds h.1)

  members_clean : (ms : Members) → HasTold ms → members_have_float ms ≡ false
  members_clean no_members h = refl
  members_clean (member k d ms) h = ap₂ (λ a b. a || b) (told_clean d h.0) (members_clean ms h.2)

-- ---- a member put among others

pub put_after : (l k : List ℕ) (d : Data) (ms : Members) → slice_cmp nat_cmp l k ≡ Less → IsAfter l ms → IsAfter l (put k d ms)
put_after l k d no_members less after = (less, tt)
put_after l k d (member m e ms) less after = by (put_after l k d ms less after.1) (slice_cmp nat_cmp k m)
  where
    by : IsAfter l (put k d ms) → (o : Ordering) → IsAfter l (match_ordering o (member k d (member m e ms)) (member m d ms) (member m e (put k d ms)))
    by rest Less = (less, after)
    by rest Equal = after
    by rest Greater = (after.0, rest)

pub earlier : (k l : List ℕ) → slice_cmp nat_cmp k l ≡ Greater → slice_cmp nat_cmp l k ≡ Less
earlier k l e = nat_list_cmp_total.antisymm l k ∙ ap ordering_reverse e

pub all_after : (k l : List ℕ) (ms : Members) → slice_cmp nat_cmp k l ≡ Less → IsAfter l ms → IsAfter k ms
all_after k l no_members less after = tt
all_after k l (member m e ms) less after = (nat_list_cmp_total.trans k l m less after.0, all_after k l ms less after.1)

pub put_told : (k : List ℕ) (d : Data) (ms : Members) → IsTold d → HasTold ms → HasTold (put k d ms)
put_told k d no_members one h = (one, tt, tt)
put_told k d (member l e ms) one h = by (put_told k d ms one h.2) (slice_cmp nat_cmp k l) refl
  where
    by : HasTold (put k d ms) → (o : Ordering) → slice_cmp nat_cmp k l ≡ o → HasTold (match_ordering o (member k d (member l e ms)) (member l d ms) (member l e (put k d ms)))
    by rest Less less = (one, (less, all_after k l ms less h.1), h)
    by rest Equal same = (one, h.1, h.2)
    by rest Greater more = (h.0, put_after l k d ms (earlier k l more) h.1, rest)
