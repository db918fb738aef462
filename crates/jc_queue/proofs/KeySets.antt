-- Sets of keys as lists in ascending order: what is put in, what is taken out, and that two with the same keys
-- are equal.
use Rattle.std.proofs.Common.{◌≡◌, Bool, true, false, cond, not, ◌&&◌, ◌||◌, List, [], ◌∷◌, IfSome, Option, None, Some, refl, sym, ap, ◌∙◌, true≢false}
use Rattle.std.specs.Cmp.Lexicographic.{slice_cmp}
use Rattle.std.specs.List.{AllByRecursion as Each, IsDistinct, find}
use Rattle.std.specs.List.Sorted.{IsStrictlySortedBy}
use Rattle.std.specs.Ordering.{is_lt, match_ordering, nat_cmp, ordering_reverse}
use Rattle.std.specs.declared.cmp.Ordering.{Ordering}
use Rattle.std.specs.declared.cmp.Ordering.TheVariants.{Less, Equal, Greater}
use Rattle.jc_types.specs.declared.objects.KeyNames.{KeyNames as Key}
use Rattle.jc_types.specs.Keys.{same_key}
use Rattle.jc_types.proofs.KeyFacts.{same_key-eq, same_key-either_way}
use Rattle.jc_queue.specs.Queued.{has_key, key_order, key_set, plus_key, without}
use Rattle.jc_queue.proofs.KeyOrder.{both_equal, key_total, text_is}
use Rattle.jc_queue.proofs.KeyLists.{each-without, first_in, is_in-without, none_is}
use Rattle.jc_queue.proofs.Steps.{found_is}

-- ---- the order

-- Keys that are equal in the order are equal.
pub key_is : (a b : Key) → key_order a b ≡ Equal → a ≡ b
key_is a b e =
    let n = both_equal (slice_cmp nat_cmp a.namespace b.namespace) (slice_cmp nat_cmp a.name b.name) e in
    λ i. record { namespace = text_is a.namespace b.namespace n.0 i; name = text_is a.name b.name n.1 i }

-- The order the other way.
turned : (a b : Key) → key_order a b ≡ Greater → key_order b a ≡ Less
turned a b e = key_total.antisymm b a ∙ ap ordering_reverse e

-- A key that is less than another is another.
less-other : (a b : Key) → key_order a b ≡ Less → same_key a b ≡ false
less-other a b l = by (same_key a b) refl
  where
    itself : (o : Ordering) → o ≡ ordering_reverse o → o ≡ Less → true ≡ false
    itself Less e l = ap is_lt e
    itself Equal e l = sym (ap is_lt l)
    itself Greater e l = sym (ap is_lt l)

    by : (m : Bool) → same_key a b ≡ m → m ≡ false
    by true s = itself (key_order a a) (key_total.antisymm a a) (ap (key_order a) (same_key-eq a b s) ∙ l)
    by false s = refl

less-none : (x : Key) (keys : List Key) → Each (λ y. key_order x y ≡ Less) keys → Each (λ y. same_key x y ≡ false) keys
less-none x [] h = tt
less-none x (y ∷ keys) h = (less-other x y h.0, less-none x keys h.1)

less-after : (a x : Key) (keys : List Key) → key_order a x ≡ Less → Each (λ y. key_order x y ≡ Less) keys → Each (λ y. key_order a y ≡ Less) keys
less-after a x [] l h = tt
less-after a x (y ∷ keys) l h = (key_total.trans a x y l h.0, less-after a x keys l h.1)

-- No key stands twice in keys that ascend.
pub ascends-once : (keys : List Key) → IsStrictlySortedBy key_order keys → IsDistinct same_key keys
unfolding IsDistinct IsStrictlySortedBy
ascends-once [] s = tt
ascends-once (x ∷ keys) s = (less-none x keys s.0, ascends-once keys s.1)

-- Keys that ascend and that are the same keys are equal lists.
pub same_set : (xs ys : List Key) → IsStrictlySortedBy key_order xs → IsStrictlySortedBy key_order ys → ((j : Key) → has_key j xs ≡ has_key j ys) → xs ≡ ys
unfolding IsStrictlySortedBy
same_set [] [] a b e = refl
same_set [] (y ∷ ys) a b e = absurd (true≢false (sym (e y ∙ first_in y ys)))
same_set (x ∷ xs) [] a b e = absurd (true≢false (sym (first_in x xs) ∙ e x))
same_set (x ∷ xs) (y ∷ ys) a b e = by (key_order x y) refl (same_set xs ys a.1 b.1)
  where
    -- A key that is less than the first is none of the keys.
    out : (u v : Key) (keys : List Key) → key_order u v ≡ Less → Each (λ z. key_order v z ≡ Less) keys → has_key u (v ∷ keys) ≡ false
    out u v keys l h = none_is u (v ∷ keys) (less-other u v l, less-none u keys (less-after u v keys l h))

    rest : x ≡ y → (j : Key) → has_key j xs ≡ has_key j ys
    rest same j = at_key (same_key j x) refl
      where
        at_key : (m : Bool) → same_key j x ≡ m → has_key j xs ≡ has_key j ys
        at_key true m =
            ap (λ z. has_key z xs) (same_key-eq j x m) ∙ none_is x xs (less-none x xs a.0)
            ∙ sym (ap (λ z. has_key z ys) (same_key-eq j x m ∙ same) ∙ none_is y ys (less-none y ys b.0))
        at_key false m =
            ap (λ t. t || has_key j xs) (sym m) ∙ e j
            ∙ ap (λ t. t || has_key j ys) (ap (same_key j) (sym same) ∙ m)

    by : (o : Ordering) → key_order x y ≡ o → (((j : Key) → has_key j xs ≡ has_key j ys) → xs ≡ ys) → x ∷ xs ≡ y ∷ ys
    by Less o ih = absurd (true≢false (sym (first_in x xs) ∙ e x ∙ out x y ys o b.0))
    by Equal o ih = let same = key_is x y o in let more = ih (rest same) in λ i. same i ∷ more i
    by Greater o ih = absurd (true≢false (sym (first_in y ys) ∙ sym (e y) ∙ out y x xs (turned x y o) a.0))

-- ---- a key is put in

each-plus : (P : Key → Type 0) (k : Key) (keys : List Key) → P k → Each P keys → Each P (plus_key k keys)
each-plus P k [] p h = (p, tt)
each-plus P k (x ∷ keys) p h = by (key_order k x) (each-plus P k keys p h.1)
  where
    by : (o : Ordering) → Each P (plus_key k keys) → Each P (match_ordering o (k ∷ x ∷ keys) (x ∷ keys) (x ∷ plus_key k keys))
    by Less ih = (p, h)
    by Equal ih = h
    by Greater ih = (h.0, ih)

-- The keys ascend still.
pub ascends-plus : (k : Key) (keys : List Key) → IsStrictlySortedBy key_order keys → IsStrictlySortedBy key_order (plus_key k keys)
unfolding IsStrictlySortedBy
ascends-plus k [] s = (tt, tt)
ascends-plus k (x ∷ keys) s = by (key_order k x) refl (ascends-plus k keys s.1)
  where
    by : (o : Ordering) → key_order k x ≡ o → IsStrictlySortedBy key_order (plus_key k keys) → IsStrictlySortedBy key_order (match_ordering o (k ∷ x ∷ keys) (x ∷ keys) (x ∷ plus_key k keys))
    by Less o ih = ((o, less-after k x keys o s.0), s)
    by Equal o ih = s
    by Greater o ih = (each-plus (λ y. key_order x y ≡ Less) k keys (turned k x o) s.0, ih)

-- The key is one of the keys, beside those that were.
pub is_in-plus : (j k : Key) (keys : List Key) → has_key j (plus_key k keys) ≡ (same_key j k || has_key j keys)
is_in-plus j k [] = refl
is_in-plus j k (x ∷ keys) = by (key_order k x) refl (is_in-plus j k keys)
  where
    there : (a b : Bool) → (a || b) ≡ (a || (a || b))
    there true b = refl
    there false b = refl

    swapped : (a b c : Bool) → (a || (b || c)) ≡ (b || (a || c))
    swapped true true c = refl
    swapped true false c = refl
    swapped false b c = refl

    by : (o : Ordering) → key_order k x ≡ o → has_key j (plus_key k keys) ≡ (same_key j k || has_key j keys) → has_key j (match_ordering o (k ∷ x ∷ keys) (x ∷ keys) (x ∷ plus_key k keys)) ≡ (same_key j k || (same_key j x || has_key j keys))
    by Less o ih = refl
    by Equal o ih = there (same_key j x) (has_key j keys) ∙ ap (λ z. same_key j z || (same_key j x || has_key j keys)) (sym (key_is k x o))
    by Greater o ih = ap (λ b. same_key j x || b) ih ∙ swapped (same_key j x) (same_key j k) (has_key j keys)

-- ---- a key is taken out

-- The keys ascend still.
pub ascends-without : (k : Key) (keys : List Key) → IsStrictlySortedBy key_order keys → IsStrictlySortedBy key_order (without k keys)
unfolding IsStrictlySortedBy
ascends-without k [] s = tt
ascends-without k (x ∷ keys) s = by (same_key k x) (ascends-without k keys s.1)
  where
    by : (b : Bool) → IsStrictlySortedBy key_order (without k keys) → IsStrictlySortedBy key_order (cond b keys (x ∷ without k keys))
    by true ih = s.1
    by false ih = (each-without (λ y. key_order x y ≡ Less) k keys s.0, ih)

-- Without a key that was put in they are as before.
pub without-plus : (k : Key) (keys : List Key) → IsStrictlySortedBy key_order keys → has_key k keys ≡ false → without k (plus_key k keys) ≡ keys
without-plus k keys s clean =
    same_set (without k (plus_key k keys)) keys (ascends-without k (plus_key k keys) (ascends-plus k keys s)) s (λ j. left j (same_key k j) refl)
  where
    left : (j : Key) (m : Bool) → same_key k j ≡ m → has_key j (without k (plus_key k keys)) ≡ has_key j keys
    left j m e =
        is_in-without j k (plus_key k keys) (ascends-once (plus_key k keys) (ascends-plus k keys s))
        ∙ (λ i. not (e i) && (is_in-plus j k keys ∙ ap (λ b. b || has_key j keys) (same_key-either_way j k ∙ e)) i) ∙ by m e
      where
        by : (m : Bool) → same_key k j ≡ m → (not m && (m || has_key j keys)) ≡ has_key j keys
        by true e = sym (ap (λ z. has_key z keys) (sym (same_key-eq k j e)) ∙ clean)
        by false e = refl

-- ---- the set of a list

pub ascends-set : (keys : List Key) → IsStrictlySortedBy key_order (key_set keys)
unfolding IsStrictlySortedBy
ascends-set [] = tt
ascends-set (k ∷ keys) = ascends-plus k (key_set keys) (ascends-set keys)

pub is_in-set : (j : Key) (keys : List Key) → has_key j (key_set keys) ≡ has_key j keys
is_in-set j [] = refl
is_in-set j (k ∷ keys) = is_in-plus j k (key_set keys) ∙ ap (λ b. same_key j k || b) (is_in-set j keys)

-- The set of a list that has one more key.
pub set-put : (k : Key) (keys after : List Key) → ((j : Key) → has_key j after ≡ cond (same_key k j) true (has_key j keys)) → key_set after ≡ plus_key k (key_set keys)
set-put k keys after puts =
    same_set (key_set after) (plus_key k (key_set keys)) (ascends-set after) (ascends-plus k (key_set keys) (ascends-set keys))
    (λ j. is_in-set j after ∙ puts j ∙ by (same_key k j) (has_key j keys) ∙ (λ i. same_key-either_way k j i || sym (is_in-set j keys) i)
    ∙ sym (is_in-plus j k (key_set keys)))
  where
    by : (m b : Bool) → cond m true b ≡ (m || b)
    by true b = refl
    by false b = refl

-- The set of a list that has a key no more.
pub set-taken : (k : Key) (keys after : List Key) → ((j : Key) → has_key j after ≡ cond (same_key k j) false (has_key j keys)) → key_set after ≡ without k (key_set keys)
set-taken k keys after takes =
    same_set (key_set after) (without k (key_set keys)) (ascends-set after) (ascends-without k (key_set keys) (ascends-set keys))
    (λ j. is_in-set j after ∙ takes j ∙ by (same_key k j) (has_key j keys) ∙ ap (λ b. not (same_key k j) && b) (sym (is_in-set j keys))
    ∙ sym (is_in-without j k (key_set keys) (ascends-once (key_set keys) (ascends-set keys))))
  where
    by : (m b : Bool) → cond m false b ≡ (not m && b)
    by true b = refl
    by false b = refl

-- A key that is found is the key that was looked up.
pub taken_is : (k : Key) (found : Option Key) (keys : List Key) → found ≡ find (same_key k) keys → IfSome found (λ held. held ≡ k)
taken_is k None keys e = tt
taken_is k (Some held) keys e = found_is k held keys e
