-- Sets of completed indexes that lose their members from a number on.
use Rattle.std.proofs.Common.{◌≡◌, ℕ, ◌+◌, ◌<◌, zero, suc, nat_lt, Bool, true, false, cond, eqb, ltb, ◌&&◌, ◌||◌, List, [], ◌∷◌, ◌++◌, filter, take, length, get_or, refl, ap, sym, ◌∙◌, arith}
use Rattle.std.specs.List.{All, AllByRecursion as Each}
use Rattle.std.proofs.Math.Bool.{and-false}
use Rattle.std.proofs.lemmas.Bool.{eqb-true, lt-ltb, le-ltb, ltb-true, ltb-false}
use Rattle.std.proofs.lemmas.List.{take_all, take_more}
use Rattle.std.proofs.lemmas.List.Elements.{All-from_recursion}
use Rattle.std.proofs.lemmas.List.Sums.{length-filter}
use Rattle.jc_ranges.specs.Sets.{IsIncreasing, IsSet, count_below, has, with_member}
use Rattle.jc_types.proofs.ListFacts.{Each-append, Each-filter, Each-passes, Each-weaker, filter_all, filter_none}
use Rattle.jc_states.specs.UidLists.{join}
use Rattle.jc_account.specs.Modes.{kept_indexes}

-- ---- members

-- The members below a number.
has-below : (n c : ℕ) (xs : List ℕ) → has n (filter (λ k. ltb k c) xs) ≡ (has n xs && ltb n c)
has-below n c [] = refl
has-below n c (x ∷ xs) = by (ltb x c) refl (eqb x n) refl (has-below n c xs)
  where
    by : (l : Bool) → ltb x c ≡ l → (e : Bool) → eqb x n ≡ e → has n (filter (λ k. ltb k c) xs) ≡ (has n xs && ltb n c)
        → has n (cond l (x ∷ filter (λ k. ltb k c) xs) (filter (λ k. ltb k c) xs)) ≡ ((e || has n xs) && ltb n c)
    by true l true e h =
        ap (λ b. b || has n (filter (λ k. ltb k c) xs)) e ∙ sym (sym (ap (λ k. ltb k c) (eqb-true x n e)) ∙ l)
    by true l false e h = ap (λ b. b || has n (filter (λ k. ltb k c) xs)) e ∙ h
    by false l true e h =
        let past : ltb n c ≡ false = sym (ap (λ k. ltb k c) (eqb-true x n e)) ∙ l in
        h ∙ ap (λ b. has n xs && b) past ∙ and-false (has n xs) ∙ sym past
    by false l false e h = h

-- The members that stay.
pub has-kept : (n c : ℕ) (ended : Bool) (xs : List ℕ) → has n (kept_indexes ended c xs) ≡ (has n xs && (ended || ltb n c))
has-kept n c true xs = all (has n xs)
  where
    all : (b : Bool) → b ≡ (b && true)
    all true = refl
    all false = refl
has-kept n c false xs = has-below n c xs

pub has-within : (n c : ℕ) (xs : List ℕ) → has n (filter (λ k. ltb k c) xs) ≡ (ltb n c && has n xs)
has-within n c xs = has-below n c xs ∙ swap (has n xs) (ltb n c)
  where
    swap : (a b : Bool) → (a && b) ≡ (b && a)
    swap true true = refl
    swap true false = refl
    swap false true = refl
    swap false false = refl

-- ---- each is below a number

pub each-with : (P : ℕ → Type 0) (n : ℕ) (xs : List ℕ) → P n → Each P xs → Each P (with_member n xs)
each-with P n xs p h =
    Each-append P (filter (λ x. nat_lt x n) xs) (n ∷ filter (λ x. nat_lt n x) xs) (Each-filter P (λ x. nat_lt x n) xs h) (p, Each-filter P (λ x. nat_lt n x) xs h)

pub each-join : (P : ℕ → Type 0) (xs more : List ℕ) → Each P xs → Each P more → Each P (join xs more)
each-join P xs [] h m = h
each-join P xs (n ∷ more) h m = each-with P n (join xs more) m.0 (each-join P xs more h m.1)

each-below : (c : ℕ) (xs : List ℕ) → Each (λ n. n < c) (filter (λ n. ltb n c) xs)
each-below c xs =
    Each-weaker (λ n. ltb n c ≡ true) (λ n. n < c) (λ n h. ltb-true n c h) (filter (λ n. ltb n c) xs) (Each-passes (λ n. ltb n c) xs)

pub joined-below : (c : ℕ) (xs more : List ℕ) → All (λ n. n < c) (join (filter (λ n. ltb n c) xs) (filter (λ n. ltb n c) more))
joined-below c xs more =
    All-from_recursion (λ n. n < c) (join (filter (λ n. ltb n c) xs) (filter (λ n. ltb n c) more))
    (each-join (λ n. n < c) (filter (λ n. ltb n c) xs) (filter (λ n. ltb n c) more) (each-below c xs) (each-below c more))

-- ---- the first members of a set

-- What holds of each holds at a place.
pub each-at : (P : ℕ → Type 0) (xs : List ℕ) (i d : ℕ) → Each P xs → i < length xs → P (get_or xs i d)
each-at P [] i d h lt = absurd (omega (arith, lt))
each-at P (x ∷ xs) zero d h lt = h.0
each-at P (x ∷ xs) (suc i) d h lt = each-at P xs i d h.1 (omega (arith, lt))

-- What stands before a place is below what stands there.
front-below : (xs : List ℕ) (i d : ℕ) → IsIncreasing xs → i < length xs → Each (λ y. y < get_or xs i d) (take i xs)
front-below [] i d up lt = absurd (omega (arith, lt))
front-below (x ∷ xs) zero d up lt = tt
front-below (x ∷ xs) (suc i) d up lt = (each-at (λ y. x < y) xs i d up.0 (omega (arith, lt)), front-below xs i d up.1 (omega (arith, lt)))

-- A number above all members comes last.
pub with-last : (n : ℕ) (xs : List ℕ) → Each (λ x. x < n) xs → with_member n xs ≡ xs ++ n ∷ []
with-last n xs h =
    ap (λ ys. ys ++ n ∷ filter (λ x. nat_lt n x) xs)
    (filter_all (λ x. nat_lt x n) xs (Each-weaker (λ x. x < n) (λ x. nat_lt x n ≡ true) (λ x l. lt-ltb x n l) xs h))
    ∙ ap (λ ys. xs ++ n ∷ ys)
    (filter_none (λ x. nat_lt n x) xs (Each-weaker (λ x. x < n) (λ x. nat_lt n x ≡ false) (λ x l. le-ltb n x (omega (arith, l))) xs h))

-- The next member of a set joins those before it.
pub next-member : (set members : List ℕ) (i n : ℕ) → IsSet set → i < length set → n ≡ get_or set i 0 → members ≡ take i set → with_member n members ≡ take (i + 1) set
next-member set members i n is lt at are =
    ap (with_member n) are
    ∙ ap (λ k. with_member k (take i set)) at
    ∙ with-last (get_or set i 0) (take i set) (front-below set i 0 is.increasing lt)
    ∙ sym (take_more set i 0 lt)

-- The members below a number are the first ones.
pub first-below : (c : ℕ) (xs : List ℕ) → IsIncreasing xs → take (count_below c xs) xs ≡ filter (λ n. ltb n c) xs
first-below c xs up = ap (λ k. take k xs) (sym (length-filter (λ x. ltb x c) xs)) ∙ by xs up
  where
    by : (xs : List ℕ) → IsIncreasing xs → take (length (filter (λ n. ltb n c) xs)) xs ≡ filter (λ n. ltb n c) xs
    by [] up = refl
    by (x ∷ xs) up = one (ltb x c) refl (by xs up.1)
      where
        one : (b : Bool) → ltb x c ≡ b → take (length (filter (λ n. ltb n c) xs)) xs ≡ filter (λ n. ltb n c) xs
            → take (length (cond b (x ∷ filter (λ n. ltb n c) xs) (filter (λ n. ltb n c) xs))) (x ∷ xs) ≡ cond b (x ∷ filter (λ n. ltb n c) xs) (filter (λ n. ltb n c) xs)
        one true e h = ap (λ ys. x ∷ ys) h
        one false e h =
            let none = filter_none (λ n. ltb n c) xs
            (Each-weaker (λ y. x < y) (λ y. ltb y c ≡ false) (λ y l. le-ltb y c (omega (arith, l, ltb-false x c e))) xs up.0) in
            ap (λ ys. take (length ys) (x ∷ xs)) none ∙ sym none

-- Where as many are below as there are, all are.
pub all-below : (c : ℕ) (xs : List ℕ) → IsIncreasing xs → count_below c xs ≡ length xs → xs ≡ filter (λ n. ltb n c) xs
all-below c xs up e = sym (take_all (count_below c xs) xs (omega (arith, e))) ∙ first-below c xs up
