-- The order in which keys are due: the row that is due first is a least, the rows in turn are the rows in
-- ascending order, and rows that have the same moments stand in the same order.
use Rattle.std.proofs.Common.{◌≡◌, ℕ, zero, suc, ◌+◌, ◌≤◌, Bool, true, false, cond, ◌&&◌, ◌||◌, ◌==◌, nat_lt, nat_le, List, [], ◌∷◌, length, filter, Option, Some, None, is_some, refl, sym, ap, ◌∙◌, subst, arith, true≢false}
use Rattle.std.proofs.lemmas.Cmp.{nat_cmp_total, nat_list_cmp_total, on_total, then_total}
use Rattle.std.proofs.lemmas.List.Sorted.{IsPermutation-cons, IsPermutation-middle, IsPermutation-refl, IsPermutation-sym, IsPermutation-trans}
use Rattle.std.specs.Cmp.{IsTotalOrder}
use Rattle.std.specs.Cmp.Lexicographic.{slice_cmp}
use Rattle.std.specs.List.{AllByRecursion as Each, IsDistinct}
use Rattle.std.specs.List.Sorted.{IsPermutation}
use Rattle.std.specs.Map.{keys_of}
use Rattle.std.specs.Ordering.{is_lt, nat_cmp, on, then_cmp, ordering_then, ordering_reverse}
use Rattle.std.specs.declared.cmp.Ordering.{Ordering}
use Rattle.std.specs.declared.cmp.Ordering.TheVariants.{Less, Equal, Greater}
use Rattle.jc_types.specs.declared.objects.KeyNames.{KeyNames as Key}
use Rattle.jc_types.specs.Keys.{same_key}
use Rattle.jc_log.specs.Tables.{at, takes}
use Rattle.jc_types.proofs.KeyFacts.{same_key-eq, same_key-itself}
use Rattle.jc_log.proofs.TableFacts.{Apart, Apart-takes, Sets-takes}
use Rattle.jc_queue.specs.Delayed.{Delayed, IsInTurn, due_keys, first_of, in_turn, is_before, is_due, key_order, put_in_turn, sooner}
use Rattle.jc_queue.proofs.KeyOrder.{both_equal, number_is, text_is}
use Rattle.jc_queue.proofs.DueFacts.{distinct-kept, first_found, in_turn-first}
use Rattle.std.proofs.lemmas.Option.{same_Some as of_some}

-- ---- the order of rows

abbrev row_cmp : Key × ℕ → Key × ℕ → Ordering
row_cmp = then_cmp (on (λ (row : Key × ℕ). row.1) nat_cmp) (then_cmp (on (λ (row : Key × ℕ). row.0.namespace) (slice_cmp nat_cmp)) (on (λ (row : Key × ℕ). row.0.name) (slice_cmp nat_cmp)))

total : IsTotalOrder row_cmp
total = then_total (on_total (λ (row : Key × ℕ). row.1) nat_cmp_total) (then_total (on_total (λ (row : Key × ℕ). row.0.namespace) nat_list_cmp_total) (on_total (λ (row : Key × ℕ). row.0.name) nat_list_cmp_total))

pub before-cmp : (a b : Key × ℕ) → is_before a b ≡ is_lt (row_cmp a b)
before-cmp a b = by (nat_lt a.1 b.1) (a.1 == b.1) (key_order a.0 b.0)
  where
    by : (l e : Bool) (o : Ordering) → (l || (e && is_lt o)) ≡ is_lt (ordering_then (cond l Less (cond e Equal Greater)) o)
    by true e o = refl
    by false true o = refl
    by false false o = refl

-- What a comparison tells.
pub less_is : (o : Ordering) → is_lt o ≡ true → o ≡ Less
less_is Less h = refl
less_is Equal h = absurd (true≢false (sym h))
less_is Greater h = absurd (true≢false (sym h))

module _ (a b c : Key × ℕ) where
  back : row_cmp b a ≡ ordering_reverse (row_cmp a b)
  back = total.antisymm b a

  asymmetric : is_before a b ≡ true → is_before b a ≡ false
  asymmetric h = before-cmp b a ∙ ap is_lt (back ∙ ap ordering_reverse (less_is (row_cmp a b) (sym (before-cmp a b) ∙ h)))

  -- Of two rows that are not before one another both are the same.
  neither : is_before a b ≡ false → is_before b a ≡ false → row_cmp a b ≡ Equal
  neither h g = by (row_cmp a b) (sym (before-cmp a b) ∙ h) (sym (ap is_lt back) ∙ sym (before-cmp b a) ∙ g)
    where
      by : (o : Ordering) → is_lt o ≡ false → is_lt (ordering_reverse o) ≡ false → o ≡ Equal
      by Less h g = absurd (true≢false h)
      by Equal h g = refl
      by Greater h g = absurd (true≢false g)

  -- What is not before b, and b not before c, is not before c.
  not_before : is_before a b ≡ false → is_before b c ≡ false → is_before a c ≡ false
  not_before h g = by (is_before a c) refl
    where
      than : row_cmp a c ≡ Less → (o : Ordering) → row_cmp b c ≡ o → row_cmp a b ≡ Less
      than l Less e = absurd (true≢false (sym (before-cmp b c ∙ ap is_lt e) ∙ g))
      than l Equal e = total.antisymm a b ∙ ap ordering_reverse (total.congr b c a e ∙ total.antisymm c a ∙ ap ordering_reverse l)
      than l Greater e = total.trans a c b l (total.antisymm c b ∙ ap ordering_reverse e)

      by : (t : Bool) → is_before a c ≡ t → t ≡ false
      by true t = absurd (true≢false (sym (before-cmp a b ∙ ap is_lt (than (less_is (row_cmp a c) (sym (before-cmp a c) ∙ t)) (row_cmp b c) refl)) ∙ h))
      by false t = refl

pub itself : (a : Key × ℕ) → is_before a a ≡ false
itself a = by (is_before a a) refl
  where
    by : (t : Bool) → is_before a a ≡ t → t ≡ false
    by true t = absurd (true≢false (sym t ∙ asymmetric a a a t))
    by false t = refl

-- Rows that are equal in the order are equal.
pub equal_is : (a b : Key × ℕ) → row_cmp a b ≡ Equal → a ≡ b
equal_is a b e =
    let m = both_equal (nat_cmp a.1 b.1) (key_order a.0 b.0) e in
    let n = both_equal (slice_cmp nat_cmp a.0.namespace b.0.namespace) (slice_cmp nat_cmp a.0.name b.0.name) m.1 in
    λ i. (record { namespace = text_is a.0.namespace b.0.namespace n.0 i; name = text_is a.0.name b.0.name n.1 i }, number_is a.1 b.1 m.0 i)

-- ---- the first row is before all

pub first-least : (rows : List (Key × ℕ)) (f : Key × ℕ) → first_of rows ≡ Some f → Each (λ row. is_before row f ≡ false) rows
first-least [] f e = tt
first-least (row ∷ rows) f e = by (first_of rows) refl e (λ s. first-least rows s)
  where
    none : (rows : List (Key × ℕ)) → first_of rows ≡ None → Each (λ row. is_before row f ≡ false) rows
    none [] e = tt
    none (x ∷ xs) e = absurd (true≢false (ap is_some e))

    weaker : (s : Key × ℕ) → is_before s row ≡ false → (some : List (Key × ℕ)) → Each (λ x. is_before x s ≡ false) some → Each (λ x. is_before x row ≡ false) some
    weaker s t [] h = tt
    weaker s t (x ∷ xs) h = (not_before x s row h.0 t, weaker s t xs h.1)

    by : (o : Option (Key × ℕ)) → first_of rows ≡ o → Some (sooner row o) ≡ Some f → ((s : Key × ℕ) → first_of rows ≡ Some s → Each (λ x. is_before x s ≡ false) rows) → Each (λ row. is_before row f ≡ false) (row ∷ rows)
    by None o e ih = (ap (λ f. is_before row f) (sym (of_some row f e)) ∙ itself row, none rows o)
    by (Some s) o e ih = at_test (is_before s row) refl (of_some (sooner row (Some s)) f e)
      where
        at_test : (b : Bool) → is_before s row ≡ b → cond b s row ≡ f → Each (λ row. is_before row f ≡ false) (row ∷ rows)
        at_test true t e = subst (λ f. Each (λ row. is_before row f ≡ false) (row ∷ rows)) e (asymmetric s row s t, ih s o)
        at_test false t e = subst (λ f. Each (λ row. is_before row f ≡ false) (row ∷ rows)) e (itself row, weaker s t rows (ih s o))

-- What holds of each row holds of what is found.
pub each-at : (P : Key × ℕ → Type 0) (rows : List (Key × ℕ)) (k : Key) (moment : ℕ) → Each P rows → at same_key rows k ≡ Some moment → P (k, moment)
each-at P [] k moment h e = absurd (true≢false (ap is_some (sym e)))
each-at P (row ∷ rows) k moment h e = by (same_key k row.0) refl e (each-at P rows k moment h.1)
  where
    by : (b : Bool) → same_key k row.0 ≡ b → cond b (Some row.1) (at same_key rows k) ≡ Some moment → (at same_key rows k ≡ Some moment → P (k, moment)) → P (k, moment)
    by true t e rest = subst P (λ i. (sym (same_key-eq k row.0 t) i, of_some row.1 moment e i)) h.0
    by false t e rest = rest e

-- ---- equal moments, equal order

pub apart : (rows : List (Key × ℕ)) → IsDistinct same_key (keys_of rows) → Apart same_key rows
unfolding IsDistinct
apart [] d = tt
apart (row ∷ rows) d = (rest rows d.0, apart rows d.1)
  where
    rest : (some : List (Key × ℕ)) → Each (λ y. same_key row.0 y ≡ false) (keys_of some) → Each (λ other. same_key row.0 other.0 ≡ false) some
    rest [] h = tt
    rest (x ∷ some) h = (h.0, rest some h.1)

pub distinct : (rows : List (Key × ℕ)) → Apart same_key rows → IsDistinct same_key (keys_of rows)
unfolding IsDistinct
distinct [] d = tt
distinct (row ∷ rows) d = (rest rows d.0, distinct rows d.1)
  where
    rest : (some : List (Key × ℕ)) → Each (λ other. same_key row.0 other.0 ≡ false) some → Each (λ y. same_key row.0 y ≡ false) (keys_of some)
    rest [] h = tt
    rest (x ∷ some) h = (h.0, rest some h.1)

pub shorter : (k : Key) (moment : ℕ) (rows : List (Key × ℕ)) → at same_key rows k ≡ Some moment → length (takes same_key rows k) + 1 ≡ length rows
shorter k moment [] e = absurd (true≢false (ap is_some (sym e)))
shorter k moment (row ∷ rows) e = by (same_key k row.0) e (shorter k moment rows)
  where
    by : (b : Bool) → cond b (Some row.1) (at same_key rows k) ≡ Some moment → (at same_key rows k ≡ Some moment → length (takes same_key rows k) + 1 ≡ length rows) → length (cond b rows (row ∷ takes same_key rows k)) + 1 ≡ suc (length rows)
    by true e ih = omega arith
    by false e ih = let rest = ih e in omega (arith, rest)

pub is_there : (rows : List (Key × ℕ)) (k : Key) (moment : ℕ) → at same_key rows k ≡ Some moment → first_of rows ≡ None → ⊥
is_there [] k moment e n = true≢false (ap is_some (sym e))
is_there (row ∷ rows) k moment e n = true≢false (ap is_some n)

pub in_turn-same : (n : ℕ) (xs ys : List (Key × ℕ)) → length xs ≤ n → Apart same_key xs → Apart same_key ys → ((k : Key) → at same_key xs k ≡ at same_key ys k) → in_turn xs ≡ in_turn ys
in_turn-same n [] [] few a b e = refl
in_turn-same n [] (y ∷ ys) few a b e = absurd (true≢false (sym (ap is_some (e y.0 ∙ ap (λ t. cond t (Some y.1) (at same_key ys y.0)) (same_key-itself y.0)))))
in_turn-same zero (x ∷ xs) ys few a b e = absurd (omega (arith, few))
in_turn-same (suc n) (x ∷ xs) ys few a b e = by (first_of (x ∷ xs)) refl (first_of ys) refl (λ some more. in_turn-same n some more)
  where
    by : (o : Option (Key × ℕ)) → first_of (x ∷ xs) ≡ o → (p : Option (Key × ℕ)) → first_of ys ≡ p
        → ((some more : List (Key × ℕ)) → length some ≤ n → Apart same_key some → Apart same_key more → ((k : Key) → at same_key some k ≡ at same_key more k) → in_turn some ≡ in_turn more)
        → in_turn (x ∷ xs) ≡ in_turn ys
    by None o p q ih = absurd (true≢false (ap is_some o))
    by (Some f) o None q ih = absurd (is_there ys f.0 f.1 (sym (e f.0) ∙ first_found (x ∷ xs) f (distinct (x ∷ xs) a) o) q)
    by (Some f) o (Some g) q ih =
        in_turn-first (x ∷ xs) f (distinct (x ∷ xs) a) o
        ∙ (λ i. same i ∷ (ih (takes same_key (x ∷ xs) f.0) (takes same_key ys f.0) fewer (Apart-takes same_key same_key-eq same_key-itself f.0 (x ∷ xs) a) (Apart-takes same_key same_key-eq same_key-itself f.0 ys b) left i))
        ∙ ap (λ h. g ∷ in_turn (takes same_key ys h)) (ap (λ (h : Key × ℕ). h.0) same)
        ∙ sym (in_turn-first ys g (distinct ys b) q)
      where
        here : at same_key (x ∷ xs) f.0 ≡ Some f.1
        here = first_found (x ∷ xs) f (distinct (x ∷ xs) a) o

        there : at same_key ys g.0 ≡ Some g.1
        there = first_found ys g (distinct ys b) q

        same : f ≡ g
        same = equal_is f g (neither f g f
            (each-at (λ row. is_before row g ≡ false) ys f.0 f.1 (first-least ys g q) (sym (e f.0) ∙ here))
            (each-at (λ row. is_before row f ≡ false) (x ∷ xs) g.0 g.1 (first-least (x ∷ xs) f o) (e g.0 ∙ there)))

        fewer : length (takes same_key (x ∷ xs) f.0) ≤ n
        fewer = let one = shorter f.0 f.1 (x ∷ xs) here in omega (arith, one, few)

        left : (k : Key) → at same_key (takes same_key (x ∷ xs) f.0) k ≡ at same_key (takes same_key ys f.0) k
        left k = Sets-takes same_key same_key-eq same_key-itself f.0 (x ∷ xs) a k ∙ ap (λ o. cond (same_key f.0 k) None o) (e k) ∙ sym (Sets-takes same_key same_key-eq same_key-itself f.0 ys b k)

-- ---- the rows in turn

-- They are the rows, in another order.
put-permutation : (row : Key × ℕ) (rows : List (Key × ℕ)) → IsPermutation (row ∷ rows) (put_in_turn row rows)
put-permutation row [] = IsPermutation-refl (row ∷ [])
put-permutation row (first ∷ rows) = by (is_before first row) (put-permutation row rows)
  where
    by : (b : Bool) → IsPermutation (row ∷ rows) (put_in_turn row rows) → IsPermutation (row ∷ first ∷ rows) (cond b (first ∷ put_in_turn row rows) (row ∷ first ∷ rows))
    by true ih =
        IsPermutation-trans (row ∷ first ∷ rows) (first ∷ row ∷ rows) (first ∷ put_in_turn row rows)
        (IsPermutation-sym (first ∷ row ∷ rows) (row ∷ first ∷ rows) (IsPermutation-middle (first ∷ []) row rows))
        (IsPermutation-cons first (row ∷ rows) (put_in_turn row rows) ih)
    by false ih = IsPermutation-refl (row ∷ first ∷ rows)

pub in_turn-permutation : (rows : List (Key × ℕ)) → IsPermutation rows (in_turn rows)
in_turn-permutation [] = IsPermutation-refl []
in_turn-permutation (row ∷ rows) =
    IsPermutation-trans (row ∷ rows) (row ∷ in_turn rows) (put_in_turn row (in_turn rows))
    (IsPermutation-cons row rows (in_turn rows) (in_turn-permutation rows)) (put-permutation row (in_turn rows))

-- What holds of the row and of each of the rows holds of all.
each-put : (P : Key × ℕ → Type 0) (row : Key × ℕ) (rows : List (Key × ℕ)) → P row → Each P rows → Each P (put_in_turn row rows)
each-put P row [] p h = (p, tt)
each-put P row (first ∷ rows) p h = by (is_before first row) (each-put P row rows p h.1)
  where
    by : (b : Bool) → Each P (put_in_turn row rows) → Each P (cond b (first ∷ put_in_turn row rows) (row ∷ first ∷ rows))
    by true ih = (h.0, ih)
    by false ih = (p, h)

-- They are in ascending order.
put-in_turn : (row : Key × ℕ) (rows : List (Key × ℕ)) → IsInTurn rows → IsInTurn (put_in_turn row rows)
put-in_turn row [] h = (tt, tt)
put-in_turn row (first ∷ rows) h = by (is_before first row) refl (put-in_turn row rows h.1)
  where
    later : is_before first row ≡ false → (some : List (Key × ℕ)) → Each (λ x. is_before x first ≡ false) some → Each (λ x. is_before x row ≡ false) some
    later t [] h = tt
    later t (x ∷ some) h = (not_before x first row h.0 t, later t some h.1)

    by : (b : Bool) → is_before first row ≡ b → IsInTurn (put_in_turn row rows) → IsInTurn (cond b (first ∷ put_in_turn row rows) (row ∷ first ∷ rows))
    by true t ih = (each-put (λ x. is_before x first ≡ false) row rows (asymmetric first row first t) h.0, ih)
    by false t ih = ((t, later t rows h.0), h)

pub in_turn-sorted : (rows : List (Key × ℕ)) → IsInTurn (in_turn rows)
in_turn-sorted [] = tt
in_turn-sorted (row ∷ rows) = put-in_turn row (in_turn rows) (in_turn-sorted rows)

-- ---- equal moments, equal keys that are due

-- The moment, where it has come.
abbrev come : ℕ → Option ℕ → Option ℕ
come now None = None
come now (Some moment) = cond (nat_le moment now) (Some moment) None

absent : (k : Key) (rows : List (Key × ℕ)) → Each (λ y. same_key k y ≡ false) (keys_of rows) → at same_key rows k ≡ None
absent k [] h = refl
absent k (row ∷ rows) h = ap (λ b. cond b (Some row.1) (at same_key rows k)) h.0 ∙ absent k rows h.1

at-due : (now : ℕ) (rows : List (Key × ℕ)) (k : Key) → IsDistinct same_key (keys_of rows) → at same_key (filter (is_due now) rows) k ≡ come now (at same_key rows k)
unfolding IsDistinct
at-due now [] k d = refl
at-due now (row ∷ rows) k d = by (nat_le row.1 now) refl (same_key k row.0) refl (at-due now rows k d.1)
  where
    by : (t : Bool) → nat_le row.1 now ≡ t → (s : Bool) → same_key k row.0 ≡ s → at same_key (filter (is_due now) rows) k ≡ come now (at same_key rows k)
        → at same_key (cond t (row ∷ filter (is_due now) rows) (filter (is_due now) rows)) k ≡ come now (cond s (Some row.1) (at same_key rows k))
    by true t true s ih =
        ap (λ b. cond b (Some row.1) (at same_key (filter (is_due now) rows) k)) s ∙ sym (ap (λ b. cond b (Some row.1) None) t)
    by true t false s ih = ap (λ b. cond b (Some row.1) (at same_key (filter (is_due now) rows) k)) s ∙ ih
    by false t true s ih =
        ih ∙ ap (λ k. come now (at same_key rows k)) (same_key-eq k row.0 s) ∙ ap (come now) (absent row.0 rows d.0)
        ∙ sym (ap (λ b. cond b (Some row.1) None) t)
    by false t false s ih = ih

pub due_keys-same : (d e : Delayed) (now : ℕ) → IsDistinct same_key (keys_of d.moments) → IsDistinct same_key (keys_of e.moments) → ((k : Key) → at same_key d.moments k ≡ at same_key e.moments k) → due_keys d now ≡ due_keys e now
due_keys-same d e now once again same =
    ap keys_of
    (in_turn-same (length (filter (is_due now) d.moments)) (filter (is_due now) d.moments) (filter (is_due now) e.moments) (omega arith)
    (apart (filter (is_due now) d.moments) (distinct-kept (is_due now) d.moments once)) (apart (filter (is_due now) e.moments) (distinct-kept (is_due now) e.moments again))
    (λ k. at-due now d.moments k once ∙ ap (come now) (same k) ∙ sym (at-due now e.moments k again)))
