-- Facts on a number that is put into runs, and on numbers that are put behind them.
use Rattle.std.proofs.Common.{◌≡◌, Bool, ◌≢◌, ℕ, zero, suc, ◌+◌, ◌-◌, ◌<◌, ◌≤◌, true, false, ltb, List, [], ◌∷◌, ◌++◌, length, get_or, take, drop, set, refl, sym, ap, ◌∙◌, subst, inl, inr, arith, append_assoc, length-append}
use Rattle.std.proofs.lemmas.Bool.{lt-ltb, le-ltb, cases_lt, cases_order, eqb-true, eqb-false, eq-eqb, leb-false, ne_eqb, false≢true}
use Rattle.std.proofs.lemmas.List.{append-nil, take_all}
use Rattle.std.proofs.lemmas.Option.{slice_get-get_or, slice_get_past}
use Rattle.std.specs.List.{AllByRecursion, range_with_len, flat_map, filter, slice_get, insert, remove}
use Rattle.jc_ranges.specs.Sets.{IsIncreasing, has, with_member}
use Rattle.jc_ranges.specs.Texts.{numbers, single, StandApart}
use Rattle.jc_ranges.specs.Runs.{PartsAt, ends_before, joins_before, joins_after}
use Rattle.jc_ranges.specs.declared.runs.Run.{Run}
use Rattle.jc_ranges.specs.declared.bounds.TheConstants.{GREATEST_INDEX}
use Rattle.jc_ranges.proofs.Order.{each_weaker}
use Rattle.jc_ranges.proofs.Back.{run_from, numbers_single}
use Rattle.jc_ranges.proofs.Apart.{run_greatest, apart_least, begins_by, has_place}

-- The new runs stand apart, and have the number beside the old ones.
pub record Puts (low n : ℕ) (old new : List Run) : Type 0 where
  pub apart : StandApart low new
  pub numbers : flat_map numbers new ≡ with_member n (flat_map numbers old)

-- A member more, below or above others.
below_none : (n : ℕ) (xs : List ℕ) → AllByRecursion (λ x. n < x) xs → filter (λ x. ltb x n) xs ≡ []
below_none n [] a = refl
below_none n (x ∷ xs) a = let lt : n < x = a.0 in rw (le-ltb x n (omega arith)) (below_none n xs a.1)

above_all : (n : ℕ) (xs : List ℕ) → AllByRecursion (λ x. n < x) xs → filter (λ x. ltb n x) xs ≡ xs
above_all n [] a = refl
above_all n (x ∷ xs) a = rw (lt-ltb n x a.0) (ap (λ z. x ∷ z) (above_all n xs a.1))

with_above : (n : ℕ) (xs : List ℕ) → AllByRecursion (λ x. n < x) xs → with_member n xs ≡ n ∷ xs
with_above n xs a = rw (below_none n xs a, above_all n xs a)

with_below : (n : ℕ) (ys xs : List ℕ) → AllByRecursion (λ y. y < n) ys → with_member n (ys ++ xs) ≡ ys ++ with_member n xs
with_below n [] xs a = refl
with_below n (y ∷ ys) xs a =
    let lt : y < n = a.0 in
    rw (lt-ltb y n lt, le-ltb n y (omega arith)) (ap (λ z. y ∷ z) (with_below n ys xs a.1))

-- The numbers of two runs that touch are those of one.
range_append : (a j k m b : ℕ) → m ≡ j + k → b ≡ a + j → range_with_len a m ≡ range_with_len a j ++ range_with_len b k
range_append a zero k m b e f = let long : m ≡ k = omega arith in let at : b ≡ a = omega arith in rw (long, at)
range_append a (suc j) k m b e f = let long : m ≡ suc (j + k) = omega arith in rw long (ap (λ z. a ∷ z) (range_append (a + 1) j k (j + k) b refl (omega arith)))

numbers_join : (first mid last : ℕ) → first ≤ suc mid → mid ≤ last → numbers (record { first = first; last = last }) ≡ numbers (record { first = first; last = mid }) ++ numbers (record { first = suc mid; last = last })
numbers_join first mid last h k = range_append first (suc mid - first) (suc last - suc mid) (suc last - first) (suc mid) (omega arith) (omega arith)

-- A run before the others.
before_others : (n : ℕ) (q : Run) (old new : List Run) → StandApart (suc (suc q.last)) new → q.first ≤ q.last → q.last < n → flat_map numbers new ≡ with_member n (flat_map numbers old) →
    flat_map numbers (q ∷ new) ≡ with_member n (flat_map numbers (q ∷ old))
before_others n q old new a o h e =
    ap (λ z. numbers q ++ z) e ∙ sym (with_below n (numbers q) (flat_map numbers old) (each_weaker (λ x. x ≤ q.last) (λ x. x < n) (λ x k. omega arith) (numbers q) (run_greatest q o)))

above_others : (n low : ℕ) (rs : List Run) → StandApart low rs → n < low → with_member n (flat_map numbers rs) ≡ n ∷ flat_map numbers rs
above_others n low rs a h = with_above n (flat_map numbers rs) (each_weaker (λ x. low ≤ x) (λ x. n < x) (λ x k. omega arith) (flat_map numbers rs) (apart_least low rs a))

-- The run before a place takes the number.
pub put_before : (low n : ℕ) (rs : List Run) (i : ℕ) (d : Run) → n ≤ GREATEST_INDEX → StandApart low rs → i < length rs → n ≡ suc (get_or rs i d).last → AllByRecursion (λ r. r.last < n)
    (take (suc i) rs) → StandApart (suc (suc n)) (drop (suc i) rs) → Puts low n rs (set rs i (record { first = (get_or rs i d).first; last = n }))
put_before low n [] i d s a h e b c = absurd (omega arith)
put_before low n (q ∷ rs) zero d s a h e b c =
    let ordered : q.first ≤ q.last = a.0.ordered in
    let one : numbers (record { first = suc q.last; last = n }) ≡ n ∷ [] = rw (sym e) (numbers_single n) in
    record {
      apart = (record { above = a.0.above; ordered = omega arith; small = s }, c);
      numbers = ap (λ z. z ++ flat_map numbers rs) (numbers_join q.first q.last n (omega arith) (omega arith) ∙ ap (λ z. numbers q ++ z) one)
          ∙ append_assoc (numbers q) (n ∷ []) (flat_map numbers rs) ∙ ap (λ z. numbers q ++ z) (sym (above_others n (suc (suc n)) rs c (omega arith)))
          ∙ sym (with_below n (numbers q) (flat_map numbers rs) (each_weaker (λ x. x ≤ q.last) (λ x. x < n) (λ x k. omega arith) (numbers q) (run_greatest q ordered)));
    }
put_before low n (q ∷ rs) (suc i) d s a h e b c =
    let more = put_before (suc (suc q.last)) n rs i d s a.1 (omega arith) e b.1 c in
    record { apart = (a.0, more.apart); numbers = before_others n q rs _ more.apart a.0.ordered b.0 more.numbers }

-- The runs round a place become one with the number.
pub put_between : (low n : ℕ) (rs : List Run) (i : ℕ) (d o : Run) → StandApart low rs → suc i < length rs → n ≡ suc (get_or rs i d).last → (get_or rs (suc i) o).first ≡ suc n → AllByRecursion
    (λ r. r.last < n) (take (suc i) rs) → Puts low n rs (remove (set rs i (record { first = (get_or rs i d).first; last = (get_or rs (suc i) o).last })) (suc i))
put_between low n [] i d o a h e f b = absurd (omega arith)
put_between low n (q ∷ []) zero d o a h e f b = absurd (omega arith)
put_between low n (q ∷ s ∷ rs) zero d o a h e f b =
    let ordered : q.first ≤ q.last = a.0.ordered in
    let next : s.first ≤ s.last = a.1.0.ordered in
    let two : numbers (record { first = suc q.last; last = s.last }) ≡ n ∷ numbers s =
    ap (λ m. numbers (record { first = m; last = s.last })) (sym e) ∙ run_from n s.last (omega arith) ∙ ap (λ m. n ∷ range_with_len m (suc s.last - m)) (sym f) in
    record {
      apart = (record { above = a.0.above; ordered = omega arith; small = a.1.0.small }, a.1.1);
      numbers = ap (λ z. z ++ flat_map numbers rs) (numbers_join q.first q.last s.last (omega arith) (omega arith) ∙ ap (λ z. numbers q ++ z) two)
          ∙ append_assoc (numbers q) (n ∷ numbers s) (flat_map numbers rs) ∙ ap (λ z. numbers q ++ z) (sym (above_others n s.first (s ∷ rs) (record { above = omega arith; ordered = next; small = a.1.0.small }, a.1.1) (omega arith)))
          ∙ sym (with_below n (numbers q) (flat_map numbers (s ∷ rs)) (each_weaker (λ x. x ≤ q.last) (λ x. x < n) (λ x k. omega arith) (numbers q) (run_greatest q ordered)));
    }
put_between low n (q ∷ rs) (suc i) d o a h e f b =
    let more = put_between (suc (suc q.last)) n rs i d o a.1 (omega arith) e f b.1 in
    record { apart = (a.0, more.apart); numbers = before_others n q rs _ more.apart a.0.ordered b.0 more.numbers }

-- The run at a place takes the number.
pub put_after : (low n : ℕ) (rs : List Run) (i : ℕ) (d : Run) → StandApart low rs → low ≤ n → i < length rs → (get_or rs i d).first ≡ suc n → AllByRecursion (λ r. suc r.last < n) (take i rs) →
    Puts low n rs (set rs i (record { first = n; last = (get_or rs i d).last }))
put_after low n [] i d a l h e b = absurd (omega arith)
put_after low n (q ∷ rs) zero d a l h e b =
    let ordered : q.first ≤ q.last = a.0.ordered in
    record {
      apart = (record { above = l; ordered = omega arith; small = a.0.small }, a.1);
      numbers = ap (λ z. z ++ flat_map numbers rs) (run_from n q.last (omega arith) ∙ ap (λ m. n ∷ range_with_len m (suc q.last - m)) (sym e))
          ∙ sym (above_others n q.first (q ∷ rs) (record { above = omega arith; ordered = ordered; small = a.0.small }, a.1) (omega arith));
    }
put_after low n (q ∷ rs) (suc i) d a l h e b =
    let below : suc q.last < n = b.0 in
    let more = put_after (suc (suc q.last)) n rs i d a.1 (omega arith) (omega arith) e b.1 in
    record { apart = (a.0, more.apart); numbers = before_others n q rs _ more.apart a.0.ordered (omega arith) more.numbers }

-- The number is a run of its own.
pub put_alone : (low n : ℕ) (rs : List Run) (i : ℕ) → n ≤ GREATEST_INDEX → StandApart low rs → low ≤ n → i ≤ length rs → AllByRecursion (λ r. suc r.last < n) (take i rs) → StandApart (suc (suc n)) (drop i rs) → Puts low n rs (insert rs i (single n))
put_alone low n rs zero s a l h b c = record {
  apart = (record { above = l; ordered = omega arith; small = s }, c);
  numbers = ap (λ z. z ++ flat_map numbers rs) (numbers_single n) ∙ sym (above_others n (suc (suc n)) rs c (omega arith));
}
put_alone low n [] (suc i) s a l h b c = absurd (omega arith)
put_alone low n (q ∷ rs) (suc i) s a l h b c =
    let below : suc q.last < n = b.0 in
    let more = put_alone (suc (suc q.last)) n rs i s a.1 (omega arith) (omega arith) b.1 c in
    record { apart = (a.0, more.apart); numbers = before_others n q rs _ more.apart a.0.ordered (omega arith) more.numbers }

ne_lt : (a b : ℕ) → b ≤ a → a ≢ b → b < a
ne_lt a b h k = elim (cases_lt b a) [ inl lt ↦ lt | inr ge ↦ absurd (k (omega arith)) ]

-- Where the run before a place does not end right before n, none of the runs before it does.
pub strictly_below : (low n : ℕ) (rs : List Run) (i : ℕ) → i ≤ length rs → StandApart low rs → AllByRecursion (λ r. r.last < n) (take i rs) → joins_before n rs i ≡ false → AllByRecursion (λ r. suc r.last < n) (take i rs)
strictly_below low n [] zero h a b j = tt
strictly_below low n [] (suc i) h a b j = tt
strictly_below low n (r ∷ rs) zero h a b j = tt
strictly_below low n (r ∷ rs) (suc zero) h a b j =
    let below : r.last < n = b.0 in
    let apart : n ≢ suc r.last = eqb-false n (suc r.last) j in
    (ne_lt n (suc r.last) below apart, tt)
strictly_below low n (r ∷ []) (suc (suc i)) h a b j = absurd (omega arith)
strictly_below low n (r ∷ q ∷ rs) (suc (suc i)) h a b j =
    let above : suc (suc r.last) ≤ q.first = a.1.0.above in
    let ordered : q.first ≤ q.last = a.1.0.ordered in
    let below : q.last < n = b.1.0 in
    (omega arith, strictly_below (suc (suc r.last)) n (q ∷ rs) (suc i) (omega arith) a.1 b.1 j)

-- Where the run at a place does not begin right behind n, and none has n, a run of n may stand before it.
pub apart_behind : (low n : ℕ) (rs : List Run) (i : ℕ) → StandApart low rs → begins_by n (slice_get rs i) ≡ false → joins_after n (slice_get rs i) ≡ false → StandApart (suc (suc n)) (drop i rs)
apart_behind low n [] zero a b j = tt
apart_behind low n [] (suc i) a b j = tt
apart_behind low n (r ∷ rs) zero a b j =
    let after : n < r.first = leb-false r.first n b in
    let apart : r.first ≢ suc n = eqb-false r.first (suc n) j in
    (record { above = ne_lt r.first (suc n) after apart; ordered = a.0.ordered; small = a.0.small }, a.1)
apart_behind low n (r ∷ rs) (suc i) a b j = apart_behind (suc (suc r.last)) n rs i a.1 b j

-- Numbers that are put behind all runs, as a run of their own and into the last run.
pub record Pushes (low first last : ℕ) (old new : List Run) : Type 0 where
  pub apart : StandApart low new
  pub numbers : flat_map numbers new ≡ flat_map numbers old ++ numbers (record { first = first; last = last })
  pub below : AllByRecursion (λ r. r.last < last + 1) new

push_alone : (low first last : ℕ) (rs : List Run) → low ≤ first → first ≤ last → last ≤ GREATEST_INDEX → StandApart low rs → AllByRecursion (λ r. suc r.last < first) rs → Pushes low first last rs (rs ++ (record { first = first; last = last }) ∷ [])
push_alone low first last [] l o s a b = record { apart = (record { above = l; ordered = o; small = s }, tt); numbers = append-nil _; below = (omega arith, tt) }
push_alone low first last (r ∷ rs) l o s a b =
    let below : suc r.last < first = b.0 in
    let more = push_alone (suc (suc r.last)) first last rs (omega arith) o s a.1 b.1 in
    record {
      apart = (a.0, more.apart);
      numbers = ap (λ z. numbers r ++ z) more.numbers ∙ sym (append_assoc (numbers r) (flat_map numbers rs) (numbers (record { first = first; last = last })));
      below = (omega arith, more.below);
    }

push_on : (low first last : ℕ) (rs : List Run) (i : ℕ) (d : Run) → first ≤ last → last ≤ GREATEST_INDEX → StandApart low rs → suc i ≡ length rs → first ≡ suc (get_or rs i d).last → AllByRecursion
    (λ r. r.last < first) rs → Pushes low first last rs (set rs i (record { first = (get_or rs i d).first; last = last }))
push_on low first last [] i d o s a h e b = absurd (omega arith)
push_on low first last (r ∷ []) zero d o s a h e b =
    let ordered : r.first ≤ r.last = a.0.ordered in
    record {
      apart = (record { above = a.0.above; ordered = omega arith; small = s }, tt);
      numbers = append-nil (numbers (record { first = r.first; last = last })) ∙ numbers_join r.first r.last last (omega arith) (omega arith)
          ∙ ap (λ m. numbers r ++ numbers (record { first = m; last = last })) (sym e) ∙ ap (λ z. z ++ numbers (record { first = first; last = last })) (sym (append-nil (numbers r)));
      below = (omega arith, tt);
    }
push_on low first last (r ∷ q ∷ rs) zero d o s a h e b = absurd (omega arith)
push_on low first last (r ∷ rs) (suc i) d o s a h e b =
    let below : r.last < first = b.0 in
    let more = push_on (suc (suc r.last)) first last rs i d o s a.1 (omega arith) e b.1 in
    record {
      apart = (a.0, more.apart);
      numbers = ap (λ z. numbers r ++ z) more.numbers ∙ sym (append_assoc (numbers r) (flat_map numbers rs) (numbers (record { first = first; last = last })));
      below = (omega arith, more.below);
    }

-- The run before the place, and the one at it, as tests find them.
pub place_some : (n : ℕ) (rs : List Run) (place : ℕ) → joins_before n rs place ≡ true → 0 < place
place_some n rs zero e = absurd (false≢true e)
place_some n rs (suc j) e = omega arith

ends_at : (n : ℕ) (rs : List Run) (j : ℕ) (d : Run) → j < length rs → ends_before n (slice_get rs j) ≡ true → n ≡ suc (get_or rs j d).last
ends_at n rs j d h e = eqb-true n (suc (get_or rs j d).last) (ap (ends_before n) (sym (slice_get-get_or rs j d h)) ∙ e)

begins_at : (n : ℕ) (rs : List Run) (j : ℕ) (d : Run) → j < length rs → joins_after n (slice_get rs j) ≡ true → (get_or rs j d).first ≡ suc n
begins_at n rs j d h e = eqb-true (get_or rs j d).first (suc n) (ap (joins_after n) (sym (slice_get-get_or rs j d h)) ∙ e)

pub found_after : (n : ℕ) (rs : List Run) (place : ℕ) → joins_after n (slice_get rs place) ≡ true → place < length rs
found_after n rs place e =
    elim (cases_lt place (length rs)) [
      | inl lt ↦ lt
      | inr ge ↦ absurd (false≢true (ap (joins_after n) (sym (slice_get_past rs place ge)) ∙ e))
    ]

-- What the tests say of the runs of which they were asked.
pub before_is : (n place : ℕ) (xs rs : List Run) (b : Bool) → xs ≡ rs → b ≡ joins_before n xs place → joins_before n rs place ≡ b
before_is n place xs rs b same e = ap (λ z. joins_before n z place) (sym same) ∙ sym e

pub after_is : (n place : ℕ) (xs rs : List Run) (b : Bool) → xs ≡ rs → b ≡ joins_after n (slice_get xs place) → joins_after n (slice_get rs place) ≡ b
after_is n place xs rs b same e = ap (λ z. joins_after n (slice_get z place)) (sym same) ∙ sym e

-- The four cases of a number that is put.
pub case_between : (n : ℕ) (rs : List Run) (place j : ℕ) (r s : Run) → place ≡ suc j → StandApart 0 rs → PartsAt n rs place → joins_before n rs place ≡ true → joins_after n (slice_get rs place) ≡ true
    → r ≡ get_or rs j r → s ≡ get_or rs place s → Puts 0 n rs (remove (set rs j (record { first = r.first; last = s.last })) place)
case_between n rs place j r s e a p b c f g =
    let q = subst (λ m. PartsAt n rs m) e p in
    let within = subst (λ m. m < length rs) e (found_after n rs place c) in
    let ends = ends_at n rs j r (omega arith) (subst (λ m. joins_before n rs m ≡ true) e b) in
    let begins = begins_at n rs (suc j) s within (subst (λ m. joins_after n (slice_get rs m) ≡ true) e c) in
    let last : (get_or rs (suc j) s).last ≡ s.last = ap (λ m. (get_or rs m s).last) (sym e) ∙ ap (λ (t : Run). t.last) (sym g) in
    let first : (get_or rs j r).first ≡ r.first = ap (λ (t : Run). t.first) (sym f) in
    let one = put_between 0 n rs j r s a within ends begins q.below in
    subst (λ m. Puts 0 n rs (remove (set rs j (record { first = r.first; last = s.last })) m)) (sym e)
    (subst (λ m. Puts 0 n rs (remove (set rs j (record { first = m; last = s.last })) (suc j))) first
    (subst (λ m. Puts 0 n rs (remove (set rs j (record { first = (get_or rs j r).first; last = m })) (suc j))) last one))

pub case_before : (n : ℕ) (rs : List Run) (place j : ℕ) (r : Run) → place ≡ suc j → n ≤ GREATEST_INDEX → StandApart 0 rs → PartsAt n rs place → has n (flat_map numbers rs) ≡ false →
    joins_before n rs place ≡ true → joins_after n (slice_get rs place) ≡ false → r ≡ get_or rs j r → Puts 0 n rs (set rs j (record { first = r.first; last = n }))
case_before n rs place j r e small a p fresh b c f =
    let q = subst (λ m. PartsAt n rs m) e p in
    let within : suc j ≤ length rs = q.within in
    let ends = ends_at n rs j r (omega arith) (subst (λ m. joins_before n rs m ≡ true) e b) in
    let after = subst (λ m. StandApart (suc (suc n)) (drop m rs)) e (apart_behind 0 n rs place a (sym (has_place 0 n rs place a p.below p.above) ∙ fresh) c) in
    let first : (get_or rs j r).first ≡ r.first = ap (λ (t : Run). t.first) (sym f) in
    subst (λ m. Puts 0 n rs (set rs j (record { first = m; last = n }))) first (put_before 0 n rs j r small a (omega arith) ends q.below after)

pub case_after : (n : ℕ) (rs : List Run) (place : ℕ) (r : Run) → StandApart 0 rs → PartsAt n rs place → joins_before n rs place ≡ false → joins_after n (slice_get rs place) ≡ true → r
    ≡ get_or rs place r → Puts 0 n rs (set rs place (record { first = n; last = r.last }))
case_after n rs place r a p b c f =
    let within = found_after n rs place c in
    let last : (get_or rs place r).last ≡ r.last = ap (λ (t : Run). t.last) (sym f) in
    subst (λ m. Puts 0 n rs (set rs place (record { first = n; last = m }))) last
    (put_after 0 n rs place r a (omega arith) within (begins_at n rs place r within c) (strictly_below 0 n rs place p.within a p.below b))

pub case_alone : (n : ℕ) (rs : List Run) (place : ℕ) → n ≤ GREATEST_INDEX → StandApart 0 rs → PartsAt n rs place → has n (flat_map numbers rs) ≡ false → joins_before n rs place ≡ false → joins_after n
    (slice_get rs place) ≡ false → Puts 0 n rs (insert rs place (single n))
case_alone n rs place small a p fresh b c =
    put_alone 0 n rs place small a (omega arith) p.within (strictly_below 0 n rs place p.within a p.below b)
    (apart_behind 0 n rs place a (sym (has_place 0 n rs place a p.below p.above) ∙ fresh) c)

-- The two cases of numbers that are put behind the others.
pub case_on : (first last : ℕ) (rs : List Run) (place j : ℕ) (r : Run) → place ≡ suc j → place ≡ length rs → first ≤ last → last ≤ GREATEST_INDEX → StandApart 0 rs → AllByRecursion
    (λ r. r.last < first) rs → joins_before first rs place ≡ true → r ≡ get_or rs j r → Pushes 0 first last rs (set rs j (record { first = r.first; last = last }))
case_on first last rs place j r e h o s a b c f =
    let ends = ends_at first rs j r (omega arith) (subst (λ m. joins_before first rs m ≡ true) e c) in
    let begin : (get_or rs j r).first ≡ r.first = ap (λ (t : Run). t.first) (sym f) in
    subst (λ m. Pushes 0 first last rs (set rs j (record { first = m; last = last }))) begin (push_on 0 first last rs j r o s a (omega arith) ends b)

pub case_behind : (first last : ℕ) (rs : List Run) (place : ℕ) → place ≡ length rs → first ≤ last → last ≤ GREATEST_INDEX → StandApart 0 rs → AllByRecursion (λ r. r.last < first) rs →
    joins_before first rs place ≡ false → Pushes 0 first last rs (rs ++ (record { first = first; last = last }) ∷ [])
case_behind first last rs place h o s a b c =
    let all = take_all place rs (omega arith) in
    let strict = strictly_below 0 first rs place (omega arith) a (subst (AllByRecursion (λ r. r.last < first)) (sym all) b) c in
    push_alone 0 first last rs (omega arith) o s a (subst (AllByRecursion (λ r. suc r.last < first)) all strict)

-- A set that has a member already, and the number of members with one more.
pub member_kept : (n : ℕ) (xs : List ℕ) → IsIncreasing xs → has n xs ≡ true → xs ≡ with_member n xs
member_kept n [] s h = absurd (false≢true h)
member_kept n (x ∷ xs) s h =
    elim (cases_order x n) [
      | inl same ↦ at_front n x xs same s.0
      | inr (inl less) ↦
          let others : has n xs ≡ true = rw (ne_eqb x n (omega arith)) at h in
          ap (λ z. x ∷ z) (member_kept n xs s.1 others) ∙ sym (with_below n (x ∷ []) xs (less, tt))
      | inr (inr more) ↦ absurd (false≢true (sym (none n (x ∷ xs) (more, each_weaker (λ y. x < y) (λ y. n < y) (λ y k. omega arith) xs s.0)) ∙ h))
    ]
  where
    none : (n : ℕ) (ys : List ℕ) → AllByRecursion (λ y. n < y) ys → has n ys ≡ false
    none n [] a = refl
    none n (y ∷ ys) a = let lt : n < y = a.0 in rw (ne_eqb y n (omega arith)) (none n ys a.1)

    at_front : (n x : ℕ) (xs : List ℕ) → x ≡ n → AllByRecursion (λ y. x < y) xs → x ∷ xs ≡ with_member n (x ∷ xs)
    at_front n x xs e a =
        let all = subst (λ m. AllByRecursion (λ y. m < y) xs) e a in
        rw (e, le-ltb n n (omega arith)) (sym (with_above n xs all))

pub length-with_member : (n : ℕ) (xs : List ℕ) → has n xs ≡ false → length (with_member n xs) ≡ suc (length xs)
length-with_member n [] h = refl
length-with_member n (x ∷ xs) h =
    let fs = filter (λ y. ltb y n) xs in
    let gs = filter (λ y. ltb n y) xs in
    let sum : length (fs ++ n ∷ gs) ≡ length fs + suc (length gs) = length-append fs (n ∷ gs) in
    elim (cases_order x n) [
      | inl same ↦ absurd (false≢true (sym h ∙ rw (eq-eqb x n same)))
      | inr (inl less) ↦
          let others : has n xs ≡ false = rw (ne_eqb x n (omega arith)) at h in
          rw (lt-ltb x n less, le-ltb n x (omega arith)) (ap suc (length-with_member n xs others))
      | inr (inr more) ↦
          let others : has n xs ≡ false = rw (ne_eqb x n (omega arith)) at h in
          let before = length-with_member n xs others in
          rw (le-ltb x n (omega arith), lt-ltb n x more) (omega (arith, before, sum, length-append fs (n ∷ x ∷ gs)))
    ]
