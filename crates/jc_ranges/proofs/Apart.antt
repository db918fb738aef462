-- Facts on runs that stand apart, and on the numbers that they name.
use Rattle.std.proofs.Common.{◌≡◌, ◌≢◌, ℕ, zero, suc, ◌+◌, ◌-◌, ◌<◌, ◌≤◌, Bool, true, false, ◌||◌, eqb, ltb, leb, List, [], ◌∷◌, ◌++◌, length, get_or, take, drop, refl, sym, ap, ◌∙◌, subst, inl, inr, arith, Option, Some, None}
use Rattle.std.proofs.lemmas.Bool.{ne_eqb, le-leb, lt-leb, leb-true, ltb-true, ltb-false, cases_lt, or_right, false≢true}
use Rattle.std.proofs.lemmas.Option.{slice_get-get_or, slice_get_past}
use Rattle.std.proofs.lemmas.List.Folds.{list_any-append}
use Rattle.std.proofs.lemmas.List.FromFn.{get_or-range_with_len, length-range_with_len}
use Rattle.std.proofs.lemmas.List.Sorted.{IsPartitionedBy-ltb}
use Rattle.std.specs.List.Sorted.{IsPartitionedBy, IsPartitionPoint}
use Rattle.std.specs.List.{AllByRecursion, range_with_len, flat_map, slice_get}
use Rattle.jc_ranges.specs.Sets.{IsSet, has, IsFirstMissing}
use Rattle.jc_ranges.specs.Texts.{numbers, runs, IsRunFrom, AreRising, StandApart}
use Rattle.jc_ranges.specs.Runs.{PartsAt}
use Rattle.jc_ranges.specs.declared.runs.Run.{Run}
use Rattle.jc_ranges.proofs.Order.{each_weaker, has_at}
use Rattle.jc_ranges.proofs.Consecutive.{runs-front}
use Rattle.jc_ranges.proofs.Back.{range_set, rising_set, rising_lower}

-- Runs that stand apart rise, and their numbers are a set.
pub apart_rising : (low : ℕ) (rs : List Run) → StandApart low rs → AreRising low rs
apart_rising low [] a = tt
apart_rising low (r ∷ rs) a = (a.0, rising_lower (suc r.last) (suc (suc r.last)) rs (omega arith) (apart_rising (suc (suc r.last)) rs a.1))

pub apart_set : (rs : List Run) → StandApart 0 rs → IsSet (flat_map numbers rs)
apart_set rs a = let facts = rising_set 0 rs (apart_rising 0 rs a) in record { increasing = facts.0; small = facts.2 }

pub apart_least : (low : ℕ) (rs : List Run) → StandApart low rs → AllByRecursion (λ x. low ≤ x) (flat_map numbers rs)
apart_least low rs a = (rising_set low rs (apart_rising low rs a)).1

pub apart_lower : (low high : ℕ) (rs : List Run) → low ≤ high → StandApart high rs → StandApart low rs
apart_lower low high [] h a = tt
apart_lower low high (r ∷ rs) h a = let above : high ≤ r.first = a.0.above in (record { above = omega arith; ordered = a.0.ordered; small = a.0.small }, a.1)

pub apart_take : (low : ℕ) (rs : List Run) (i : ℕ) → StandApart low rs → StandApart low (take i rs)
apart_take low [] zero a = tt
apart_take low [] (suc i) a = tt
apart_take low (r ∷ rs) zero a = tt
apart_take low (r ∷ rs) (suc i) a = (a.0, apart_take (suc (suc r.last)) rs i a.1)

-- The numbers of one run.
pub run_least : (r : Run) → AllByRecursion (λ x. r.first ≤ x) (numbers r)
run_least r = (range_set r.first (suc r.last - r.first)).1

pub run_greatest : (r : Run) → r.first ≤ r.last → AllByRecursion (λ x. x ≤ r.last) (numbers r)
run_greatest r h = each_weaker (λ x. x < r.first + (suc r.last - r.first)) (λ x. x ≤ r.last) (λ x q. omega arith) (numbers r) (range_set r.first (suc r.last - r.first)).2

-- A run among runs that stand apart.
pub run_at : (low : ℕ) (rs : List Run) (i : ℕ) (d : Run) → StandApart low rs → i < length rs → IsRunFrom low (get_or rs i d)
run_at low [] i d a h = absurd (omega arith)
run_at low (r ∷ rs) zero d a h = a.0
run_at low (r ∷ rs) (suc i) d a h =
    let more = run_at (suc (suc r.last)) rs i d a.1 (omega arith) in
    let above : low ≤ r.first = a.0.above in
    let ordered : r.first ≤ r.last = a.0.ordered in
    let behind : suc (suc r.last) ≤ (get_or rs i d).first = more.above in
    record { above = omega arith; ordered = more.ordered; small = more.small }

-- The cut of their numbers into runs gives them back.
pub runs_back : (low : ℕ) (rs : List Run) → StandApart low rs → runs (flat_map numbers rs) ≡ rs
runs_back low [] a = refl
runs_back low (r ∷ rs) a =
    let ordered : r.first ≤ r.last = a.0.ordered in
    let long : suc r.last - r.first ≡ suc (r.last - r.first) = omega arith in
    ap (λ m. runs (range_with_len r.first m ++ flat_map numbers rs)) long
    ∙ runs-front r.first (r.last - r.first) r.last (flat_map numbers rs) (omega arith)
    (λ y zs e q. let all = subst (AllByRecursion (λ x. suc (suc r.last) ≤ x)) e (apart_least (suc (suc r.last)) rs a.1) in let least : suc (suc r.last) ≤ y = all.0 in omega (arith, q))
    ∙ ap (λ z. r ∷ z) (runs_back (suc (suc r.last)) rs a.1)

pub same_members : (left right : List Run) → StandApart 0 left → StandApart 0 right → flat_map numbers left ≡ flat_map numbers right → left ≡ right
same_members left right a b e = sym (runs_back 0 left a) ∙ ap runs e ∙ runs_back 0 right b

-- Membership.
has_none : (n : ℕ) (xs : List ℕ) → AllByRecursion (λ x. x ≢ n) xs → has n xs ≡ false
has_none n [] a = refl
has_none n (x ∷ xs) a = rw (ne_eqb x n a.0) (has_none n xs a.1)

has_range : (a k n : ℕ) → a ≤ n → n < a + k → has n (range_with_len a k) ≡ true
has_range a k n h q = has_at n (range_with_len a k) (n - a) (omega (arith, length-range_with_len a k)) (get_or-range_with_len a k (n - a) 0 (omega arith) ∙ omega arith)

-- Whether a run begins at n or below.
abbrev pub begins_by : ℕ → Option Run → Bool
begins_by n None = false
begins_by n (Some r) = leb r.first n

has_split : (n : ℕ) (r : Run) (rs : List Run) → has n (flat_map numbers (r ∷ rs)) ≡ (has n (numbers r) || has n (flat_map numbers rs))
has_split n r rs = list_any-append (λ x. eqb x n) (numbers r) (flat_map numbers rs)

has_not_below : (n : ℕ) (r : Run) → r.first ≤ r.last → r.last < n → has n (numbers r) ≡ false
has_not_below n r h q = has_none n (numbers r) (each_weaker (λ x. x ≤ r.last) (λ x. x ≢ n) (λ x k e. omega (arith, e)) (numbers r) (run_greatest r h))

has_not_above : (n low : ℕ) (rs : List Run) → StandApart low rs → n < low → has n (flat_map numbers rs) ≡ false
has_not_above n low rs a q = has_none n (flat_map numbers rs) (each_weaker (λ x. low ≤ x) (λ x. x ≢ n) (λ x k e. omega (arith, e)) (flat_map numbers rs) (apart_least low rs a))

pub has_place : (low n : ℕ) (rs : List Run) (i : ℕ) → StandApart low rs → AllByRecursion (λ r. r.last < n) (take i rs) → AllByRecursion (λ r. n ≤ r.last) (drop i rs) → has n (flat_map numbers rs) ≡ begins_by n (slice_get rs i)
has_place low n [] zero a b c = refl
has_place low n [] (suc i) a b c = refl
has_place low n (r ∷ rs) zero a b c =
    let ordered : r.first ≤ r.last = a.0.ordered in
    let ends : n ≤ r.last = c.0 in
    has_split n r rs ∙
    elim (cases_lt n r.first) [
      | inl lt ↦
          let none = has_none n (numbers r) (each_weaker (λ x. r.first ≤ x) (λ x. x ≢ n) (λ x k e. omega (arith, e)) (numbers r) (run_least r)) in
          rw (none, has_not_above n (suc (suc r.last)) rs a.1 (omega arith), lt-leb r.first n lt)
      | inr ge ↦ rw (has_range r.first (suc r.last - r.first) n ge (omega arith), le-leb r.first n ge)
    ]
has_place low n (r ∷ rs) (suc i) a b c =
    has_split n r rs ∙ rw (has_not_below n r a.0.ordered b.0) (has_place (suc (suc r.last)) n rs i a.1 b.1 c)

-- The number behind a run is the first that is missing from a number of the run on.
behind_none : (low : ℕ) (rs : List Run) (i : ℕ) (d : Run) → StandApart low rs → i < length rs → has (suc (get_or rs i d).last) (flat_map numbers rs) ≡ false
behind_none low [] i d a h = absurd (omega arith)
behind_none low (r ∷ rs) zero d a h =
    has_split (suc r.last) r rs ∙ rw (has_not_below (suc r.last) r a.0.ordered (omega arith)) (has_not_above (suc r.last) (suc (suc r.last)) rs a.1 (omega arith))
behind_none low (r ∷ rs) (suc i) d a h =
    let at = run_at (suc (suc r.last)) rs i d a.1 (omega arith) in
    let above : suc (suc r.last) ≤ (get_or rs i d).first = at.above in
    let ordered : (get_or rs i d).first ≤ (get_or rs i d).last = at.ordered in
    has_split (suc (get_or rs i d).last) r rs ∙ rw (has_not_below (suc (get_or rs i d).last) r a.0.ordered (omega arith)) (behind_none (suc (suc r.last)) rs i d a.1 (omega arith))

has_inside : (rs : List Run) (i k : ℕ) (d : Run) → i < length rs → (get_or rs i d).first ≤ k → k ≤ (get_or rs i d).last → has k (flat_map numbers rs) ≡ true
has_inside [] i k d h p q = absurd (omega arith)
has_inside (r ∷ rs) zero k d h p q = has_split k r rs ∙ rw (has_range r.first (suc r.last - r.first) k p (omega arith))
has_inside (r ∷ rs) (suc i) k d h p q = has_split k r rs ∙ or_right _ _ (has_inside rs i k d (omega arith) p q)

pub missing_behind : (rs : List Run) (i from : ℕ) (d : Run) → StandApart 0 rs → i < length rs → (get_or rs i d).first ≤ from → from ≤ (get_or rs i d).last → IsFirstMissing (flat_map numbers rs) from (suc (get_or rs i d).last)
missing_behind rs i from d a h p q = record {
  above = omega arith;
  missing = behind_none 0 rs i d a h;
  least = λ k u v. has_inside rs i k d h (omega arith) (omega arith);
}

-- The last numbers increase, so that a binary search finds the place of a number.
lasts_rise : (low : ℕ) (rs : List Run) → StandApart low rs → (i j : ℕ) (d : Run) → i ≤ j → j < length rs → (get_or rs i d).last ≤ (get_or rs j d).last
lasts_rise low [] a i j d h k = absurd (omega arith)
lasts_rise low (r ∷ rs) a zero zero d h k = omega arith
lasts_rise low (r ∷ rs) a (suc i) zero d h k = absurd (omega arith)
lasts_rise low (r ∷ rs) a zero (suc j) d h k =
    let at = run_at (suc (suc r.last)) rs j d a.1 (omega arith) in
    let above : suc (suc r.last) ≤ (get_or rs j d).first = at.above in
    let ordered : (get_or rs j d).first ≤ (get_or rs j d).last = at.ordered in
    omega arith
lasts_rise low (r ∷ rs) a (suc i) (suc j) d h k = lasts_rise (suc (suc r.last)) rs a.1 i j d (omega arith) (omega arith)

pub partitioned_runs : (n : ℕ) (rs : List Run) → StandApart 0 rs → IsPartitionedBy (λ r. ltb r.last n) rs
partitioned_runs n rs a = IsPartitionedBy-ltb (λ (r : Run). r.last) rs n (lasts_rise 0 rs a)

front_each : (P : Run → Type 0) (rs : List Run) (i : ℕ) (d : Run) → i ≤ length rs → ((k : ℕ) → k < i → P (get_or rs k d)) → AllByRecursion P (take i rs)
front_each P [] zero d h f = tt
front_each P [] (suc i) d h f = tt
front_each P (r ∷ rs) zero d h f = tt
front_each P (r ∷ rs) (suc i) d h f = (f 0 (omega arith), front_each P rs i d (omega arith) (λ k q. f (suc k) (omega arith)))

back_each : (P : Run → Type 0) (rs : List Run) (i : ℕ) (d : Run) → ((k : ℕ) → i ≤ k → k < length rs → P (get_or rs k d)) → AllByRecursion P (drop i rs)
back_each P [] zero d f = tt
back_each P [] (suc i) d f = tt
back_each P (r ∷ rs) zero d f = (f 0 (omega arith) (omega arith), back_each P rs zero d (λ k p q. f (suc k) (omega arith) (omega arith)))
back_each P (r ∷ rs) (suc i) d f = back_each P rs i d (λ k p q. f (suc k) (omega arith) (omega arith))

pub parted_at : (n : ℕ) (rs : List Run) (i : ℕ) → i ≤ length rs → IsPartitionPoint (λ r. ltb r.last n ≡ true) (λ r. ltb r.last n ≡ false) rs i → PartsAt n rs i
parted_at n rs i h p =
    let d : Run = record { first = 0; last = 0 } in
    record {
      within = h;
      below = front_each (λ r. r.last < n) rs i d h (λ k q. ltb-true _ _ (p.0 k d (omega arith) q));
      above = back_each (λ r. n ≤ r.last) rs i d (λ k q r. ltb-false _ _ (p.1 k d q r));
    }

-- The run of a member.
pub run_of_member : (n : ℕ) (rs : List Run) (i : ℕ) (d : Run) → StandApart 0 rs → PartsAt n rs i → has n (flat_map numbers rs) ≡ true → (i < length rs) × ((get_or rs i d).first ≤ n) × (n ≤ (get_or rs i d).last)
run_of_member n rs i d a p h =
    let begins = sym (has_place 0 n rs i a p.below p.above) ∙ h in
    elim (cases_lt i (length rs)) [
      | inl lt ↦ (
        lt,
        leb-true _ _ (ap (begins_by n) (sym (slice_get-get_or rs i d lt)) ∙ begins),
        ends rs i d lt p.above,
      )
      | inr ge ↦ absurd (false≢true (ap (begins_by n) (sym (slice_get_past rs i ge)) ∙ begins))
    ]
  where
    ends : (rs : List Run) (i : ℕ) (d : Run) → i < length rs → AllByRecursion (λ r. n ≤ r.last) (drop i rs) → n ≤ (get_or rs i d).last
    ends [] i d h b = absurd (omega arith)
    ends (r ∷ rs) zero d h b = b.0
    ends (r ∷ rs) (suc i) d h b = ends rs i d (omega arith) b
