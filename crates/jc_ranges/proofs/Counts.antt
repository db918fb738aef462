-- Facts on how many numbers runs name, and on the number at a place.
use Rattle.std.proofs.Common.{◌≡◌, ℕ, zero, suc, ◌+◌, ◌-◌, ◌<◌, ◌≤◌, Bool, cond, ltb, List, [], ◌∷◌, ◌++◌, length, get_or, take, drop, sym, ap, ◌∙◌, arith, Some}
use Rattle.std.proofs.lemmas.Bool.{lt-ltb, le-ltb}
use Rattle.std.proofs.lemmas.Grind.{flat_map-append}
use Rattle.std.proofs.lemmas.List.{append-nil, take_more, drop_more}
use Rattle.std.proofs.lemmas.List.Elements.{All-from_recursion}
use Rattle.std.proofs.lemmas.List.FromFn.{get_or-range_with_len, length-range_with_len}
use Rattle.std.proofs.lemmas.List.Sums.{count_by-le-length, sum_by-append}
use Rattle.std.specs.List.{AllByRecursion, range_with_len, flat_map, slice_get, count_by}
use Rattle.jc_ranges.specs.Sets.{count_below}
use Rattle.jc_ranges.specs.Texts.{numbers, StandApart}
use Rattle.jc_ranges.specs.declared.runs.Run.{Run}
use Rattle.jc_ranges.specs.declared.bounds.TheConstants.{GREATEST_INDEX}
use Rattle.jc_ranges.proofs.Order.{count_at, length_small}
use Rattle.jc_ranges.proofs.Apart.{apart_set, apart_take, run_at}

count_append : (p : ℕ → Bool) (xs ys : List ℕ) → count_by p (xs ++ ys) ≡ count_by p xs + count_by p ys
count_append p xs ys = sum_by-append (λ x. cond (p x) 1 0) xs ys

-- How many numbers of a range are below n.
pub count_range : (a k n i : ℕ) → i ≤ k → ((j : ℕ) → j < i → a + j < n) → ((j : ℕ) → i ≤ j → j < k → n ≤ a + j) → i ≡ count_below n (range_with_len a k)
count_range a k n i h f g =
    let long = length-range_with_len a k in
    count_at n (range_with_len a k) i (omega (arith, long))
    (λ j q. rw (get_or-range_with_len a k j 0 (omega arith)) (lt-ltb _ _ (f j q)))
    (λ j q r. let inside : j < k = omega (arith, long) in rw (get_or-range_with_len a k j 0 inside) (le-ltb _ _ (g j q inside)))

-- One run more is counted.
pub count_more : (n : ℕ) (rs : List Run) (i : ℕ) (d : Run) → i < length rs → count_below n (flat_map numbers (take (i + 1) rs)) ≡ count_below n (flat_map numbers (take i rs)) + count_below n (numbers (get_or rs i d))
count_more n rs i d h =
    ap (λ z. count_below n (flat_map numbers z)) (take_more rs i d h)
    ∙ ap (count_below n) (flat_map-append numbers (take i rs) (get_or rs i d ∷ []) ∙ ap (λ z. flat_map numbers (take i rs) ++ z) (append-nil (numbers (get_or rs i d))))
    ∙ count_append (λ x. ltb x n) (flat_map numbers (take i rs)) (numbers (get_or rs i d))

pub count_few : (n : ℕ) (rs : List Run) (i : ℕ) → StandApart 0 rs → count_below n (flat_map numbers (take i rs)) ≤ suc GREATEST_INDEX
count_few n rs i a =
    let few = length_small (flat_map numbers (take i rs)) (apart_set (take i rs) (apart_take 0 rs i a)) in
    let some = count_by-le-length (λ x. ltb x n) (flat_map numbers (take i rs)) in
    omega (arith, few, some)

pub count_all : (n : ℕ) (xs : List ℕ) → AllByRecursion (λ x. x < n) xs → length xs ≡ count_below n xs
count_all n xs a = count_at n xs (length xs) (omega arith) (λ k h. lt-ltb _ _ (All-from_recursion (λ x. x < n) xs a k 0 h)) (λ k p q. absurd (omega arith))

-- The number at a place behind a run, and in it.
range_get : (a k left : ℕ) (xs : List ℕ) → left < k → slice_get (range_with_len a k ++ xs) left ≡ Some (a + left)
range_get a zero left xs h = absurd (omega arith)
range_get a (suc k) zero xs h = ap Some (omega arith)
range_get a (suc k) (suc left) xs h = range_get (a + 1) k left xs (omega arith) ∙ ap Some (omega arith)

range_skip : (a k left : ℕ) (xs : List ℕ) → slice_get (range_with_len a k ++ xs) (k + left) ≡ slice_get xs left
range_skip a zero left xs = ap (slice_get xs) (omega arith)
range_skip a (suc k) left xs = let more : suc k + left ≡ suc (k + left) = omega arith in ap (slice_get (range_with_len a (suc k) ++ xs)) more ∙ range_skip (a + 1) k left xs

pub run_get : (r : Run) (left : ℕ) (xs : List ℕ) → left ≤ r.last - r.first → r.first ≤ r.last → slice_get (numbers r ++ xs) left ≡ Some (r.first + left)
run_get r left xs h k = range_get r.first (suc r.last - r.first) left xs (omega arith)

pub run_skip : (r : Run) (left rest : ℕ) (xs : List ℕ) → left ≡ (suc r.last - r.first) + rest → slice_get (numbers r ++ xs) left ≡ slice_get xs rest
run_skip r left rest xs e = ap (slice_get (numbers r ++ xs)) e ∙ range_skip r.first (suc r.last - r.first) rest xs

-- The numbers that are left from a run on.
pub get_more : (rs : List Run) (place i left : ℕ) (d : Run) → StandApart 0 rs → i < length rs → slice_get (flat_map numbers rs) place ≡ slice_get (flat_map numbers (drop i rs)) left →
    (get_or rs i d).last - (get_or rs i d).first < left → slice_get (flat_map numbers rs) place ≡ slice_get (flat_map numbers (drop (i + 1) rs))
    (left - ((get_or rs i d).last - (get_or rs i d).first + 1))
get_more rs place i left d a h e k =
    let r = get_or rs i d in
    let at = run_at 0 rs i d a h in
    let ordered : r.first ≤ r.last = at.ordered in
    e ∙ ap (λ z. slice_get (flat_map numbers z) left) (drop_more rs i d h) ∙ run_skip r left (left - (r.last - r.first + 1)) (flat_map numbers (drop (i + 1) rs)) (omega arith)

pub get_here : (rs : List Run) (place i left : ℕ) (d : Run) → StandApart 0 rs → i < length rs → slice_get (flat_map numbers rs) place ≡ slice_get (flat_map numbers (drop i rs)) left → left ≤
    (get_or rs i d).last - (get_or rs i d).first → Some ((get_or rs i d).first + left) ≡ slice_get (flat_map numbers rs) place
get_here rs place i left d a h e k =
    let at = run_at 0 rs i d a h in
    sym (e ∙ ap (λ z. slice_get (flat_map numbers z) left) (drop_more rs i d h) ∙ run_get (get_or rs i d) left (flat_map numbers (drop (i + 1) rs)) k at.ordered)
