-- What an index that is added or taken out does to indexes in ascending order.
use Rattle.std.proofs.Common.{◌≡◌, ℕ, ◌+◌, ◌-◌, ◌<◌, ◌≤◌, zero, suc, nat_lt, nat_le, ◌==◌, Bool, true, false, cond, ◌&&◌, ◌||◌, List, [], ◌∷◌, filter, length, get_or, refl, sym, ap, subst, ◌∙◌, arith, true≢false, lt-ltb, le-ltb, ltb-true}
use Rattle.std.proofs.Common.{ltb-false, eq-eqb, eqb-true, ne_eqb}
use Rattle.std.specs.List.{AllWithin, insert, list_any, remove}
use Rattle.std.specs.Prelude.{OnSome, Option, Some, slice_index_or}
use Rattle.std.specs.List.Sorted.{IsNonDecreasingBy}
use Rattle.std.proofs.lemmas.Bool.{cond-true, cond-false, eqb-false, le-leb, lt-leb, leb-false}
use Rattle.std.proofs.Math.Dec.{leb-suc-suc, leb-suc-zero}
use Rattle.jc_states.specs.Held.{ClimbsFrom, is_between, place_for, repeats, times}

-- ---- how often an index is there

-- One more in front.
pub times-cons : (n m : ℕ) (ms : List ℕ) → times n (m ∷ ms) ≡ times n ms + cond (m == n) 1 0
times-cons n m ms = by (m == n)
  where
    by : (b : Bool) → length (cond b (m ∷ filter (λ k. k == n) ms) (filter (λ k. k == n) ms)) ≡ times n ms + cond b 1 0
    by true = omega arith
    by false = omega arith

-- One more at any place.
pub times-insert : (k : ℕ) (ns : List ℕ) (i n : ℕ) → times k (insert ns i n) ≡ times k ns + cond (n == k) 1 0
times-insert k [] zero n = times-cons k n []
times-insert k [] (suc i) n = times-cons k n []
times-insert k (m ∷ ms) zero n = times-cons k n (m ∷ ms)
times-insert k (m ∷ ms) (suc i) n =
    let ih = times-insert k ms i n in
    let more = times-cons k m (insert ms i n) in
    let less = times-cons k m ms in
    omega (arith, ih, more, less)

-- The one that was taken out of its place is put back there.
insert-removed : (ns : List ℕ) (i n : ℕ) → i < length ns → get_or ns i 0 ≡ n → insert (remove ns i) i n ≡ ns
insert-removed [] i n h e = absurd (omega (arith, h))
insert-removed (m ∷ ms) zero n h e = ap (λ k. k ∷ ms) (sym e)
insert-removed (m ∷ ms) (suc i) n h e = ap (λ rest. m ∷ rest) (insert-removed ms i n (omega (arith, h)) e)

-- One less, which was at the place.
pub times-remove : (k : ℕ) (ns : List ℕ) (i n : ℕ) → i < length ns → get_or ns i 0 ≡ n → times k (remove ns i) ≡ times k ns - cond (n == k) 1 0
times-remove k ns i n h e =
    let back = times-insert k (remove ns i) i n in
    let same = ap (times k) (insert-removed ns i n h e) in
    omega (arith, back, same)

-- An index below all others is not there.
times-below : (low n : ℕ) (ns : List ℕ) → n < low → ClimbsFrom low ns → times n ns ≡ 0
times-below low n [] h r = refl
times-below low n (m ∷ ms) h r =
    let low_m = r.0 in
    let other = ap {B = ℕ} (λ b. cond b 1 0) (ne_eqb m n (λ e. omega (arith, e, h, low_m))) in
    let ih = times-below m n ms (omega (arith, h, low_m)) r.1 in
    let first = times-cons n m ms in
    omega (arith, ih, first, other)

-- ---- how many are there once more

-- 1 for a number that is not 0.
abbrev some : ℕ → ℕ
some n = cond (nat_lt 0 n) 1 0

some-more : (n : ℕ) → some (n + 1) ≡ 1
some-more n = cond-true (nat_lt 0 (n + 1)) 1 0 (lt-ltb 0 (n + 1) (omega arith))

-- Two indexes may be counted in either order.
some-swap : (m n a b : ℕ) → (m ≡ n → a ≡ b) → some (a + cond (n == m) 1 0) + some b ≡ some a + some (b + cond (m == n) 1 0)
some-swap m n a b h = by (n == m) refl (m == n) refl
  where
    by : (s : Bool) → (n == m) ≡ s → (t : Bool) → (m == n) ≡ t → some (a + cond s 1 0) + some b ≡ some a + some (b + cond t 1 0)
    by true e true f =
        let left = some-more a in
        let right = some-more b in
        let same = ap some (h (eqb-true m n f)) in
        omega (arith, left, right, same)
    by true e false f = absurd (eqb-false m n f (sym (eqb-true n m e)))
    by false e true f = absurd (eqb-false n m e (sym (eqb-true m n f)))
    by false e false f =
        let left : some (a + 0) ≡ some a = ap some (omega arith) in
        let right : some (b + 0) ≡ some b = ap some (omega arith) in
        omega (arith, left, right)

-- One more at any place is there once more if it was there.
repeats-insert : (ns : List ℕ) (i n : ℕ) → repeats (insert ns i n) ≡ repeats ns + some (times n ns)
repeats-insert [] zero n = refl
repeats-insert [] (suc i) n = refl
repeats-insert (m ∷ ms) zero n = refl
repeats-insert (m ∷ ms) (suc i) n =
    let ih = repeats-insert ms i n in
    let more = ap some (times-insert m ms i n) in
    let first = ap some (times-cons n m ms) in
    let swap = some-swap m n (times m ms) (times n ms) (λ e. ap (λ k. times k ms) e) in
    omega (arith, ih, more, first, swap)

-- One less, which was at the place.
repeats-remove : (ns : List ℕ) (i n : ℕ) → i < length ns → get_or ns i 0 ≡ n → repeats ns ≡ repeats (remove ns i) + some (times n (remove ns i))
repeats-remove ns i n h e = ap repeats (sym (insert-removed ns i n h e)) ∙ repeats-insert (remove ns i) i n

-- There are not more of them than indexes.
pub repeats-few : (ns : List ℕ) → repeats ns ≤ length ns
repeats-few [] = omega arith
repeats-few (n ∷ ns) = by (nat_lt 0 (times n ns)) (repeats-few ns)
  where
    by : (b : Bool) → repeats ns ≤ length ns → repeats ns + cond b 1 0 ≤ length (n ∷ ns)
    by true ih = omega (arith, ih)
    by false ih = omega (arith, ih)

-- Where one is there once more, an index is there twice.
pub repeats-some : (ns : List ℕ) → nat_lt 0 (repeats ns) ≡ true → (n : ℕ) × (2 ≤ times n ns)
repeats-some [] h = let below = ltb-true 0 0 h in absurd (omega (arith, below))
repeats-some (m ∷ ms) h = by (nat_lt 0 (times m ms)) refl (ltb-true 0 (repeats (m ∷ ms)) h) (repeats-some ms)
  where
    by : (s : Bool) → nat_lt 0 (times m ms) ≡ s → 0 < repeats ms + cond s 1 0 → (nat_lt 0 (repeats ms) ≡ true → (n : ℕ) × (2 ≤ times n ms))
        → (n : ℕ) × (2 ≤ times n (m ∷ ms))
    by true e g rest =
        let one = ltb-true 0 (times m ms) e in
        let more = times-cons m m ms in
        let itself = ap {B = ℕ} (λ b. cond b 1 0) (eq-eqb m m refl) in
        (m, omega (arith, one, more, itself))
    by false e g rest =
        let found = rest (lt-ltb 0 (repeats ms) (omega (arith, g))) in
        let most = found.1 in
        let more = times-cons found.0 m ms in
        (found.0, omega (arith, most, more))

-- Where none is there once more each is there at most once.
pub repeats-none : (ns : List ℕ) → repeats ns ≡ 0 → (n : ℕ) → times n ns ≤ 1
repeats-none [] h n = omega arith
repeats-none (m ∷ ms) h n = by (nat_lt 0 (times m ms)) refl h (m == n) refl (times-cons n m ms) (λ z. repeats-none ms z n)
  where
    by : (s : Bool) → nat_lt 0 (times m ms) ≡ s → repeats ms + cond s 1 0 ≡ 0 → (t : Bool) → (m == n) ≡ t → times n (m ∷ ms) ≡ times n ms + cond t 1 0 → (repeats ms ≡ 0 → times n ms ≤ 1) → times n (m ∷ ms) ≤ 1
    by true l z t e first ih = absurd (omega (arith, z))
    by false l z true e first ih =
        let none = ltb-false 0 (times m ms) l in
        let same = ap (λ k. times k ms) (eqb-true m n e) in
        omega (arith, none, same, first)
    by false l z false e first ih = let most = ih (omega (arith, z)) in omega (arith, most, first)

-- ---- the place of an index

-- It lies within the indexes, or at their end.
pub place-within : (n : ℕ) (ns : List ℕ) → place_for n ns ≤ length ns
place-within n [] = omega arith
place-within n (m ∷ ms) = by (nat_lt m n) (place-within n ms)
  where
    by : (lt : Bool) → place_for n ms ≤ length ms → cond lt (suc (place_for n ms)) 0 ≤ length (m ∷ ms)
    by true ih = omega (arith, ih)
    by false ih = omega arith

-- Each in front of it is below, and each from it on is not.
pub place-splits : (n : ℕ) (ns : List ℕ) (i : ℕ) → i ≤ length ns
    → AllWithin (λ m. nat_lt m n ≡ true) ns 0 i
    → AllWithin (λ m. nat_lt m n ≡ false) ns i (length ns)
    → i ≡ place_for n ns
place-splits n [] i within low high = omega (arith, within)
place-splits n (m ∷ ms) zero within low high = sym (cond-false (nat_lt m n) (suc (place_for n ms)) 0 (high 0 m (omega arith) (omega arith)))
place-splits n (m ∷ ms) (suc i) within low high =
    let ih = place-splits n ms i (omega (arith, within)) (λ k d a b. low (suc k) d (omega arith) (omega (arith, b))) (λ k d a b. high (suc k) d (omega (arith, a)) (omega (arith, b))) in
    ap suc ih
    ∙ sym (cond-true (nat_lt m n) (suc (place_for n ms)) 0 (low 0 m (omega arith) (omega arith)))

-- None is below the bound.
least : (low : ℕ) (ns : List ℕ) (j d : ℕ) → ClimbsFrom low ns → j < length ns → low ≤ get_or ns j d
least low [] j d r h = absurd (omega (arith, h))
least low (m ∷ ms) zero d r h = r.0
least low (m ∷ ms) (suc j) d r h = let below = least m ms j d r.1 (omega (arith, h)) in omega (arith, below, r.0)

-- They do not fall.
pub ascends-rise : (low : ℕ) (ns : List ℕ) → ClimbsFrom low ns → IsNonDecreasingBy (λ (n : ℕ). n) ns
ascends-rise low [] r i j d a b = absurd (omega (arith, b))
ascends-rise low (m ∷ ms) r zero zero d a b = omega arith
ascends-rise low (m ∷ ms) r zero (suc j) d a b = let below = least m ms j d r.1 (omega (arith, b)) in omega (arith, below)
ascends-rise low (m ∷ ms) r (suc i) zero d a b = absurd (omega (arith, a))
ascends-rise low (m ∷ ms) r (suc i) (suc j) d a b = ascends-rise m ms r.1 i j d (omega (arith, a)) (omega (arith, b))

-- They ascend from a lower bound too.
ascends-lower : (low high : ℕ) (ns : List ℕ) → low ≤ high → ClimbsFrom high ns → ClimbsFrom low ns
ascends-lower low high [] h r = tt
ascends-lower low high (m ∷ ms) h r = (let high_m = r.0 in omega (arith, h, high_m), r.1)

-- They ascend with one more at its place.
ascends-insert : (low n : ℕ) (ns : List ℕ) → low ≤ n → ClimbsFrom low ns → ClimbsFrom low (insert ns (place_for n ns) n)
ascends-insert low n [] h r = (h, tt)
ascends-insert low n (m ∷ ms) h r = by (nat_lt m n) refl (λ g. ascends-insert m n ms g r.1)
  where
    by : (lt : Bool) → nat_lt m n ≡ lt → (m ≤ n → ClimbsFrom m (insert ms (place_for n ms) n)) → ClimbsFrom low (insert (m ∷ ms) (cond lt (suc (place_for n ms)) 0) n)
    by true l ih = (r.0, ih (let below = ltb-true m n l in omega (arith, below)))
    by false l ih = (h, (ltb-false m n l, r.1))

-- They ascend with one less.
pub ascends-remove : (low : ℕ) (ns : List ℕ) (i : ℕ) → ClimbsFrom low ns → ClimbsFrom low (remove ns i)
ascends-remove low [] zero r = tt
ascends-remove low [] (suc i) r = tt
ascends-remove low (m ∷ ms) zero r = ascends-lower low m ms r.0 r.1
ascends-remove low (m ∷ ms) (suc i) r = (r.0, ascends-remove m ms i r.1)

-- An index below all has its place in front.
pub place-below : (low n : ℕ) (ns : List ℕ) → n ≤ low → ClimbsFrom low ns → place_for n ns ≡ 0
place-below low n [] h r = refl
place-below low n (m ∷ ms) h r = let low_m = r.0 in cond-false (nat_lt m n) (suc (place_for n ms)) 0 (le-ltb m n (omega (arith, h, low_m)))

-- The place stays where the one at it is taken out.
place-removed : (low n : ℕ) (ns : List ℕ) → ClimbsFrom low ns → place_for n (remove ns (place_for n ns)) ≡ place_for n ns
place-removed low n [] r = refl
place-removed low n (m ∷ ms) r = by (nat_lt m n) refl (place-removed m n ms r.1)
  where
    by : (lt : Bool) → nat_lt m n ≡ lt → place_for n (remove ms (place_for n ms)) ≡ place_for n ms
        → place_for n (remove (m ∷ ms) (cond lt (suc (place_for n ms)) 0)) ≡ cond lt (suc (place_for n ms)) 0
    by true l ih = cond-true (nat_lt m n) (suc (place_for n (remove ms (place_for n ms)))) 0 l ∙ ap suc ih
    by false l ih = place-below m n ms (ltb-false m n l) r.1

-- ---- what stands at the place

-- Where the place is at the end the index is not there.
pub times-past : (n : ℕ) (ns : List ℕ) → length ns ≤ place_for n ns → times n ns ≡ 0
times-past n [] h = refl
times-past n (m ∷ ms) h = by (nat_lt m n) refl h (times-past n ms) (times-cons n m ms)
  where
    by : (lt : Bool) → nat_lt m n ≡ lt → length (m ∷ ms) ≤ cond lt (suc (place_for n ms)) 0 → (length ms ≤ place_for n ms → times n ms ≡ 0) → times n (m ∷ ms) ≡ times n ms + cond (m == n) 1 0 → times n (m ∷ ms) ≡ 0
    by true l g ih first =
        let below = ltb-true m n l in
        let other = ap {B = ℕ} (λ b. cond b 1 0) (ne_eqb m n (λ e. omega (arith, e, below))) in
        let rest = ih (omega (arith, g)) in
        omega (arith, first, other, rest)
    by false l g ih first = absurd (omega (arith, g))

-- Whether the index is there shows in the one at the place.
pub times-read : (low n : ℕ) (ns : List ℕ) → ClimbsFrom low ns → place_for n ns < length ns → (get_or ns (place_for n ns) 0 == n) ≡ nat_lt 0 (times n ns)
times-read low n [] r h = absurd (omega (arith, h))
times-read low n (m ∷ ms) r h = by (nat_lt m n) refl h (times-read m n ms r.1) (times-cons n m ms)
  where
    here : (s : Bool) → (m == n) ≡ s → n ≤ m → times n (m ∷ ms) ≡ times n ms + cond s 1 0 → s ≡ nat_lt 0 (times n (m ∷ ms))
    here true e le first = sym (lt-ltb 0 (times n (m ∷ ms)) (omega (arith, first)))
    here false e le first =
        let other = eqb-false m n e in
        let none = times-below m n ms (omega (arith, le, other)) r.1 in
        sym (le-ltb 0 (times n (m ∷ ms)) (omega (arith, first, none)))

    by : (lt : Bool) → nat_lt m n ≡ lt → cond lt (suc (place_for n ms)) 0 < length (m ∷ ms)
        → (place_for n ms < length ms → (get_or ms (place_for n ms) 0 == n) ≡ nat_lt 0 (times n ms))
        → times n (m ∷ ms) ≡ times n ms + cond (m == n) 1 0
        → (get_or (m ∷ ms) (cond lt (suc (place_for n ms)) 0) 0 == n) ≡ nat_lt 0 (times n (m ∷ ms))
    by true l g ih first =
        let below = ltb-true m n l in
        let other = ap {B = ℕ} (λ b. cond b 1 0) (ne_eqb m n (λ e. omega (arith, e, below))) in
        ih (omega (arith, g)) ∙ ap (nat_lt 0) (omega (arith, first, other))
    by false l g ih first = here (m == n) refl (ltb-false m n l) first

-- Where the index is there it stands at the place.
found-place : (low n : ℕ) (ns : List ℕ) → ClimbsFrom low ns → nat_lt 0 (times n ns) ≡ true → (place_for n ns < length ns) × (get_or ns (place_for n ns) 0 ≡ n)
found-place low n ns r h = by (nat_lt (place_for n ns) (length ns)) refl
  where
    by : (lt : Bool) → nat_lt (place_for n ns) (length ns) ≡ lt → (place_for n ns < length ns) × (get_or ns (place_for n ns) 0 ≡ n)
    by true l =
        let within = ltb-true (place_for n ns) (length ns) l in
        (within, eqb-true (get_or ns (place_for n ns) 0) n (times-read low n ns r within ∙ h))
    by false l =
        let none = times-past n ns (ltb-false (place_for n ns) (length ns) l) in
        let some_are = ltb-true 0 (times n ns) h in
        absurd (omega (arith, none, some_are))

-- ---- indexes in a range

-- None is in a range below all.
pub any-below : (low first last : ℕ) (ns : List ℕ) → last < low → ClimbsFrom low ns → list_any (is_between first last) ns ≡ false
any-below low first last [] h r = refl
any-below low first last (m ∷ ms) h r =
    let low_m = r.0 in
    by (nat_le first m) (nat_le m last) (lt-leb m last (omega (arith, h, low_m))) (any-below m first last ms (omega (arith, h, low_m)) r.1)
  where
    by : (a b : Bool) → b ≡ false → list_any (is_between first last) ms ≡ false → ((a && b) || list_any (is_between first last) ms) ≡ false
    by a true e ih = absurd (true≢false e)
    by true false e ih = ih
    by false false e ih = ih

-- None is in it where the place of the first is at the end.
pub any-past : (first last : ℕ) (ns : List ℕ) → length ns ≤ place_for first ns → list_any (is_between first last) ns ≡ false
any-past first last [] h = refl
any-past first last (m ∷ ms) h = by (nat_lt m first) refl h (any-past first last ms)
  where
    not_yet : (a b : Bool) → a ≡ false → list_any (is_between first last) ms ≡ false → ((a && b) || list_any (is_between first last) ms) ≡ false
    not_yet true b e ih = absurd (true≢false e)
    not_yet false b e ih = ih

    by : (lt : Bool) → nat_lt m first ≡ lt → length (m ∷ ms) ≤ cond lt (suc (place_for first ms)) 0
        → (length ms ≤ place_for first ms → list_any (is_between first last) ms ≡ false)
        → list_any (is_between first last) (m ∷ ms) ≡ false
    by true l g ih = not_yet (nat_le first m) (nat_le m last) (lt-leb first m (ltb-true m first l)) (ih (omega (arith, g)))
    by false l g ih = absurd (omega (arith, g))

-- Otherwise the one at that place tells.
pub any-read : (low first last : ℕ) (ns : List ℕ) → ClimbsFrom low ns → place_for first ns < length ns
    → nat_le (get_or ns (place_for first ns) 0) last ≡ list_any (is_between first last) ns
any-read low first last [] r h = absurd (omega (arith, h))
any-read low first last (m ∷ ms) r h = by (nat_lt m first) refl h (any-read m first last ms r.1)
  where
    before : (a b : Bool) → a ≡ false → list_any (is_between first last) ms ≡ ((a && b) || list_any (is_between first last) ms)
    before true b e = absurd (true≢false e)
    before false b e = refl

    here : (a b : Bool) → a ≡ true → nat_le m last ≡ b → b ≡ ((a && b) || list_any (is_between first last) ms)
    here true true e l = refl
    here true false e l = sym (any-below m first last ms (leb-false m last l) r.1)
    here false b e l = absurd (true≢false (sym e))

    by : (lt : Bool) → nat_lt m first ≡ lt → cond lt (suc (place_for first ms)) 0 < length (m ∷ ms)
        → (place_for first ms < length ms → nat_le (get_or ms (place_for first ms) 0) last ≡ list_any (is_between first last) ms)
        → nat_le (get_or (m ∷ ms) (cond lt (suc (place_for first ms)) 0) 0) last ≡ list_any (is_between first last) (m ∷ ms)
    by true l g ih = ih (omega (arith, g)) ∙ before (nat_le first m) (nat_le m last) (lt-leb first m (ltb-true m first l))
    by false l g ih = here (nat_le first m) (nat_le m last) (le-leb first m (ltb-false m first l)) refl

-- An index from the first on is among them where the place of the first is before their end.
pub any-from : (first : ℕ) (ns : List ℕ) → nat_lt (place_for first ns) (length ns) ≡ list_any (λ n. nat_le first n) ns
any-from first [] = leb-suc-zero 0
any-from first (m ∷ ms) = by (nat_lt m first) refl (any-from first ms)
  where
    before : (a : Bool) → a ≡ false → list_any (λ n. nat_le first n) ms ≡ (a || list_any (λ n. nat_le first n) ms)
    before true e = absurd (true≢false e)
    before false e = refl

    here : (a : Bool) → a ≡ true → true ≡ (a || list_any (λ n. nat_le first n) ms)
    here true e = refl
    here false e = absurd (true≢false (sym e))

    by : (lt : Bool) → nat_lt m first ≡ lt → nat_lt (place_for first ms) (length ms) ≡ list_any (λ n. nat_le first n) ms
        → nat_lt (cond lt (suc (place_for first ms)) 0) (suc (length ms)) ≡ (nat_le first m || list_any (λ n. nat_le first n) ms)
    by true l ih = leb-suc-suc (suc (place_for first ms)) (length ms) ∙ ih ∙ before (nat_le first m) (lt-leb first m (ltb-true m first l))
    by false l ih = lt-ltb 0 (suc (length ms)) (omega arith) ∙ here (nat_le first m) (le-leb first m (ltb-false m first l))

-- ---- what is added and taken out at the place, as a slice of the indexes shows it

-- With one more they ascend.
pub added-ascends : (n : ℕ) (ns new : List ℕ) (i : ℕ) → ClimbsFrom 0 ns → i ≡ place_for n ns → new ≡ insert ns i n → ClimbsFrom 0 new
added-ascends n ns new i r at put =
    subst (ClimbsFrom 0) (sym (put ∙ ap (λ k. insert ns k n) at)) (ascends-insert 0 n ns (omega arith) r)

-- As many more are there once more as was seen.
pub added-repeats : (n : ℕ) (ns new : List ℕ) (i repeated more : ℕ) (again : Bool) → repeated ≡ repeats ns → again ≡ nat_lt 0 (times n ns) → more ≡ cond again 1 0 → new ≡ insert ns i n
    → repeated + more ≡ repeats new
added-repeats n ns new i repeated more again before there one put =
    let is_more : more ≡ some (times n ns) = one ∙ ap {B = ℕ} (λ b. cond b 1 0) there in
    let after = ap repeats put ∙ repeats-insert ns i n in
    omega (arith, before, is_more, after)

-- The index that is there stands at the place.
pub found-shown : (n : ℕ) (ns : List ℕ) (i : ℕ) (there : Bool) → ClimbsFrom 0 ns → i ≡ place_for n ns → there ≡ nat_lt 0 (times n ns) → there ≡ true → (i < length ns) × (get_or ns i 0 ≡ n)
found-shown n ns i there r at shown truth =
    subst (λ k. (k < length ns) × (get_or ns k 0 ≡ n)) (sym at) (found-place 0 n ns r (sym shown ∙ truth))

-- An index that is there is taken out.
pub taken-out : (ns left : List ℕ) (i : ℕ) (taken : Option ℕ) → taken ≡ Some (slice_index_or ns i 0) → OnSome taken (left ≡ remove ns i) → left ≡ remove ns i
taken-out ns left i taken is out = subst (λ t. OnSome t (left ≡ remove ns i)) is out

-- Without it the place of the index is the same.
pub removed-place : (n : ℕ) (ns left : List ℕ) (i : ℕ) → ClimbsFrom 0 ns → i ≡ place_for n ns → left ≡ remove ns i → i ≡ place_for n left
removed-place n ns left i r at taken =
    at ∙ sym (place-removed 0 n ns r) ∙ ap (λ k. place_for n (remove ns k)) (sym at) ∙ ap (place_for n) (sym taken)

-- As many fewer are there once more as what is left shows.
pub removed-repeats : (n : ℕ) (ns left : List ℕ) (i repeated less : ℕ) (still : Bool) → (i < length ns) × (get_or ns i 0 ≡ n) → repeated ≡ repeats ns → left ≡ remove ns i → still ≡ nat_lt 0 (times n left) → less ≡ cond still 1 0
    → repeated ≡ repeats left + less
removed-repeats n ns left i repeated less still found before taken there one =
    let is_less : less ≡ some (times n (remove ns i)) = one ∙ ap {B = ℕ} (λ b. cond b 1 0) (there ∙ ap (λ all. nat_lt 0 (times n all)) taken) in
    let all = repeats-remove ns i n found.0 found.1 in
    let rest = ap repeats taken in
    omega (arith, before, is_less, all, rest)

-- At most one index more is there once more.
pub one-more : (more : ℕ) (again : Bool) → more ≡ cond again 1 0 → more ≤ 1
one-more more again e = by again e
  where
    by : (b : Bool) → more ≡ cond b 1 0 → more ≤ 1
    by true h = omega (arith, h)
    by false h = omega (arith, h)
