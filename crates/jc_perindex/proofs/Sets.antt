-- Sets of indexes in increasing order.
use Rattle.std.proofs.Common.{◌≡◌, ℕ, ◌<◌, ◌≤◌, ◌+◌, suc, zero, nat_lt, Bool, true, false, cond, not, ◌&&◌, ◌||◌, List, [], ◌∷◌, ◌++◌, map, filter, take, drop, length, get_or, subst, refl, ap, sym, ◌∙◌, append_assoc, arith}
use Rattle.std.specs.Prelude.{All}
use Rattle.std.specs.List.{AllByRecursion as Each}
use Rattle.std.proofs.lemmas.Bool.{lt-ltb, le-ltb, ltb-true}
use Rattle.std.proofs.lemmas.List.{append-nil, take_more}
use Rattle.std.proofs.lemmas.List.Elements.{filter-append, recursion_from_All}
use Rattle.jc_ranges.specs.Sets.{IsIncreasing, has, with_member}
use Rattle.jc_ranges.proofs.Order.{each_weaker, increasing_append}
use Rattle.jc_types.specs.declared.statuses.IndexCount.{IndexCount}
use Rattle.jc_types.specs.Pieces.{items_in}
use Rattle.jc_types.specs.Weights.{IsWithin}
use Rattle.jc_types.proofs.PieceFacts.{around, items_more}
use Rattle.jc_types.proofs.ListFacts.{Each-filter, Each-map, Each-passes, Each-weaker, filter_all, filter_none}
use Rattle.jc_states.specs.UidLists.{join}
use Rattle.jc_account.proofs.IndexFacts.{with-last}
use Rattle.jc_perindex.specs.Failures.{has_failed}

-- ---- they stay in order

pub increasing-filter : (test : ℕ → Bool) (xs : List ℕ) → IsIncreasing xs → IsIncreasing (filter test xs)
increasing-filter test [] up = tt
increasing-filter test (x ∷ xs) up = by (test x) (increasing-filter test xs up.1)
  where
    by : (b : Bool) → IsIncreasing (filter test xs) → IsIncreasing (cond b (x ∷ filter test xs) (filter test xs))
    by true h = (Each-filter (λ y. x < y) test xs up.0, h)
    by false h = h

pub increasing-with : (n : ℕ) (xs : List ℕ) → IsIncreasing xs → IsIncreasing (with_member n xs)
increasing-with n xs up =
    let above : Each (λ y. n < y) (filter (λ x. nat_lt n x) xs) =
    Each-weaker (λ x. nat_lt n x ≡ true) (λ y. n < y) (λ x e. ltb-true n x e) (filter (λ x. nat_lt n x) xs) (Each-passes (λ x. nat_lt n x) xs) in
    let below : Each (λ x. x < n) (filter (λ x. nat_lt x n) xs) =
    Each-weaker (λ x. nat_lt x n ≡ true) (λ x. x < n) (λ x e. ltb-true x n e) (filter (λ x. nat_lt x n) xs) (Each-passes (λ x. nat_lt x n) xs) in
    increasing_append (filter (λ x. nat_lt x n) xs) (n ∷ filter (λ x. nat_lt n x) xs) n
    (increasing-filter (λ x. nat_lt x n) xs up) (above, increasing-filter (λ x. nat_lt n x) xs up) below
    (omega arith, Each-weaker (λ y. n < y) (λ y. n ≤ y) (λ y l. omega (arith, l)) (filter (λ x. nat_lt n x) xs) above)

pub increasing-join : (xs more : List ℕ) → IsIncreasing xs → IsIncreasing (join xs more)
increasing-join xs [] up = up
increasing-join xs (n ∷ more) up = increasing-with n (join xs more) (increasing-join xs more up)

-- ---- one member more, from the front on

pub with-before : (n x : ℕ) (xs : List ℕ) → n < x → IsIncreasing (x ∷ xs) → with_member n (x ∷ xs) ≡ n ∷ x ∷ xs
with-before n x xs l up =
    ap (λ ys. ys ++ n ∷ filter (λ y. nat_lt n y) (x ∷ xs))
    (filter_none (λ y. nat_lt y n) (x ∷ xs) (le-ltb x n (omega (arith, l)), Each-weaker (λ y. x < y) (λ y. nat_lt y n ≡ false) (λ y m. le-ltb y n (omega (arith, l, m))) xs up.0))
    ∙ ap (λ ys. n ∷ ys)
    (filter_all (λ y. nat_lt n y) (x ∷ xs) (lt-ltb n x l, Each-weaker (λ y. x < y) (λ y. nat_lt n y ≡ true) (λ y m. lt-ltb n y (omega (arith, l, m))) xs up.0))

pub with-here : (n x : ℕ) (xs : List ℕ) → n ≡ x → IsIncreasing (x ∷ xs) → with_member n (x ∷ xs) ≡ n ∷ xs
with-here n x xs e up =
    ap (λ ys. ys ++ n ∷ filter (λ y. nat_lt n y) (x ∷ xs))
    (filter_none (λ y. nat_lt y n) (x ∷ xs) (le-ltb x n (omega (arith, e)), Each-weaker (λ y. x < y) (λ y. nat_lt y n ≡ false) (λ y m. le-ltb y n (omega (arith, e, m))) xs up.0))
    ∙ ap (λ b. n ∷ cond b (x ∷ filter (λ y. nat_lt n y) xs) (filter (λ y. nat_lt n y) xs)) (le-ltb n x (omega (arith, e)))
    ∙ ap (λ ys. n ∷ ys) (filter_all (λ y. nat_lt n y) xs (Each-weaker (λ y. x < y) (λ y. nat_lt n y ≡ true) (λ y m. lt-ltb n y (omega (arith, e, m))) xs up.0))

pub with-behind : (n x : ℕ) (xs : List ℕ) → x < n → with_member n (x ∷ xs) ≡ x ∷ with_member n xs
with-behind n x xs l =
    ap (λ b. cond b (x ∷ filter (λ y. nat_lt y n) xs) (filter (λ y. nat_lt y n) xs) ++ n ∷ filter (λ y. nat_lt n y) (x ∷ xs)) (lt-ltb x n l)
    ∙ ap (λ b. x ∷ filter (λ y. nat_lt y n) xs ++ n ∷ cond b (x ∷ filter (λ y. nat_lt n y) xs) (filter (λ y. nat_lt n y) xs)) (le-ltb n x (omega (arith, l)))

-- ---- one member more at the end

abbrev index_of : IndexCount → ℕ
index_of count = count.index

-- The indexes of the counts before a place are below that at the place.
front-below : (counts : List IndexCount) (i : ℕ) (d : IndexCount) → IsIncreasing (map index_of counts) → i < length counts → Each (λ (count : IndexCount). count.index < (get_or counts i d).index) (take i counts)
front-below [] i d up l = absurd (omega (arith, l))
front-below (c ∷ counts) zero d up l = tt
front-below (c ∷ counts) (suc i) d up l = (at counts i up.0 (omega (arith, l)), front-below counts i d up.1 (omega (arith, l)))
  where
    at : (counts : List IndexCount) (i : ℕ) → Each (λ y. c.index < y) (map index_of counts) → i < length counts → c.index < (get_or counts i d).index
    at [] i h l = absurd (omega (arith, l))
    at (x ∷ counts) zero h l = h.0
    at (x ∷ counts) (suc i) h l = at counts i h.1 (omega (arith, l))

map-append : (xs ys : List IndexCount) → map index_of (xs ++ ys) ≡ map index_of xs ++ map index_of ys
map-append [] ys = refl
map-append (x ∷ xs) ys = ap (λ ns. x.index ∷ ns) (map-append xs ys)

-- ---- in pieces

-- A front part of what increases does.
pub up-front : (xs ys : List ℕ) → IsIncreasing (xs ++ ys) → IsIncreasing xs
up-front [] ys up = tt
up-front (x ∷ xs) ys up = (each xs up.0, up-front xs ys up.1)
  where
    each : (zs : List ℕ) → Each (λ y. x < y) (zs ++ ys) → Each (λ y. x < y) zs
    each [] h = tt
    each (z ∷ zs) h = (h.0, each zs h.1)

-- What is kept of a front part stands before the rest.
pub up-kept : (test : IndexCount → Bool) (front rest : List IndexCount) → IsIncreasing (map index_of (front ++ rest)) → IsIncreasing (map index_of (filter test front) ++ map index_of rest)
up-kept test [] rest up = up
up-kept test (c ∷ front) rest up = by (test c) (up-kept test front rest up.1)
  where
    each : (xs : List IndexCount) → Each (λ y. c.index < y) (map index_of (xs ++ rest)) → Each (λ y. c.index < y) (map index_of (filter test xs) ++ map index_of rest)
    each [] h = h
    each (x ∷ xs) h = one (test x) (each xs h.1)
      where
        one : (b : Bool) → Each (λ y. c.index < y) (map index_of (filter test xs) ++ map index_of rest) → Each (λ y. c.index < y) (map index_of (cond b (x ∷ filter test xs) (filter test xs)) ++ map index_of rest)
        one true ih = (h.0, ih)
        one false ih = ih

    by : (b : Bool) → IsIncreasing (map index_of (filter test front) ++ map index_of rest) → IsIncreasing (map index_of (cond b (c ∷ filter test front) (filter test front)) ++ map index_of rest)
    by true ih = (each front up.0, ih)
    by false ih = ih

-- What is kept of the front part of a piece is below what comes next, and so is what stood before the piece.
below-next : (test : IndexCount → Bool) (old : List ℕ) (counts : List IndexCount) (i : ℕ) (d : IndexCount) → IsIncreasing (old ++ map index_of counts) → i < length counts
    → Each (λ y. y < (get_or counts i d).index) (old ++ map index_of (filter test (take i counts)))
below-next test [] counts i d up l =
    Each-map index_of (λ n. n < (get_or counts i d).index) (filter test (take i counts))
    (Each-filter (λ (c : IndexCount). c.index < (get_or counts i d).index) test (take i counts) (front-below counts i d up l))
below-next test (x ∷ old) counts i d up l = (at old counts i up.0 l, below-next test old counts i d up.1 l)
  where
    at : (old : List ℕ) (counts : List IndexCount) (i : ℕ) → Each (λ y. x < y) (old ++ map index_of counts) → i < length counts → x < (get_or counts i d).index
    at (y ∷ old) counts i h l = at old counts i h.1 l
    at [] [] i h l = absurd (omega (arith, l))
    at [] (c ∷ counts) zero h l = h.0
    at [] (c ∷ counts) (suc i) h l = at [] counts i h.1 (omega (arith, l))

module _ (test : IndexCount → Bool) (old : List ℕ) (counts : List IndexCount) (i : ℕ) (count d : IndexCount) (up : IsIncreasing (old ++ map index_of counts)) (within : i < length counts) (is : count ≡ get_or counts i d) where
  kept : filter test (take (i + 1) counts) ≡ filter test (take i counts) ++ cond (test count) (count ∷ []) []
  kept = ap (filter test) (take_more counts i d within) ∙ filter-append test (take i counts) (get_or counts i d ∷ []) ∙ ap (λ c. filter test (take i counts) ++ cond (test c) (c ∷ []) []) (sym is)

  -- The index of the next count that passes comes behind.
  pub joins-next : test count ≡ true → with_member count.index (old ++ map index_of (filter test (take i counts))) ≡ old ++ map index_of (filter test (take (i + 1) counts))
  joins-next e =
      with-last count.index (old ++ map index_of (filter test (take i counts)))
      (each_weaker (λ y. y < (get_or counts i d).index) (λ y. y < count.index) (λ y l. omega (arith, l, ap index_of is)) (old ++ map index_of (filter test (take i counts))) (below-next test old counts i d up within))
      ∙ append_assoc old (map index_of (filter test (take i counts))) (count.index ∷ [])
      ∙ ap (λ ns. old ++ ns)
      (sym (map-append (filter test (take i counts)) (count ∷ []))
      ∙ ap (λ b. map index_of (filter test (take i counts) ++ cond b (count ∷ []) [])) (sym e)
      ∙ ap (map index_of) (sym kept))

  -- One that fails adds nothing.
  pub skips-next : test count ≡ false → old ++ map index_of (filter test (take i counts)) ≡ old ++ map index_of (filter test (take (i + 1) counts))
  skips-next e =
      ap (λ ns. old ++ map index_of ns)
      (sym (append-nil (filter test (take i counts)))
      ∙ ap (λ b. filter test (take i counts) ++ cond b (count ∷ []) []) (sym e) ∙ sym kept)

module _ (test : IndexCount → Bool) (pieces : List (List IndexCount)) (i : ℕ) (piece : List IndexCount) where
  -- The next piece stands above what is kept of those before it.
  pub piece-above : (old : List ℕ) → IsIncreasing (map index_of (items_in pieces)) → i < length pieces → piece ≡ get_or pieces i [] → old ≡ map index_of (filter test (items_in (take i pieces)))
      → IsIncreasing (old ++ map index_of piece)
  piece-above old up within is e =
      let front = items_in (take i pieces) in
      let back = items_in (drop (suc i) pieces) in
      let split : items_in pieces ≡ (front ++ piece) ++ back =
      around pieces i within ∙ ap (λ p. front ++ (p ++ back)) (sym is) ∙ sym (append_assoc front piece back) in
      let both : IsIncreasing (map index_of (front ++ piece) ++ map index_of back) =
      subst IsIncreasing (ap (map index_of) split ∙ map-append (front ++ piece) back) up in
      subst (λ ns. IsIncreasing (ns ++ map index_of piece)) (sym e) (up-kept test front piece (up-front (map index_of (front ++ piece)) (map index_of back) both))

  -- With what is kept of it they are what is kept of one piece more.
  pub next-piece : (old new : List ℕ) → i < length pieces → piece ≡ get_or pieces i [] → old ≡ map index_of (filter test (items_in (take i pieces))) → new ≡ old ++ map index_of (filter test piece)
      → new ≡ map index_of (filter test (items_in (take (i + 1) pieces)))
  next-piece old new within is e f =
      f ∙ ap (λ ns. ns ++ map index_of (filter test piece)) e
      ∙ sym (map-append (filter test (items_in (take i pieces))) (filter test piece))
      ∙ ap (map index_of) (sym (filter-append test (items_in (take i pieces)) piece))
      ∙ ap (λ p. map index_of (filter test (items_in (take i pieces) ++ p))) is
      ∙ ap (λ counts. map index_of (filter test counts)) (sym (items_more pieces i within))

-- ---- one piece

-- What stands behind others ascends where all do.
up-back : (xs ys : List ℕ) → IsIncreasing (xs ++ ys) → IsIncreasing ys
up-back [] ys up = up
up-back (x ∷ xs) ys up = up-back xs ys up.1

-- The indexes of a piece ascend where those of all do.
pub piece-up : (pieces : List (List IndexCount)) (i : ℕ) (piece : List IndexCount) → IsIncreasing (map index_of (items_in pieces)) → i < length pieces → piece ≡ get_or pieces i [] → IsIncreasing (map index_of piece)
piece-up pieces i piece up within is =
    let all = λ (count : IndexCount). true in
    let front = map index_of (filter all (items_in (take i pieces))) in
    up-back front (map index_of piece) (piece-above all pieces i piece front up within is refl)

-- A count within the limit has not failed its index.
not-failed : (limit completions : ℕ) (completed : List ℕ) (count : IndexCount) → IsWithin limit count → has_failed limit completions completed count ≡ false
not-failed limit completions completed count within =
    ap (λ b. nat_lt count.index completions && (not (has count.index completed) && (b || count.fail))) (le-ltb limit count.failures within.0)
    ∙ ap (λ b. nat_lt count.index completions && (not (has count.index completed) && b)) within.1
    ∙ off (nat_lt count.index completions) (not (has count.index completed))
  where
    off : (a b : Bool) → a && (b && false) ≡ false
    off true true = refl
    off true false = refl
    off false b = refl

-- Where each count is within the limit, no index has failed.
pub none-within : (limit completions : ℕ) (completed : List ℕ) (counts : List IndexCount) → All (λ count. IsWithin limit count) counts
    → filter (has_failed limit completions completed) counts ≡ []
none-within limit completions completed counts within =
    filter_none (has_failed limit completions completed) counts
    (Each-weaker (IsWithin limit) (λ count. has_failed limit completions completed count ≡ false) (not-failed limit completions completed) counts (recursion_from_All (IsWithin limit) counts within))
