-- A count that is written at its place in a list is what `raise` says.
use Rattle.std.proofs.Common.{◌≡◌, ◌<◌, ◌≤◌, ◌+◌, ◌++◌, ℕ, suc, zero, Bool, true, false, not, cond, eqb, ltb, leb, List, [], ◌∷◌, length, get_or, map, take, drop, Some, None, refl, ap, sym, ◌∙◌, subst, arith, true≢false}
use Rattle.std.specs.List.{AllByRecursion as Each, position, position_or_len}
use Rattle.std.proofs.Math.ListN.{set}
use Rattle.std.proofs.lemmas.Bool.{ltb-true, ltb-false, leb-true, leb-false, eqb-true, eqb-false, le-ltb, lt-leb}
use Rattle.std.proofs.lemmas.List.{take_all, drop_all, get_or_default, length-append}
use Rattle.std.proofs.lemmas.List.Concat.{get_or-flat_map}
use Rattle.std.proofs.lemmas.List.Elements.{All-from_recursion}
use Rattle.jc_ranges.specs.Sets.{IsIncreasing}
use Rattle.jc_ranges.proofs.Order.{each_from_zero}
use Rattle.jc_types.specs.declared.statuses.IndexCount.{IndexCount}
use Rattle.jc_types.specs.Pieces.{items_in}
use Rattle.jc_types.proofs.PieceFacts.{around, items_more, place_inside}
use Rattle.jc_account.proofs.Placed.{Found, found}
use Rattle.jc_perindex.specs.FillingSteps.{one_failure, raise, with_failure}

-- The place in the list: the first count whose index is not below.
abbrev pub place : ℕ → List IndexCount → ℕ
place n counts = position_or_len (λ (count : IndexCount). leb n count.index) counts

-- One step down the list.
there_step : (n : ℕ) (f : Bool) (d v : IndexCount) (rest : List IndexCount) (k m : ℕ) → m ≡ suc k
    → (k < length rest → (get_or rest k d).index ≡ n → raise n f rest ≡ set rest k (with_failure f (get_or rest k d)))
    → m < length (v ∷ rest) → (get_or (v ∷ rest) m d).index ≡ n → v ∷ raise n f rest ≡ set (v ∷ rest) m (with_failure f (get_or (v ∷ rest) m d))
there_step n f d v rest k m at ih within same =
    ap (λ xs. v ∷ xs) (ih (omega (arith, at, within)) (ap (λ i. (get_or (v ∷ rest) i d).index) (sym at) ∙ same))
    ∙ ap (λ i. set (v ∷ rest) i (with_failure f (get_or (v ∷ rest) i d))) (sym at)

between_step : (n : ℕ) (f : Bool) (d v : IndexCount) (rest : List IndexCount) (k m : ℕ) → m ≡ suc k
    → ((k < length rest → (get_or rest k d).index ≡ n → ⊥) → raise n f rest ≡ take k rest ++ one_failure n f ∷ drop k rest)
    → (m < length (v ∷ rest) → (get_or (v ∷ rest) m d).index ≡ n → ⊥)
    → v ∷ raise n f rest ≡ take m (v ∷ rest) ++ one_failure n f ∷ drop m (v ∷ rest)
between_step n f d v rest k m at ih other =
    ap (λ xs. v ∷ xs) (ih (λ within same. other (omega (arith, at, within)) (ap (λ i. (get_or (v ∷ rest) i d).index) at ∙ same)))
    ∙ ap (λ i. take i (v ∷ rest) ++ one_failure n f ∷ drop i (v ∷ rest)) (sym at)

raise_at : (n : ℕ) (f : Bool) (d : IndexCount) (counts : List IndexCount) → place n counts < length counts → (get_or counts (place n counts) d).index ≡ n
    → raise n f counts ≡ set counts (place n counts) (with_failure f (get_or counts (place n counts) d))
raise_at n f d [] within same = absurd (omega (arith, within))
raise_at n f d (v ∷ rest) within same = by (ltb n v.index) (eqb n v.index) (leb n v.index) refl refl refl (raise_at n f d rest) within same
  where
    by : (lt eq le : Bool) → ltb n v.index ≡ lt → eqb n v.index ≡ eq → leb n v.index ≡ le
        → (place n rest < length rest → (get_or rest (place n rest) d).index ≡ n → raise n f rest ≡ set rest (place n rest) (with_failure f (get_or rest (place n rest) d)))
        → cond (not le) (1 + place n rest) 0 < length (v ∷ rest)
        → (get_or (v ∷ rest) (cond (not le) (1 + place n rest) 0) d).index ≡ n
        → cond lt (one_failure n f ∷ v ∷ rest) (cond eq (with_failure f v ∷ rest) (v ∷ raise n f rest))
        ≡ set (v ∷ rest) (cond (not le) (1 + place n rest) 0) (with_failure f (get_or (v ∷ rest) (cond (not le) (1 + place n rest) 0) d))
    by true eq true l e m ih within same = absurd (omega (arith, ltb-true n v.index l, same))
    by true eq false l e m ih within same = absurd (omega (arith, ltb-true n v.index l, leb-false n v.index m))
    by false true true l e m ih within same = refl
    by false true false l e m ih within same = absurd (omega (arith, eqb-true n v.index e, leb-false n v.index m))
    by false false true l e m ih within same = absurd (eqb-false n v.index e (sym same))
    by false false false l e m ih within same = there_step n f d v rest (place n rest) (1 + place n rest) (omega arith) ih within same

raise_between : (n : ℕ) (f : Bool) (d : IndexCount) (counts : List IndexCount) → (place n counts < length counts → (get_or counts (place n counts) d).index ≡ n → ⊥)
    → raise n f counts ≡ take (place n counts) counts ++ one_failure n f ∷ drop (place n counts) counts
raise_between n f d [] other = refl
raise_between n f d (v ∷ rest) other = by (ltb n v.index) (eqb n v.index) (leb n v.index) refl refl refl (raise_between n f d rest) other
  where
    by : (lt eq le : Bool) → ltb n v.index ≡ lt → eqb n v.index ≡ eq → leb n v.index ≡ le
        → ((place n rest < length rest → (get_or rest (place n rest) d).index ≡ n → ⊥) → raise n f rest ≡ take (place n rest) rest ++ one_failure n f ∷ drop (place n rest) rest)
        → (cond (not le) (1 + place n rest) 0 < length (v ∷ rest) → (get_or (v ∷ rest) (cond (not le) (1 + place n rest) 0) d).index ≡ n → ⊥)
        → cond lt (one_failure n f ∷ v ∷ rest) (cond eq (with_failure f v ∷ rest) (v ∷ raise n f rest))
        ≡ take (cond (not le) (1 + place n rest) 0) (v ∷ rest) ++ one_failure n f ∷ drop (cond (not le) (1 + place n rest) 0) (v ∷ rest)
    by true eq true l e m ih other = refl
    by true eq false l e m ih other = absurd (omega (arith, ltb-true n v.index l, leb-false n v.index m))
    by false true true l e m ih other = absurd (other (omega arith) (sym (eqb-true n v.index e)))
    by false true false l e m ih other = absurd (omega (arith, eqb-true n v.index e, leb-false n v.index m))
    by false false true l e m ih other = absurd (eqb-false n v.index e (omega (arith, ltb-false n v.index l, leb-true n v.index m)))
    by false false false l e m ih other = between_step n f d v rest (place n rest) (1 + place n rest) (omega arith) ih other

-- The index has a count.
pub raise_there : (n : ℕ) (f : Bool) (there : IndexCount) (counts : List IndexCount) (k : ℕ) → k ≡ place n counts → k < length counts
    → there ≡ get_or counts k there → there.index ≡ n → raise n f counts ≡ set counts k (with_failure f there)
raise_there n f there counts k at within is same =
    raise_at n f there counts (omega (arith, at, within))
    (ap (λ i. (get_or counts i there).index) (sym at) ∙ ap (λ (count : IndexCount). count.index) (sym is) ∙ same)
    ∙ ap (λ i. set counts i (with_failure f (get_or counts i there))) (sym at)
    ∙ ap (λ count. set counts k (with_failure f count)) (sym is)

-- The index has its place before a greater one.
pub raise_before : (n : ℕ) (f : Bool) (there : IndexCount) (counts : List IndexCount) (k : ℕ) → k ≡ place n counts
    → there ≡ get_or counts k there → (there.index ≡ n → ⊥) → raise n f counts ≡ take k counts ++ one_failure n f ∷ drop k counts
raise_before n f there counts k at is other =
    raise_between n f there counts
    (λ within same. other (ap (λ (count : IndexCount). count.index) is ∙ ap (λ i. (get_or counts i there).index) at ∙ same))
    ∙ ap (λ i. take i counts ++ one_failure n f ∷ drop i counts) (sym at)

-- The index has its place at the end.
pub raise_last : (n : ℕ) (f : Bool) (counts : List IndexCount) → length counts ≤ place n counts → raise n f counts ≡ counts ++ one_failure n f ∷ []
raise_last n f counts past =
    raise_between n f (one_failure n f) counts (λ within same. absurd (omega (arith, within, past)))
    ∙ ap (λ xs. xs ++ one_failure n f ∷ drop (place n counts) counts) (take_all (place n counts) counts past)
    ∙ ap (λ xs. counts ++ one_failure n f ∷ xs) (drop_all (place n counts) counts past)

-- What holds of each index holds of each count.
each_count : (P : ℕ → Type 0) (counts : List IndexCount) → Each P (map (λ (count : IndexCount). count.index) counts) → Each (λ (count : IndexCount). P count.index) counts
each_count P [] all = tt
each_count P (c ∷ counts) all = (all.0, each_count P counts all.1)

-- One more that is below is passed, too.
one_below : (n : ℕ) (c : IndexCount) (rest : List IndexCount) → c.index < n → length rest ≤ place n rest → length (c ∷ rest) ≤ place n (c ∷ rest)
one_below n c rest below past = by (leb n c.index) (lt-leb n c.index below)
  where
    by : (le : Bool) → le ≡ false → length (c ∷ rest) ≤ cond (not le) (1 + place n rest) 0
    by true e = absurd (true≢false e)
    by false e = omega (arith, past)

-- Where the last one is below, all are.
last_below : (n : ℕ) (counts : List IndexCount) (i : ℕ) (last : IndexCount) → IsIncreasing (map (λ (count : IndexCount). count.index) counts)
    → i + 1 ≡ length counts → last ≡ get_or counts i last → last.index < n → length counts ≤ place n counts
last_below n [] i last up end is below = omega arith
last_below n (c ∷ []) i last up end is below =
    let front : i ≡ 0 = omega (arith, end) in
    let same : last ≡ c = is ∙ ap (λ k. get_or (c ∷ []) k last) front in
    one_below n c [] (omega (arith, below, ap (λ (count : IndexCount). count.index) same)) (omega arith)
last_below n (c ∷ d ∷ rest) zero last up end is below = absurd (omega (arith, end))
last_below n (c ∷ d ∷ rest) (suc j) last up end is below =
    let over = All-from_recursion (λ (count : IndexCount). c.index < count.index) (d ∷ rest) (each_count (λ k. c.index < k) (d ∷ rest) up.0) j last (omega (arith, end)) in
    one_below n c (d ∷ rest) (omega (arith, over, below, ap (λ (count : IndexCount). count.index) is))
    (last_below n (d ∷ rest) j last up.1 (omega (arith, end)) is below)

-- Then none is found.
none_from : (n : ℕ) (counts : List IndexCount) (i : ℕ) (last : IndexCount) → IsIncreasing (map (λ (count : IndexCount). count.index) counts)
    → i + 1 ≡ length counts → last ≡ get_or counts i last → last.index < n → None ≡ position (λ (count : IndexCount). leb n count.index) counts
none_from n counts i last up end is below =
    sym (ap (λ b. cond b (Some (place n counts)) None) (le-ltb (place n counts) (length counts) (last_below n counts i last up end is below)))

pub none_at : (n : ℕ) (counts : List IndexCount) (i : ℕ) (d : IndexCount) → IsIncreasing (map (λ (count : IndexCount). count.index) counts)
    → i + 1 ≡ length counts → (get_or counts i d).index < n → None ≡ position (λ (count : IndexCount). leb n count.index) counts
none_at n counts i d up end below =
    let last = get_or counts i d in
    none_from n counts i last up end (get_or_default counts i d last (omega (arith, end))) below

-- Where the last one of the last piece is below, all are.
pub all_below : (n : ℕ) (pieces : List (List IndexCount)) (i k : ℕ) (piece : List IndexCount) (last : IndexCount) → IsIncreasing (map (λ (count : IndexCount). count.index) (items_in pieces))
    → i + 1 ≡ length pieces → piece ≡ get_or pieces i [] → k + 1 ≡ length piece → last ≡ get_or piece k last → last.index < n → length (items_in pieces) ≤ place n (items_in pieces)
all_below n pieces i k piece last up end is behind here below =
    let within : i < length pieces = omega (arith, end) in
    let whole : length (items_in (take (i + 1) pieces)) ≡ length (items_in pieces) = ap (λ ps. length (items_in ps)) (take_all (i + 1) pieces (omega (arith, end))) in
    let front = items_in (take i pieces) in
    let sums : length front + length piece ≡ length (items_in pieces) =
    omega (arith, whole, ap length is, ap length (items_more pieces i within), length-append front (get_or pieces i [])) in
    last_below n (items_in pieces) (length front + k) last up (omega (arith, sums, behind))
    (here ∙ ap (λ p. get_or p k last) is ∙ sym (get_or-flat_map (λ (p : List IndexCount). p) pieces i k [] last within (omega (arith, behind, ap length is))))
    below

-- ---- the place among pieces

-- Where all of the front part are below, the place is behind it.
pub place_behind : (n : ℕ) (front back : List IndexCount) → length front ≤ place n front → place n (front ++ back) ≡ length front + place n back
place_behind n [] back past = omega arith
place_behind n (c ∷ front) back past = by (leb n c.index) past (place_behind n front back)
  where
    by : (le : Bool) → length (c ∷ front) ≤ cond (not le) (1 + place n front) 0 → (length front ≤ place n front → place n (front ++ back) ≡ length front + place n back)
        → cond (not le) (1 + place n (front ++ back)) 0 ≡ length (c ∷ front) + place n back
    by true past ih = absurd (omega (arith, past))
    by false past ih = omega (arith, ih (omega (arith, past)))

-- Where one of the front part is not below, the place is in it.
pub place_within : (n : ℕ) (front back : List IndexCount) → place n front < length front → place n (front ++ back) ≡ place n front
place_within n [] back within = absurd (omega (arith, within))
place_within n (c ∷ front) back within = by (leb n c.index) within (place_within n front back)
  where
    by : (le : Bool) → cond (not le) (1 + place n front) 0 < length (c ∷ front) → (place n front < length front → place n (front ++ back) ≡ place n front)
        → cond (not le) (1 + place n (front ++ back)) 0 ≡ cond (not le) (1 + place n front) 0
    by true within ih = refl
    by false within ih = ap (λ k. 1 + k) (ih (omega (arith, within)))

-- The place is no greater than the index, in ascending indexes.
place_few : (n low : ℕ) (counts : List IndexCount) → IsIncreasing (map (λ (count : IndexCount). count.index) counts) → Each (λ i. low ≤ i) (map (λ (count : IndexCount). count.index) counts) → low ≤ n → place n counts + low ≤ n
place_few n low [] up each few = omega (arith, few)
place_few n low (c ∷ counts) up each few = by (leb n c.index) refl (place_few n (suc c.index) counts up.1 up.0)
  where
    by : (le : Bool) → leb n c.index ≡ le → (suc c.index ≤ n → place n counts + suc c.index ≤ n) → cond (not le) (1 + place n counts) 0 + low ≤ n
    by true e ih = omega (arith, few)
    by false e ih =
        let less = leb-false n c.index e in
        omega (arith, each.0, ih (omega (arith, less)))

pub place_small : (n : ℕ) (counts : List IndexCount) → IsIncreasing (map (λ (count : IndexCount). count.index) counts) → place n counts ≤ n
place_small n counts up =
    omega (arith, place_few n 0 counts up (each_from_zero (map (λ (count : IndexCount). count.index) counts)) (omega arith))

-- The place that a search of a piece finds.
pub in_piece : (n : ℕ) (piece : List IndexCount) (k : ℕ) → Some k ≡ position (λ (count : IndexCount). leb n count.index) piece → (place n piece ≡ k) × (place n piece < length piece)
unfolding Found
in_piece n piece k at = subst (Found (place n piece) (length piece)) (sym at) (found (place n piece) (length piece))

-- Where it finds none all are below.
pub not_in_piece : (n : ℕ) (piece : List IndexCount) → None ≡ position (λ (count : IndexCount). leb n count.index) piece → length piece ≤ place n piece
unfolding Found
not_in_piece n piece at = subst (Found (place n piece) (length piece)) (sym at) (found (place n piece) (length piece))

module _ (n : ℕ) (pieces : List (List IndexCount)) (i passed : ℕ) (piece : List IndexCount) (within : i < length pieces) (is : piece ≡ get_or pieces i [])
    (at : passed ≡ length (items_in (take i pieces))) (below : length (items_in (take i pieces)) ≤ place n (items_in (take i pieces))) where
  behind : place n (items_in pieces) ≡ passed + place n (piece ++ items_in (drop (suc i) pieces))
  behind =
      ap (place n) (around pieces i within ∙ ap (λ p. items_in (take i pieces) ++ (p ++ items_in (drop (suc i) pieces))) (sym is))
      ∙ place_behind n (items_in (take i pieces)) (piece ++ items_in (drop (suc i) pieces)) below
      ∙ ap (λ m. m + place n (piece ++ items_in (drop (suc i) pieces))) (sym at)

  -- The place in the piece is one among all.
  pub place_here : (k : ℕ) → place n piece ≡ k → place n piece < length piece → passed + k ≡ place n (items_in pieces)
  place_here k here few =
      sym (behind ∙ ap (λ m. passed + m) (place_within n piece (items_in (drop (suc i) pieces)) few ∙ here))

  pub here_inside : (k : ℕ) → k < length piece → passed + k < length (items_in pieces)
  here_inside k few = omega (arith, at, place_inside pieces i k within (omega (arith, few, ap length is)))

  pub here_is : (k : ℕ) (d : IndexCount) (counts : List IndexCount) → items_in pieces ≡ counts → k < length piece → get_or piece k d ≡ get_or counts (passed + k) (get_or piece k d)
  here_is k d counts are few =
      get_or_default piece k d (get_or piece k d) few
      ∙ ap (λ p. get_or p k (get_or piece k d)) is
      ∙ sym (get_or-flat_map (λ (p : List IndexCount). p) pieces i k [] (get_or piece k d) within (omega (arith, few, ap length is)))
      ∙ ap (λ m. get_or (items_in pieces) (m + k) (get_or piece k d)) (sym at)
      ∙ ap (λ (cs : List IndexCount). get_or cs (passed + k) (get_or piece k d)) are

  -- With the piece all are passed and below.
  pub passed_more : passed + length piece ≡ length (items_in (take (i + 1) pieces))
  passed_more =
      omega (arith, at, ap length is, ap length (items_more pieces i within), length-append (items_in (take i pieces)) (get_or pieces i []))

  pub below_more : length piece ≤ place n piece → length (items_in (take (i + 1) pieces)) ≤ place n (items_in (take (i + 1) pieces))
  below_more past =
      omega (
        arith,
        past,
        at,
        passed_more,
        ap (place n) (items_more pieces i within ∙ ap (λ p. items_in (take i pieces) ++ p) (sym is)),
        place_behind n (items_in (take i pieces)) piece below,
      )

  -- No more are passed than the index says.
  pub passed_few : length piece ≤ place n piece → IsIncreasing (map (λ (count : IndexCount). count.index) (items_in pieces)) → passed + length piece ≤ n
  passed_few past up =
      omega (arith, past, behind, place_behind n piece (items_in (drop (suc i) pieces)) past, place_small n (items_in pieces) up)
