-- Facts on lists of UIDs and sets of indexes: what is in a filter, a merge and a join, their order and
-- their lengths.
use Rattle.std.proofs.Common.{◌≡◌, ℕ, suc, ◌+◌, ◌≤◌, ◌==◌, nat_lt, eqb, Bool, true, false, cond, ◌&&◌, ◌||◌, List, [], ◌∷◌, filter, length, refl, sym, ap, ◌∙◌, arith, ltb-true, ltb-false, eqb-true, eq-eqb, ne_eqb, true≢false}
use Rattle.std.specs.List.{AllByRecursion as Each}
use Rattle.std.proofs.lemmas.Bool.{eqb-false, or_left, or_right}
use Rattle.jc_ranges.specs.Sets.{has}
use Rattle.jc_ranges.proofs.Order.{has-with_member}
use Rattle.jc_types.specs.declared.numbers.Uid.{Uid}
use Rattle.jc_types.specs.declared.objects.Pod.{Pod}
use Rattle.jc_types.specs.Keys.{same_uid}
use Rattle.jc_states.specs.PodLists.{RisesFrom}
use Rattle.jc_states.specs.UidLists.{is_in, with_uid, merge, AscendsFrom, uids_of, join}
use Rattle.jc_types.proofs.KeyFacts.{same_uid-eq, same_uid-itself}

-- ---- what is in a list

-- What is in a filter is in the list and passes.
pub is_in-filter : (u : Uid) (test : Uid → Bool) (uids : List Uid) → is_in u (filter test uids) ≡ (is_in u uids && test u)
is_in-filter u test [] = refl
is_in-filter u test (v ∷ uids) = by (is_in-filter u test uids) (same_uid v u) refl (test v) refl
  where
    by : is_in u (filter test uids) ≡ (is_in u uids && test u) → (s : Bool) → same_uid v u ≡ s → (t : Bool) → test v ≡ t → is_in u (cond t (v ∷ filter test uids) (filter test uids)) ≡ ((s || is_in u uids) && test u)
    by ih true s true t = ap (λ b. b || is_in u (filter test uids)) s ∙ sym (ap test (sym (same_uid-eq v u s)) ∙ t)
    by ih true s false t =
        let out : test u ≡ false = ap test (sym (same_uid-eq v u s)) ∙ t in
        ih ∙ ap (λ b. is_in u uids && b) out ∙ none (is_in u uids) ∙ sym out
      where
        none : (b : Bool) → (b && false) ≡ false
        none true = refl
        none false = refl
    by ih false s true t = ap (λ b. b || is_in u (filter test uids)) s ∙ ih
    by ih false s false t = ih

-- What is in a list with one more is that one or was there.
pub is_in-with : (u v : Uid) (uids : List Uid) → is_in u (with_uid v uids) ≡ (same_uid v u || is_in u uids)
is_in-with u v [] = refl
is_in-with u v (w ∷ uids) = by (is_in-with u v uids) (nat_lt v.0 w.0) (v.0 == w.0) refl
  where
    by : is_in u (with_uid v uids) ≡ (same_uid v u || is_in u uids) → (lt eq : Bool) → (v.0 == w.0) ≡ eq → is_in u (cond lt (v ∷ w ∷ uids) (cond eq (w ∷ uids) (w ∷ with_uid v uids))) ≡ (same_uid v u || (same_uid w u || is_in u uids))
    by ih true eq e = refl
    by ih false true e = twice (same_uid v u) (same_uid w u) (ap (λ x. same_uid x u) (same_uid-eq v w e))
      where
        twice : (a b : Bool) → a ≡ b → (b || is_in u uids) ≡ (a || (b || is_in u uids))
        twice true true s = refl
        twice false b s = refl
        twice true false s = absurd (true≢false s)
    by ih false false e = ap (λ b. same_uid w u || b) ih ∙ swapped (same_uid v u) (same_uid w u)
      where
        swapped : (a b : Bool) → (b || (a || is_in u uids)) ≡ (a || (b || is_in u uids))
        swapped true true = refl
        swapped true false = refl
        swapped false b = refl

-- What is in a merge is in one of both.
pub is_in-merge : (u : Uid) (uids more : List Uid) → is_in u (merge uids more) ≡ (is_in u uids || is_in u more)
is_in-merge u uids [] = none (is_in u uids)
  where
    none : (b : Bool) → b ≡ (b || false)
    none true = refl
    none false = refl
is_in-merge u uids (v ∷ more) = is_in-with u v (merge uids more) ∙ ap (λ b. same_uid v u || b) (is_in-merge u uids more) ∙ swapped (same_uid v u) (is_in u uids)
  where
    swapped : (a b : Bool) → (a || (b || is_in u more)) ≡ (b || (a || is_in u more))
    swapped true true = refl
    swapped true false = refl
    swapped false true = refl
    swapped false false = refl

-- What is in a join is in one of both.
pub has-join : (n : ℕ) (indexes more : List ℕ) → has n (join indexes more) ≡ (has n indexes || has n more)
has-join n indexes [] = none (has n indexes)
  where
    none : (b : Bool) → b ≡ (b || false)
    none true = refl
    none false = refl
has-join n indexes (m ∷ more) =
    has-with_member n m (join indexes more) ∙ ap (λ b. eqb n m || b) (has-join n indexes more) ∙ swapped (eqb n m) (eqb m n) (either_way n m) (has n indexes)
  where
    either_way : (a b : ℕ) → eqb a b ≡ eqb b a
    either_way a b = by (eqb a b) refl
      where
        by : (t : Bool) → eqb a b ≡ t → t ≡ eqb b a
        by true h = sym (eq-eqb b a (sym (eqb-true a b h)))
        by false h = sym (ne_eqb b a (λ e. eqb-false a b h (sym e)))

    swapped : (a c : Bool) → a ≡ c → (b : Bool) → (a || (b || has n more)) ≡ (b || (c || has n more))
    swapped true true e true = refl
    swapped true true e false = refl
    swapped false false e true = refl
    swapped false false e false = refl
    swapped true false e b = absurd (true≢false e)
    swapped false true e b = absurd (true≢false (sym e))

-- ---- pods and their UIDs

-- A pod that passes has its UID among those that pass.
pub passes_in : (test : Pod → Bool) (pods : List Pod) → Each (λ pod. test pod ≡ true → is_in pod.uid (uids_of (filter test pods)) ≡ true) pods
passes_in test [] = tt
passes_in test (pod ∷ pods) = (here (test pod) refl, rest pods (passes_in test pods))
  where
    here : (b : Bool) → test pod ≡ b → b ≡ true → is_in pod.uid (uids_of (cond b (pod ∷ filter test pods) (filter test pods))) ≡ true
    here true t h = or_left (same_uid pod.uid pod.uid) (is_in pod.uid (uids_of (filter test pods))) (same_uid-itself pod.uid)
    here false t h = absurd (true≢false (sym h))

    more : (u : Uid) (b : Bool) → is_in u (uids_of (filter test pods)) ≡ true → is_in u (uids_of (cond b (pod ∷ filter test pods) (filter test pods))) ≡ true
    more u true h = or_right (same_uid pod.uid u) (is_in u (uids_of (filter test pods))) h
    more u false h = h

    rest : (some : List Pod) → Each (λ p. test p ≡ true → is_in p.uid (uids_of (filter test pods)) ≡ true) some → Each (λ p. test p ≡ true → is_in p.uid (uids_of (cond (test pod) (pod ∷ filter test pods) (filter test pods))) ≡ true) some
    rest [] h = tt
    rest (p ∷ some) h = (λ t. more p.uid (test pod) (h.0 t), rest some h.1)

-- A pod of the list that has this and passes, under its UID.
pub record Found (P : Pod → Type 0) (test : Pod → Bool) (u : Uid) : Type 0 where
  pub pod : Pod
  pub uid : pod.uid ≡ u
  pub passes : test pod ≡ true
  pub has : P pod

-- A UID among those that pass is that of a pod that passes, and has what each has.
pub some_in : (P : Pod → Type 0) (test : Pod → Bool) (u : Uid) (pods : List Pod) → Each P pods → is_in u (uids_of (filter test pods)) ≡ true → Found P test u
some_in P test u [] all h = absurd (true≢false (sym h))
some_in P test u (pod ∷ pods) all h = by (some_in P test u pods all.1) (test pod) refl h
  where
    at_pod : (is_in u (uids_of (filter test pods)) ≡ true → Found P test u) → test pod ≡ true → (s : Bool) → same_uid pod.uid u ≡ s → (s || is_in u (uids_of (filter test pods))) ≡ true → Found P test u
    at_pod ih t true s g = record { pod = pod; uid = same_uid-eq pod.uid u s; passes = t; has = all.0 }
    at_pod ih t false s g = ih g

    by : (is_in u (uids_of (filter test pods)) ≡ true → Found P test u) → (b : Bool) → test pod ≡ b → is_in u (uids_of (cond b (pod ∷ filter test pods) (filter test pods))) ≡ true → Found P test u
    by ih true t g = at_pod ih t (same_uid pod.uid u) refl g
    by ih false t g = ih g

-- ---- order

-- A lower bound may be lowered.
pub ascends_weaker : (low high : ℕ) (uids : List Uid) → low ≤ high → AscendsFrom high uids → AscendsFrom low uids
ascends_weaker low high [] h r = tt
ascends_weaker low high (u ∷ uids) h r = (omega (arith, h, r.0), r.1)

-- One more keeps the order.
pub ascends_with : (low : ℕ) (u : Uid) (uids : List Uid) → low ≤ u.0 → AscendsFrom low uids → AscendsFrom low (with_uid u uids)
ascends_with low u [] h r = (h, tt)
ascends_with low u (v ∷ uids) h r = by (λ le. ascends_with (v.0 + 1) u uids le r.1) (nat_lt u.0 v.0) refl (u.0 == v.0) refl
  where
    by : (v.0 + 1 ≤ u.0 → AscendsFrom (v.0 + 1) (with_uid u uids)) → (lt : Bool) → nat_lt u.0 v.0 ≡ lt → (eq : Bool) → (u.0 == v.0) ≡ eq → AscendsFrom low (cond lt (u ∷ v ∷ uids) (cond eq (v ∷ uids) (v ∷ with_uid u uids)))
    by ih true l eq e = let below = ltb-true u.0 v.0 l in (h, (omega (arith, below), r.1))
    by ih false l true e = r
    by ih false l false e =
        let above = ltb-false u.0 v.0 l in
        let ne = eqb-false u.0 v.0 e in
        (r.0, ih (omega (arith, above, ne)))

-- A merge keeps the order.
pub ascends_merge : (low : ℕ) (uids more : List Uid) → AscendsFrom low uids → Each (λ u. low ≤ u.0) more → AscendsFrom low (merge uids more)
ascends_merge low uids [] r all = r
ascends_merge low uids (u ∷ more) r all = ascends_with low u (merge uids more) all.0 (ascends_merge low uids more r all.1)

-- Every UID is at least 0.
pub each_from_zero : (uids : List Uid) → Each (λ u. 0 ≤ u.0) uids
each_from_zero [] = tt
each_from_zero (u ∷ uids) = (omega arith, each_from_zero uids)

-- A filter keeps the order.
pub ascends_filter : (low : ℕ) (test : Uid → Bool) (uids : List Uid) → AscendsFrom low uids → AscendsFrom low (filter test uids)
ascends_filter low test [] r = tt
ascends_filter low test (u ∷ uids) r = by (test u) (ascends_filter (u.0 + 1) test uids r.1)
  where
    by : (b : Bool) → AscendsFrom (u.0 + 1) (filter test uids) → AscendsFrom low (cond b (u ∷ filter test uids) (filter test uids))
    by true ih = (r.0, ih)
    by false ih = ascends_weaker low (u.0 + 1) (filter test uids) (omega (arith, r.0)) ih

-- The UIDs of ascending pods ascend.
pub uids_of-ascends : (low : ℕ) (pods : List Pod) → RisesFrom low pods → AscendsFrom low (uids_of pods)
uids_of-ascends low [] r = tt
uids_of-ascends low (pod ∷ pods) r = (r.0, uids_of-ascends (pod.uid.0 + 1) pods r.1)

-- ---- length

-- One that is not there makes the list longer by one.
pub length-with : (u : Uid) (uids : List Uid) → is_in u uids ≡ false → length (with_uid u uids) ≡ suc (length uids)
length-with u [] h = refl
length-with u (v ∷ uids) h = by (length-with u uids) (nat_lt u.0 v.0) (u.0 == v.0) refl
  where
    out : (s t : Bool) → (s || t) ≡ false → t ≡ false
    out true t e = absurd (true≢false e)
    out false t e = e

    same : (s t : Bool) → (s || t) ≡ false → s ≡ false
    same true t e = absurd (true≢false e)
    same false t e = refl

    by : (is_in u uids ≡ false → length (with_uid u uids) ≡ suc (length uids)) → (lt eq : Bool) → (u.0 == v.0) ≡ eq → length (cond lt (u ∷ v ∷ uids) (cond eq (v ∷ uids) (v ∷ with_uid u uids))) ≡ suc (suc (length uids))
    by ih true eq e = refl
    by ih false true e = absurd (eqb-false v.0 u.0 (same (same_uid v u) (is_in u uids) h) (sym (eqb-true u.0 v.0 e)))
    by ih false false e = ap suc (ih (out (same_uid v u) (is_in u uids) h))

-- None of the others is there, and none is among them twice.
abbrev pub Apart : List Uid → List Uid → Type 0
Apart uids [] = Unit {0}
Apart uids (u ∷ more) = (is_in u uids ≡ false) × (is_in u more ≡ false) × Apart uids more

-- A merge with others that are apart is as long as both.
pub length-merge : (uids more : List Uid) → Apart uids more → length (merge uids more) ≡ length uids + length more
length-merge uids [] h = omega arith
length-merge uids (u ∷ more) h =
    let new : is_in u (merge uids more) ≡ false = is_in-merge u uids more ∙ ap (λ b. b || is_in u more) h.0 ∙ h.1 in
    let rest = length-merge uids more h.2 in
    length-with u (merge uids more) new ∙ ap suc rest ∙ omega arith
