-- Where a UID stands among UIDs in ascending order.
use Rattle.std.proofs.Common.{◌≡◌, ℕ, ◌+◌, ◌<◌, ◌≤◌, suc, zero, nat_lt, ◌==◌, ◌||◌, Bool, true, false, cond, not, List, [], ◌∷◌, length, get_or, refl, sym, ap, ◌∙◌, arith, true≢false, lt-ltb, ltb-true, ltb-false, ne_eqb}
use Rattle.std.specs.List.{AllWithin, prefix_len}
use Rattle.std.specs.List.Sorted.{IsNonDecreasingBy}
use Rattle.std.proofs.lemmas.Bool.{cond-true, cond-false}
use Rattle.jc_types.specs.declared.numbers.Uid.{Uid}
use Rattle.jc_types.specs.Keys.{same_uid}
use Rattle.jc_states.specs.UidLists.{is_in, with_uid, without_uid, AscendsFrom}

-- The place of the first UID that is not below.
abbrev pub place_in : Uid → List Uid → ℕ
place_in u uids = prefix_len (λ (v : Uid). nat_lt v.0 u.0) uids

-- ---- the place of a UID

-- Each UID in front of it is below, and each from it on is not.
pub place_in-splits : (u : Uid) (uids : List Uid) (i : ℕ) → i ≤ length uids
    → AllWithin (λ (v : Uid). nat_lt v.0 u.0 ≡ true) uids 0 i
    → AllWithin (λ (v : Uid). nat_lt v.0 u.0 ≡ false) uids i (length uids)
    → i ≡ place_in u uids
place_in-splits u [] i within low high = omega (arith, within)
place_in-splits u (v ∷ uids) zero within low high =
    sym (cond-false (nat_lt v.0 u.0) (1 + place_in u uids) 0 (high 0 v (omega arith) (omega arith)))
place_in-splits u (v ∷ uids) (suc i) within low high =
    let ih = place_in-splits u uids i (omega (arith, within)) (λ k d a b. low (suc k) d (omega arith) (omega (arith, b))) (λ k d a b. high (suc k) d (omega (arith, a)) (omega (arith, b))) in
    omega (arith, ih, cond-true (nat_lt v.0 u.0) (1 + place_in u uids) 0 (low 0 v (omega arith) (omega arith)))

-- Each of ascending UIDs is at least the bound.
least : (low : ℕ) (uids : List Uid) (j : ℕ) (d : Uid) → AscendsFrom low uids → j < length uids → low ≤ (get_or uids j d).0
least low [] j d r h = absurd (omega (arith, h))
least low (v ∷ uids) zero d r h = r.0
least low (v ∷ uids) (suc j) d r h = let below = least (v.0 + 1) uids j d r.1 (omega (arith, h)) in omega (arith, below, r.0)

-- Ascending UIDs do not fall.
pub uids-ascend : (low : ℕ) (uids : List Uid) → AscendsFrom low uids → IsNonDecreasingBy (λ (v : Uid). v.0) uids
uids-ascend low [] r i j d a b = absurd (omega (arith, b))
uids-ascend low (v ∷ uids) r zero zero d a b = omega arith
uids-ascend low (v ∷ uids) r zero (suc j) d a b = let below = least (v.0 + 1) uids j d r.1 (omega (arith, b)) in omega (arith, below)
uids-ascend low (v ∷ uids) r (suc i) zero d a b = absurd (omega (arith, a))
uids-ascend low (v ∷ uids) r (suc i) (suc j) d a b = uids-ascend (v.0 + 1) uids r.1 i j d (omega (arith, a)) (omega (arith, b))

-- ---- what is below all

-- A UID below the bound is not there.
pub absent-below : (low : ℕ) (u : Uid) (uids : List Uid) → u.0 < low → AscendsFrom low uids → is_in u uids ≡ false
absent-below low u [] h r = refl
absent-below low u (v ∷ uids) h r =
    ap (λ b. b || is_in u uids) (ne_eqb v.0 u.0 (λ e. omega (arith, e, h, r.0))) ∙ absent-below (v.0 + 1) u uids (omega (arith, h, r.0)) r.1

-- It is put in front of the others.
pub with-below : (low : ℕ) (u : Uid) (uids : List Uid) → u.0 < low → AscendsFrom low uids → with_uid u uids ≡ u ∷ uids
with-below low u [] h r = refl
with-below low u (v ∷ uids) h r =
    cond-true (nat_lt u.0 v.0) (u ∷ v ∷ uids) (cond (u.0 == v.0) (v ∷ uids) (v ∷ with_uid u uids)) (lt-ltb u.0 v.0 (omega (arith, h, r.0)))

-- Without one that is not there the list is as it was.
pub without-absent : (u : Uid) (uids : List Uid) → is_in u uids ≡ false → without_uid u uids ≡ uids
without-absent u [] h = refl
without-absent u (v ∷ uids) h = by (same_uid v u) h (without-absent u uids)
  where
    by : (s : Bool) → (s || is_in u uids) ≡ false → (is_in u uids ≡ false → without_uid u uids ≡ uids)
        → cond (not s) (v ∷ without_uid u uids) (without_uid u uids) ≡ v ∷ uids
    by true g ih = absurd (true≢false g)
    by false g ih = ap (λ rest. v ∷ rest) (ih g)

-- ---- what stands at the place

-- Where the place is at the end the UID is not there.
pub absent-past : (u : Uid) (uids : List Uid) → length uids ≤ place_in u uids → is_in u uids ≡ false
absent-past u [] h = refl
absent-past u (v ∷ uids) h = by (nat_lt v.0 u.0) refl h (absent-past u uids)
  where
    by : (lt : Bool) → nat_lt v.0 u.0 ≡ lt → length (v ∷ uids) ≤ cond lt (1 + place_in u uids) 0
        → (length uids ≤ place_in u uids → is_in u uids ≡ false) → is_in u (v ∷ uids) ≡ false
    by true l g ih =
        let below = ltb-true v.0 u.0 l in
        ap (λ b. b || is_in u uids) (ne_eqb v.0 u.0 (λ e. omega (arith, e, below))) ∙ ih (omega (arith, g))
    by false l g ih = absurd (omega (arith, g))

-- What stands there is the UID, or it is not there.
pub in-place : (low : ℕ) (u : Uid) (uids : List Uid) (d : Uid) → AscendsFrom low uids → place_in u uids < length uids
    → is_in u uids ≡ same_uid (get_or uids (place_in u uids) d) u
in-place low u [] d r h = absurd (omega (arith, h))
in-place low u (v ∷ uids) d r h = by (nat_lt v.0 u.0) refl h (in-place (v.0 + 1) u uids d r.1)
  where
    here : (s : Bool) → same_uid v u ≡ s → u.0 ≤ v.0 → (s || is_in u uids) ≡ s
    here true s le = refl
    here false s le = absent-below (v.0 + 1) u uids (omega (arith, le)) r.1

    by : (lt : Bool) → nat_lt v.0 u.0 ≡ lt → cond lt (1 + place_in u uids) 0 < length (v ∷ uids)
        → (place_in u uids < length uids → is_in u uids ≡ same_uid (get_or uids (place_in u uids) d) u)
        → is_in u (v ∷ uids) ≡ same_uid (get_or (v ∷ uids) (cond lt (1 + place_in u uids) 0) d) u
    by true l g ih =
        let below = ltb-true v.0 u.0 l in
        ap (λ b. b || is_in u uids) (ne_eqb v.0 u.0 (λ e. omega (arith, e, below))) ∙ ih (omega (arith, g))
        ∙ ap (λ i. same_uid (get_or (v ∷ uids) i d) u) (next (place_in u uids))
      where
        next : (n : ℕ) → suc n ≡ 1 + n
        next n = omega arith
    by false l g ih = here (same_uid v u) refl (ltb-false v.0 u.0 l)

-- Whether it is there shows in the UID that is read there.
pub in-read : (u : Uid) (uids : List Uid) (i : ℕ) (d : Uid) → AscendsFrom 0 uids → i ≡ place_in u uids → i < length uids
    → same_uid (get_or uids i d) u ≡ is_in u uids
in-read u uids i d r at within = ap (λ n. same_uid (get_or uids n d) u) at ∙ sym (in-place 0 u uids d r (omega (arith, at, within)))

-- It is not there where the place is at the end.
pub in-past : (u : Uid) (uids : List Uid) (i : ℕ) → i ≡ place_in u uids → length uids ≤ i → nat_lt i (length uids) ≡ is_in u uids
in-past u uids i at past = by (nat_lt i (length uids)) refl
  where
    by : (lt : Bool) → nat_lt i (length uids) ≡ lt → lt ≡ is_in u uids
    by true l = let within = ltb-true i (length uids) l in absurd (omega (arith, within, past))
    by false l = sym (absent-past u uids (omega (arith, past, at)))
