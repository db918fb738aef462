-- Where the pod of a UID stands among pods in ascending UID, and what is written, inserted and taken
-- out there.
use Rattle.std.proofs.Common.{◌≡◌, ℕ, ◌+◌, ◌<◌, ◌≤◌, suc, zero, nat_lt, ◌==◌, Bool, true, false, cond, not, List, [], ◌∷◌, ◌++◌, All, length, get_or, set, take, Option, Some, None, is_some, refl, sym, ap, subst, ◌∙◌, arith, true≢false}
use Rattle.std.proofs.Common.{lt-ltb, ltb-true, ltb-false, eqb-true, ne_eqb}
use Rattle.std.specs.List.{AllByRecursion as Each, AllWithin, insert, remove}
use Rattle.std.specs.List.Sorted.{IsNonDecreasingBy}
use Rattle.std.proofs.lemmas.Bool.{cond-true, cond-false, eqb-false}
use Rattle.std.proofs.lemmas.List.{get_or_default}
use Rattle.std.proofs.lemmas.List.Elements.{All-from_recursion}
use Rattle.jc_types.specs.declared.numbers.Uid.{Uid}
use Rattle.jc_types.specs.declared.objects.Pod.{Pod}
use Rattle.jc_types.specs.Keys.{same_uid}
use Rattle.jc_states.specs.PodLists.{put_pod, drop_pod, place_from, RisesFrom}
use Rattle.jc_states.proofs.PodListFacts.{pod_among, among_none, drop-absent}

-- ---- the place of a UID

-- It lies within the pods, or at their end.
pub place-within : (u : Uid) (pods : List Pod) → place_from u pods ≤ length pods
place-within u [] = omega arith
place-within u (pod ∷ pods) = by (nat_lt pod.uid.0 u.0) (place-within u pods)
  where
    by : (lt : Bool) → place_from u pods ≤ length pods → cond lt (suc (place_from u pods)) 0 ≤ length (pod ∷ pods)
    by true ih = omega (arith, ih)
    by false ih = omega arith

-- Each UID in front of it is below, and each from it on is not.
pub place-splits : (u : Uid) (pods : List Pod) (i : ℕ) → i ≤ length pods
    → AllWithin (λ pod. nat_lt pod.uid.0 u.0 ≡ true) pods 0 i
    → AllWithin (λ pod. nat_lt pod.uid.0 u.0 ≡ false) pods i (length pods)
    → i ≡ place_from u pods
place-splits u [] i within low high = omega (arith, within)
place-splits u (pod ∷ pods) zero within low high =
    sym (cond-false (nat_lt pod.uid.0 u.0) (suc (place_from u pods)) 0 (high 0 pod (omega arith) (omega arith)))
place-splits u (pod ∷ pods) (suc i) within low high =
    let ih = place-splits u pods i (omega (arith, within)) (λ k d a b. low (suc k) d (omega arith) (omega (arith, b))) (λ k d a b. high (suc k) d (omega (arith, a)) (omega (arith, b))) in
    ap suc ih
    ∙ sym (cond-true (nat_lt pod.uid.0 u.0) (suc (place_from u pods)) 0 (low 0 pod (omega arith) (omega arith)))

-- Each pod of a list in ascending UID has a UID from the bound on.
least : (low : ℕ) (pods : List Pod) (j : ℕ) (d : Pod) → RisesFrom low pods → j < length pods → low ≤ (get_or pods j d).uid.0
least low [] j d r h = absurd (omega (arith, h))
least low (pod ∷ pods) zero d r h = r.0
least low (pod ∷ pods) (suc j) d r h = let below = least (pod.uid.0 + 1) pods j d r.1 (omega (arith, h)) in omega (arith, below, r.0)

-- The UIDs of pods in ascending UID do not fall.
pub uids-rise : (low : ℕ) (pods : List Pod) → RisesFrom low pods → IsNonDecreasingBy (λ (pod : Pod). pod.uid.0) pods
uids-rise low [] r i j d a b = absurd (omega (arith, b))
uids-rise low (pod ∷ pods) r zero zero d a b = omega arith
uids-rise low (pod ∷ pods) r zero (suc j) d a b = let below = least (pod.uid.0 + 1) pods j d r.1 (omega (arith, b)) in omega (arith, below)
uids-rise low (pod ∷ pods) r (suc i) zero d a b = absurd (omega (arith, a))
uids-rise low (pod ∷ pods) r (suc i) (suc j) d a b = uids-rise (pod.uid.0 + 1) pods r.1 i j d (omega (arith, a)) (omega (arith, b))

-- Above the last pod the place is at the end.
pub place-last : (u : Uid) (pods : List Pod) (i : ℕ) (last : Pod) → RisesFrom 0 pods → i + 1 ≡ length pods → last ≡ get_or pods i last → last.uid.0 < u.0 → length pods ≡ place_from u pods
place-last u pods i last r end is below =
    place-splits u pods (length pods) (omega arith)
    (λ k d a b.
    let rise = uids-rise 0 pods r k i d (omega (arith, b, end)) (omega (arith, end)) in
    let same = ap (λ (pod : Pod). pod.uid.0) (is ∙ get_or_default pods i last d (omega (arith, end))) in
    lt-ltb (get_or pods k d).uid.0 u.0 (omega (arith, rise, same, below)))
    (λ k d a b. absurd (omega (arith, a, b)))

-- ---- the pod of a UID stands at its place

-- Where the place is at the end no pod has the UID.
pub among-past : (u : Uid) (pods : List Pod) → length pods ≤ place_from u pods → pod_among u pods ≡ None
among-past u [] h = refl
among-past u (q ∷ pods) h = by (nat_lt q.uid.0 u.0) refl h (among-past u pods)
  where
    by : (lt : Bool) → nat_lt q.uid.0 u.0 ≡ lt → length (q ∷ pods) ≤ cond lt (suc (place_from u pods)) 0
        → (length pods ≤ place_from u pods → pod_among u pods ≡ None) → pod_among u (q ∷ pods) ≡ None
    by true l g ih =
        let below = ltb-true q.uid.0 u.0 l in
        cond-false (same_uid q.uid u) (Some q) (pod_among u pods) (ne_eqb q.uid.0 u.0 (λ e. omega (arith, e, below))) ∙ ih (omega (arith, g))
    by false l g ih = absurd (omega (arith, g))

-- The pod that stands there is the one of the UID, or there is none.
pub among-place : (low : ℕ) (u : Uid) (pods : List Pod) (d : Pod) → RisesFrom low pods → place_from u pods < length pods
    → pod_among u pods ≡ cond (same_uid (get_or pods (place_from u pods) d).uid u) (Some (get_or pods (place_from u pods) d)) None
among-place low u [] d r h = absurd (omega (arith, h))
among-place low u (q ∷ pods) d r h = by (nat_lt q.uid.0 u.0) refl h (among-place (q.uid.0 + 1) u pods d r.1)
  where
    at : ℕ → Option Pod
    at i = cond (same_uid (get_or (q ∷ pods) i d).uid u) (Some (get_or (q ∷ pods) i d)) None

    here : (same : Bool) → same_uid q.uid u ≡ same → u.0 ≤ q.uid.0 → cond same (Some q) (pod_among u pods) ≡ cond same (Some q) None
    here true s le = refl
    here false s le = among_none (q.uid.0 + 1) u pods (let ne = eqb-false q.uid.0 u.0 s in omega (arith, le)) r.1

    by : (lt : Bool) → nat_lt q.uid.0 u.0 ≡ lt → cond lt (suc (place_from u pods)) 0 < length (q ∷ pods)
        → (place_from u pods < length pods
        → pod_among u pods ≡ cond (same_uid (get_or pods (place_from u pods) d).uid u) (Some (get_or pods (place_from u pods) d)) None)
        → pod_among u (q ∷ pods)
        ≡ cond (same_uid (get_or (q ∷ pods) (cond lt (suc (place_from u pods)) 0) d).uid u) (Some (get_or (q ∷ pods) (cond lt (suc (place_from u pods)) 0) d)) None
    by true l g ih =
        let below = ltb-true q.uid.0 u.0 l in
        cond-false (same_uid q.uid u) (Some q) (pod_among u pods) (ne_eqb q.uid.0 u.0 (λ e. omega (arith, e, below))) ∙ ih (omega (arith, g))
    by false l g ih = here (same_uid q.uid u) refl (ltb-false q.uid.0 u.0 l)

-- A pod of the UID stands within the pods.
pub place-there : (u : Uid) (pods : List Pod) (i : ℕ) → i ≡ place_from u pods → is_some (pod_among u pods) ≡ true → i < length pods
place-there u pods i at h = by (nat_lt (place_from u pods) (length pods)) refl
  where
    by : (lt : Bool) → nat_lt (place_from u pods) (length pods) ≡ lt → i < length pods
    by true l = let within = ltb-true (place_from u pods) (length pods) l in omega (arith, within, at)
    by false l = absurd (true≢false (sym h ∙ ap is_some (among-past u pods (ltb-false (place_from u pods) (length pods) l))))

-- The pod that is read at the place is the one of the UID, or there is none.
pub among-read : (u : Uid) (pods : List Pod) (i : ℕ) (pod : Pod) → RisesFrom 0 pods → i ≡ place_from u pods → i < length pods → pod ≡ get_or pods i pod
    → pod_among u pods ≡ cond (same_uid pod.uid u) (Some pod) None
among-read u pods i pod r at within is =
    let here : pod ≡ get_or pods (place_from u pods) pod = is ∙ ap (λ n. get_or pods n pod) at in
    let P : Pod → Type 0 = λ other. pod_among u pods ≡ cond (same_uid other.uid u) (Some other) None in
    subst P (sym here) (among-place 0 u pods pod r (omega (arith, at, within)))

-- It is the one of the UID where there is one.
pub found-read : (u : Uid) (pods : List Pod) (i : ℕ) (pod : Pod) → RisesFrom 0 pods → i ≡ place_from u pods → is_some (pod_among u pods) ≡ true → pod ≡ get_or pods i pod
    → pod_among u pods ≡ Some pod
found-read u pods i pod r at h is =
    let read = among-read u pods i pod r at (place-there u pods i at h) is in
    read ∙ by (same_uid pod.uid u) (sym h ∙ ap is_some read)
  where
    by : (s : Bool) → true ≡ is_some (cond s (Some pod) None) → cond s (Some pod) None ≡ Some pod
    by true e = refl
    by false e = absurd (true≢false e)

-- Whether there is one shows in the UID of that pod.
pub there-read : (u : Uid) (pods : List Pod) (i : ℕ) (pod : Pod) → RisesFrom 0 pods → i ≡ place_from u pods → i < length pods → pod ≡ get_or pods i pod
    → same_uid pod.uid u ≡ is_some (pod_among u pods)
there-read u pods i pod r at within is = by (same_uid pod.uid u) ∙ ap is_some (sym (among-read u pods i pod r at within is))
  where
    by : (s : Bool) → s ≡ is_some (cond s (Some pod) None)
    by true = refl
    by false = refl

-- There is none where the place is at the end.
pub there-past : (u : Uid) (pods : List Pod) (i : ℕ) → i ≡ place_from u pods → length pods ≤ i → nat_lt i (length pods) ≡ is_some (pod_among u pods)
there-past u pods i at past = by (nat_lt i (length pods)) refl
  where
    by : (lt : Bool) → nat_lt i (length pods) ≡ lt → lt ≡ is_some (pod_among u pods)
    by true l = let within = ltb-true i (length pods) l in absurd (omega (arith, within, past))
    by false l = sym (ap is_some (among-past u pods (omega (arith, past, at))))

-- Where nothing is found there is none.
pub none_from_false : (found : Option Pod) → is_some found ≡ false → found ≡ None
none_from_false None h = refl
none_from_false (Some pod) h = absurd (true≢false h)

-- ---- what is written there

-- A pod of a new UID that is inserted at its place is put.
pub insert-place : (pod : Pod) (pods : List Pod) → pod_among pod.uid pods ≡ None → insert pods (place_from pod.uid pods) pod ≡ put_pod pod pods
insert-place pod [] h = refl
insert-place pod (q ∷ pods) h =
    by (nat_lt q.uid.0 pod.uid.0) refl (nat_lt pod.uid.0 q.uid.0) refl (pod.uid.0 == q.uid.0) refl (insert-place pod pods)
  where
    other : (same : Bool) → cond same (Some q) (pod_among pod.uid pods) ≡ None → pod_among pod.uid pods ≡ None
    other true e = absurd (true≢false (ap is_some e))
    other false e = e

    by : (gt : Bool) → nat_lt q.uid.0 pod.uid.0 ≡ gt → (lt : Bool) → nat_lt pod.uid.0 q.uid.0 ≡ lt → (eq : Bool) → (pod.uid.0 == q.uid.0) ≡ eq
        → (pod_among pod.uid pods ≡ None → insert pods (place_from pod.uid pods) pod ≡ put_pod pod pods)
        → insert (q ∷ pods) (cond gt (suc (place_from pod.uid pods)) 0) pod ≡ cond lt (pod ∷ q ∷ pods) (cond eq (pod ∷ pods) (q ∷ put_pod pod pods))
    by true g true l eq e ih = let above = ltb-true q.uid.0 pod.uid.0 g in let below = ltb-true pod.uid.0 q.uid.0 l in absurd (omega (arith, above, below))
    by true g false l true e ih = let above = ltb-true q.uid.0 pod.uid.0 g in let is = eqb-true pod.uid.0 q.uid.0 e in absurd (omega (arith, above, is))
    by true g false l false e ih = ap (λ rest. q ∷ rest) (ih (other (same_uid q.uid pod.uid) h))
    by false g true l eq e ih = refl
    by false g false l eq e ih =
        let low = ltb-false q.uid.0 pod.uid.0 g in
        let high = ltb-false pod.uid.0 q.uid.0 l in
        let is : q.uid.0 ≡ pod.uid.0 = omega (arith, low, high) in
        absurd (true≢false (ap is_some (sym (cond-true (same_uid q.uid pod.uid) (Some q) (pod_among pod.uid pods) (same is)) ∙ h)))
      where
        same : q.uid.0 ≡ pod.uid.0 → same_uid q.uid pod.uid ≡ true
        same is = is_same (same_uid q.uid pod.uid) refl
          where
            is_same : (b : Bool) → same_uid q.uid pod.uid ≡ b → same_uid q.uid pod.uid ≡ true
            is_same true s = s
            is_same false s = absurd (eqb-false q.uid.0 pod.uid.0 s is)

-- A pod that is written at its place, where the one of its UID stands, is put.
pub set-place : (low : ℕ) (pod : Pod) (pods : List Pod) → RisesFrom low pods → is_some (pod_among pod.uid pods) ≡ true
    → set pods (place_from pod.uid pods) pod ≡ put_pod pod pods
set-place low pod [] r h = absurd (true≢false (sym h))
set-place low pod (q ∷ pods) r h =
    by (nat_lt q.uid.0 pod.uid.0) refl (nat_lt pod.uid.0 q.uid.0) refl (pod.uid.0 == q.uid.0) refl (same_uid q.uid pod.uid) refl h (set-place (q.uid.0 + 1) pod pods r.1)
  where
    by : (gt : Bool) → nat_lt q.uid.0 pod.uid.0 ≡ gt → (lt : Bool) → nat_lt pod.uid.0 q.uid.0 ≡ lt → (eq : Bool) → (pod.uid.0 == q.uid.0) ≡ eq
        → (s : Bool) → same_uid q.uid pod.uid ≡ s → is_some (cond s (Some q) (pod_among pod.uid pods)) ≡ true
        → (is_some (pod_among pod.uid pods) ≡ true → set pods (place_from pod.uid pods) pod ≡ put_pod pod pods)
        → set (q ∷ pods) (cond gt (suc (place_from pod.uid pods)) 0) pod ≡ cond lt (pod ∷ q ∷ pods) (cond eq (pod ∷ pods) (q ∷ put_pod pod pods))
    by true g lt l eq e true s f ih = let above = ltb-true q.uid.0 pod.uid.0 g in let is = eqb-true q.uid.0 pod.uid.0 s in absurd (omega (arith, above, is))
    by true g true l eq e false s f ih = let above = ltb-true q.uid.0 pod.uid.0 g in let below = ltb-true pod.uid.0 q.uid.0 l in absurd (omega (arith, above, below))
    by true g false l true e false s f ih = let above = ltb-true q.uid.0 pod.uid.0 g in let is = eqb-true pod.uid.0 q.uid.0 e in absurd (omega (arith, above, is))
    by true g false l false e false s f ih = ap (λ rest. q ∷ rest) (ih f)
    by false g true l eq e true s f ih = let below = ltb-true pod.uid.0 q.uid.0 l in let is = eqb-true q.uid.0 pod.uid.0 s in absurd (omega (arith, below, is))
    by false g true l eq e false s f ih =
        let below = ltb-true pod.uid.0 q.uid.0 l in
        absurd (true≢false (sym f ∙ ap is_some (among_none (q.uid.0 + 1) pod.uid pods (omega (arith, below)) r.1)))
    by false g false l true e s t f ih = refl
    by false g false l false e s t f ih =
        let low = ltb-false q.uid.0 pod.uid.0 g in
        let high = ltb-false pod.uid.0 q.uid.0 l in
        absurd (eqb-false pod.uid.0 q.uid.0 e (omega (arith, low, high)))

-- Without the pod that stands at the place of its UID the pod of the UID is dropped.
pub remove-place : (low : ℕ) (u : Uid) (pods : List Pod) → RisesFrom low pods → is_some (pod_among u pods) ≡ true
    → remove pods (place_from u pods) ≡ drop_pod u pods
remove-place low u [] r h = absurd (true≢false (sym h))
remove-place low u (q ∷ pods) r h = by (nat_lt q.uid.0 u.0) refl (same_uid q.uid u) refl h (remove-place (q.uid.0 + 1) u pods r.1)
  where
    by : (lt : Bool) → nat_lt q.uid.0 u.0 ≡ lt → (s : Bool) → same_uid q.uid u ≡ s → is_some (cond s (Some q) (pod_among u pods)) ≡ true
        → (is_some (pod_among u pods) ≡ true → remove pods (place_from u pods) ≡ drop_pod u pods)
        → remove (q ∷ pods) (cond lt (suc (place_from u pods)) 0) ≡ cond (not s) (q ∷ drop_pod u pods) (drop_pod u pods)
    by true l true s f ih = let below = ltb-true q.uid.0 u.0 l in let is = eqb-true q.uid.0 u.0 s in absurd (omega (arith, below, is))
    by true l false s f ih = ap (λ rest. q ∷ rest) (ih f)
    by false l true s f ih =
        let is = eqb-true q.uid.0 u.0 s in
        sym (drop-absent u pods (among_none (q.uid.0 + 1) u pods (omega (arith, is)) r.1))
    by false l false s f ih =
        let from = ltb-false q.uid.0 u.0 l in
        let ne = eqb-false q.uid.0 u.0 s in
        absurd (true≢false (sym f ∙ ap is_some (among_none (q.uid.0 + 1) u pods (omega (arith, from, ne)) r.1)))

-- A pod above all others is put behind them.
pub put-above : (pod : Pod) (pods : List Pod) → Each (λ (other : Pod). other.uid.0 < pod.uid.0) pods → put_pod pod pods ≡ pods ++ pod ∷ []
put-above pod [] h = refl
put-above pod (q ∷ pods) h =
    by (nat_lt pod.uid.0 q.uid.0) refl (pod.uid.0 == q.uid.0) refl (put-above pod pods h.1)
  where
    by : (lt : Bool) → nat_lt pod.uid.0 q.uid.0 ≡ lt → (eq : Bool) → (pod.uid.0 == q.uid.0) ≡ eq → put_pod pod pods ≡ pods ++ pod ∷ []
        → cond lt (pod ∷ q ∷ pods) (cond eq (pod ∷ pods) (q ∷ put_pod pod pods)) ≡ q ∷ (pods ++ pod ∷ [])
    by true l eq e ih = let below = ltb-true pod.uid.0 q.uid.0 l in absurd (omega (arith, below, h.0))
    by false l true e ih = let is = eqb-true pod.uid.0 q.uid.0 e in absurd (omega (arith, is, h.0))
    by false l false e ih = ap (λ rest. q ∷ rest) ih

-- Each pod in front of another has a UID below that one's.
pub front-below : (low : ℕ) (pods : List Pod) (i : ℕ) (pod : Pod) → RisesFrom low pods → i < length pods → pod ≡ get_or pods i pod → Each (λ (other : Pod). other.uid.0 < pod.uid.0) (take i pods)
front-below low [] i pod r h is = absurd (omega (arith, h))
front-below low (q ∷ pods) zero pod r h is = tt
front-below low (q ∷ pods) (suc i) pod r h is =
    let far = subst (λ (other : Pod). q.uid.0 + 1 ≤ other.uid.0) (sym is) (least (q.uid.0 + 1) pods i pod r.1 (omega (arith, h))) in
    (omega (arith, far), front-below (q.uid.0 + 1) pods i pod r.1 (omega (arith, h)) is)

-- The copies of those in front of a pod have UIDs below that of its own copy.
pub copied-below : (seen items pods : List Pod) (i : ℕ) (item copied : Pod) → RisesFrom 0 seen → items ≡ seen → i < length items → item ≡ get_or items i item → copied ≡ item → pods ≡ take i items
    → All (λ (other : Pod). other.uid.0 < copied.uid.0) pods
copied-below seen items pods i item copied r shown h is copy are =
    let front = front-below 0 items i item (subst (RisesFrom 0) (sym shown) r) h is in
    subst (λ all. All (λ (other : Pod). other.uid.0 < copied.uid.0) all) (sym are)
    (All-from_recursion (λ (other : Pod). other.uid.0 < copied.uid.0) (take i items)
    (subst (λ (pod : Pod). Each (λ (other : Pod). other.uid.0 < pod.uid.0) (take i items)) (sym copy) front))

-- ---- pods that are read through a slice

-- The place was found in a slice of the pods.
module _ (u : Uid) (pods slice : List Pod) (i : ℕ) (shown : slice ≡ pods) (at : i ≡ place_from u slice) where
  -- It is the place among the pods.
  pub place-shown : i ≡ place_from u pods
  place-shown = at ∙ ap (place_from u) shown

  -- The slice has a pod of the UID where the pods do.
  pub none-shown : (there : Bool) → there ≡ is_some (pod_among u slice) → there ≡ false → pod_among u pods ≡ None
  none-shown there is not_there = ap (pod_among u) (sym shown) ∙ none_from_false (pod_among u slice) (sym is ∙ not_there)

  module _ (there : Bool) (is : there ≡ is_some (pod_among u slice)) (yes : there ≡ true) where
    pub there-shown : is_some (pod_among u pods) ≡ true
    there-shown = ap (λ all. is_some (pod_among u all)) (sym shown) ∙ sym is ∙ yes

    -- The place lies within the pods.
    pub within-shown : i < length pods
    within-shown = place-there u pods i place-shown there-shown

    -- The pod that is read there is the one of the UID.
    pub found-shown : (pod : Pod) → RisesFrom 0 pods → pod ≡ get_or pods i pod → pod_among u pods ≡ Some pod
    found-shown pod r read = found-read u pods i pod r place-shown there-shown read

    -- Without it the pod of the UID is dropped.
    pub removed-shown : (new : List Pod) → RisesFrom 0 pods → new ≡ remove pods i → new ≡ drop_pod u pods
    removed-shown new r taken = taken ∙ ap (remove pods) place-shown ∙ remove-place 0 u pods r there-shown

-- ---- pods that are written at their place

-- The place was found among the pods that the caller sees.
module _ (pod : Pod) (pods seen : List Pod) (i : ℕ) (is : pods ≡ seen) (at : i ≡ place_from pod.uid seen) where
  place-seen : i ≡ place_from pod.uid pods
  place-seen = at ∙ ap (place_from pod.uid) (sym is)

  -- A place to insert at lies within the pods, or at their end.
  pub place-fits : i ≤ length pods
  place-fits = let within = place-within pod.uid pods in omega (arith, within, place-seen)

  -- None of the UID is among the pods where the caller sees none.
  pub absent-seen : pod_among pod.uid seen ≡ None → pod_among pod.uid pods ≡ None
  absent-seen none = ap (pod_among pod.uid) is ∙ none

  -- Once the pod is inserted.
  pub inserted-seen : (old new : List Pod) → pod_among pod.uid seen ≡ None → old ≡ pods → new ≡ insert old i pod → new ≡ put_pod pod pods
  inserted-seen old new none same at_place =
      at_place ∙ ap (λ all. insert all i pod) same ∙ ap (λ n. insert pods n pod) place-seen ∙ insert-place pod pods (absent-seen none)

  module _ (there : is_some (pod_among pod.uid seen) ≡ true) where
    there-seen : is_some (pod_among pod.uid pods) ≡ true
    there-seen = ap (λ all. is_some (pod_among pod.uid all)) is ∙ there

    -- The place lies within the pods.
    pub within-seen : i < length pods
    within-seen = place-there pod.uid pods i place-seen there-seen

    -- The pod that is read there is the one of the UID.
    pub found-seen : (old : Pod) → RisesFrom 0 pods → old ≡ get_or pods i old → pod_among pod.uid pods ≡ Some old
    found-seen old r read = found-read pod.uid pods i old r place-seen there-seen read

    -- Once the pod is written over it.
    pub replaced-seen : RisesFrom 0 pods → set pods i pod ≡ put_pod pod pods
    replaced-seen r = ap (λ n. set pods n pod) place-seen ∙ set-place 0 pod pods r there-seen
