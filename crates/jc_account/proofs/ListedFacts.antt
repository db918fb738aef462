-- Small facts on lists of UIDs and of pods that the laws share.
use Rattle.std.proofs.Common.{◌≡◌, ℕ, ◌+◌, ◌<◌, ◌≤◌, ◌==◌, Bool, true, false, ◌&&◌, ◌||◌, List, [], ◌∷◌, filter, Option, Some, None, refl, ap, sym, ◌∙◌, arith, true≢false, ne_eqb}
use Rattle.std.specs.List.{AllByRecursion as Each, list_any, cons_option}
use Rattle.std.specs.Option.{option_map_or}
use Rattle.std.proofs.lemmas.Bool.{and_from, eqb-true, or_left, or_right}
use Rattle.jc_ranges.specs.Sets.{has}
use Rattle.jc_types.specs.declared.numbers.Uid.{Uid}
use Rattle.jc_types.specs.declared.objects.Pod.{Pod}
use Rattle.jc_types.specs.Keys.{same_uid}
use Rattle.jc_states.specs.PodLists.{RisesFrom}
use Rattle.jc_states.specs.UidLists.{is_in, uids_of, AscendsFrom}
use Rattle.jc_types.proofs.KeyFacts.{same_uid-itself, same_uid-eq}
use Rattle.jc_types.proofs.ListFacts.{any_filter, any_map}
use Rattle.jc_states.proofs.UidListFacts.{Apart}
use Rattle.jc_states.proofs.UidPlaceFacts.{absent-below}
use Rattle.jc_states.specs.Indexes.{has_index}
use Rattle.jc_account.specs.Modes.{indexes_of}

-- What holds of every value holds of each.
pub each : {X : Type 0} (P : X → Type 0) → ((x : X) → P x) → (xs : List X) → Each P xs
each P all [] = tt
each P all (x ∷ xs) = (all x, each P all xs)

-- What holds of every UID in a list holds of each.
pub each_in : (P : Uid → Type 0) (uids : List Uid) → ((u : Uid) → is_in u uids ≡ true → P u) → Each P uids
each_in P [] all = tt
each_in P (u ∷ uids) all =
    (all u (or_left (same_uid u u) (is_in u uids) (same_uid-itself u)), each_in P uids (λ v h. all v (or_right (same_uid u v) (is_in v uids) h)))

-- A UID is among those of the pods that pass exactly where a pod that passes has it.
pub among_passing : (u : Uid) (test : Pod → Bool) (pods : List Pod) → is_in u (uids_of (filter test pods)) ≡ list_any (λ pod. test pod && same_uid pod.uid u) pods
among_passing u test pods =
    any_map (λ (pod : Pod). pod.uid) (λ v. same_uid v u) (filter test pods) ∙ any_filter (λ (pod : Pod). same_uid pod.uid u) test pods

-- The same, where the test also looks at the UID.
pub among_apart : (u : Uid) (test : Pod → Bool) (other : Uid → Bool) (pods : List Pod) → list_any (λ pod. (test pod && other pod.uid) && same_uid pod.uid u) pods ≡ (other u && list_any (λ pod. test pod && same_uid pod.uid u) pods)
among_apart u test other [] = none (other u)
  where
    none : (b : Bool) → false ≡ (b && false)
    none true = refl
    none false = refl
among_apart u test other (pod ∷ pods) = by (test pod) (same_uid pod.uid u) refl (among_apart u test other pods)
  where
    one : (o p : Bool) (some more : Bool) → o ≡ p → more ≡ (p && some) → ((o && true) || more) ≡ (p && (true || some))
    one true true some more e h = refl
    one false false some more e h = h
    one true false some more e h = absurd (true≢false e)
    one false true some more e h = absurd (true≢false (sym e))

    by : (t s : Bool) → same_uid pod.uid u ≡ s
        → list_any (λ p. (test p && other p.uid) && same_uid p.uid u) pods ≡ (other u && list_any (λ p. test p && same_uid p.uid u) pods)
        → (((t && other pod.uid) && s) || list_any (λ p. (test p && other p.uid) && same_uid p.uid u) pods) ≡ (other u && ((t && s) || list_any (λ p. test p && same_uid p.uid u) pods))
    by true true e h = one (other pod.uid) (other u) (list_any (λ p. test p && same_uid p.uid u) pods) (list_any (λ p. (test p && other p.uid) && same_uid p.uid u) pods) (ap other (same_uid-eq pod.uid u e)) h
    by true false e h = ap (λ b. b || list_any (λ p. (test p && other p.uid) && same_uid p.uid u) pods) (no (other pod.uid)) ∙ h
      where
        no : (b : Bool) → (b && false) ≡ false
        no true = refl
        no false = refl
    by false s e h = h

-- Ascending UIDs of which none is in a list are apart from it.
pub apart_from : (low : ℕ) (uids more : List Uid) → AscendsFrom low more → Each (λ u. is_in u uids ≡ false) more → Apart uids more
apart_from low uids [] r h = tt
apart_from low uids (u ∷ more) r h =
    (h.0, absent-below (u.0 + 1) u more (omega arith) r.1, apart_from (u.0 + 1) uids more r.1 h.1)

-- An index is among those of the pods exactly where a pod has it.
pub has-indexes : (n : ℕ) (pods : List Pod) → has n (indexes_of pods) ≡ list_any (has_index n) pods
has-indexes n [] = refl
has-indexes n (pod ∷ pods) = by pod.index (has-indexes n pods)
  where
    by : (index : Option ℕ) → has n (indexes_of pods) ≡ list_any (has_index n) pods → has n (cons_option index (indexes_of pods)) ≡ (option_map_or (λ i. i == n) index false || list_any (has_index n) pods)
    by None h = h
    by (Some i) h = ap (λ b. (i == n) || b) h

-- Where none passes none is found.
pub none_passes : {X : Type 0} (test : X → Bool) → ((x : X) → test x ≡ false) → (xs : List X) → list_any test xs ≡ false
none_passes test none [] = refl
none_passes test none (x ∷ xs) = ap (λ b. b || list_any test xs) (none x) ∙ none_passes test none xs

-- No pod of a UID below all of rising ones is among them.
pub none_below : (low : ℕ) (u : Uid) (test : Pod → Bool) (pods : List Pod) → u.0 < low → RisesFrom low pods → list_any (λ pod. test pod && same_uid pod.uid u) pods ≡ false
none_below low u test [] h r = refl
none_below low u test (pod ∷ pods) h r =
    let first : low ≤ pod.uid.0 = r.0 in
    ap (λ b. (test pod && b) || list_any (λ p. test p && same_uid p.uid u) pods) (ne_eqb pod.uid.0 u.0 (λ e. omega (arith, e, h, first)))
    ∙ ap (λ b. b || list_any (λ p. test p && same_uid p.uid u) pods) (no (test pod))
    ∙ none_below (pod.uid.0 + 1) u test pods (omega (arith, h, first)) r.1
  where
    no : (b : Bool) → (b && false) ≡ false
    no true = refl
    no false = refl

-- Of rising pods one alone has a UID, so what pods of this UID pass one pod passes.
pub one_passes_both : (low : ℕ) (u : Uid) (a b : Pod → Bool) (pods : List Pod) → RisesFrom low pods
    → list_any (λ pod. a pod && same_uid pod.uid u) pods ≡ true → list_any (λ pod. b pod && same_uid pod.uid u) pods ≡ true
    → list_any (λ pod. (a pod && b pod) && same_uid pod.uid u) pods ≡ true
one_passes_both low u a b [] r g h = g
one_passes_both low u a b (pod ∷ pods) r g h = by (one_passes_both (pod.uid.0 + 1) u a b pods r.1) (same_uid pod.uid u) refl g h
  where
    here : (p : Bool) (rest : Bool) → rest ≡ false → ((p && true) || rest) ≡ true → p ≡ true
    here true rest n e = refl
    here false rest n e = absurd (true≢false (sym e ∙ n))

    behind : (p : Bool) (rest : Bool) → ((p && false) || rest) ≡ true → rest ≡ true
    behind true rest e = e
    behind false rest e = e

    ahead : (p : Bool) (rest : Bool) → rest ≡ true → ((p && false) || rest) ≡ true
    ahead true rest e = e
    ahead false rest e = e

    by : (list_any (λ p. a p && same_uid p.uid u) pods ≡ true → list_any (λ p. b p && same_uid p.uid u) pods ≡ true → list_any (λ p. (a p && b p) && same_uid p.uid u) pods ≡ true)
        → (s : Bool) → same_uid pod.uid u ≡ s
        → ((a pod && s) || list_any (λ p. a p && same_uid p.uid u) pods) ≡ true
        → ((b pod && s) || list_any (λ p. b p && same_uid p.uid u) pods) ≡ true
        → (((a pod && b pod) && s) || list_any (λ p. (a p && b p) && same_uid p.uid u) pods) ≡ true
    by ih true e g h =
        let is = eqb-true pod.uid.0 u.0 e in
        let below : u.0 < pod.uid.0 + 1 = omega (arith, is) in
        let first = here (a pod) (list_any (λ p. a p && same_uid p.uid u) pods) (none_below (pod.uid.0 + 1) u a pods below r.1) g in
        let second = here (b pod) (list_any (λ p. b p && same_uid p.uid u) pods) (none_below (pod.uid.0 + 1) u b pods below r.1) h in
        or_left ((a pod && b pod) && true) (list_any (λ p. (a p && b p) && same_uid p.uid u) pods)
        (and_from (a pod && b pod) true (and_from (a pod) (b pod) first second) refl)
    by ih false e g h =
        ahead (a pod && b pod) (list_any (λ p. (a p && b p) && same_uid p.uid u) pods)
        (ih
        (behind (a pod) (list_any (λ p. a p && same_uid p.uid u) pods) g)
        (behind (b pod) (list_any (λ p. b p && same_uid p.uid u) pods) h))
