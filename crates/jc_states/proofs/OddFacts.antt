-- What a put and a drop do to the UIDs of the pods that pass a test, and to those of the pods at odds.
use Rattle.std.proofs.Common.{◌≡◌, ℕ, ◌+◌, nat_lt, nat_cmp, is_eq, Less, Equal, Greater, ◌==◌, Bool, true, false, cond, not, List, [], ◌∷◌, filter, map, refl, sym, ap, subst, ◌∙◌, arith, ltb-true, eqb-true, eq-eqb, ne_eqb}
use Rattle.std.specs.BTreeMap.{is_at}
use Rattle.std.specs.BTreeSet.{insert_key}
use Rattle.std.specs.Ordering.{match_ordering}
use Rattle.std.specs.Set.{remove_key}
use Rattle.std.proofs.lemmas.Bool.{cond-true, cond-false, eqb-false}
use Rattle.jc_types.specs.declared.numbers.Uid.{Uid}
use Rattle.jc_types.specs.declared.objects.Pod.{Pod}
use Rattle.jc_types.specs.Keys.{same_uid}
use Rattle.jc_types.proofs.KeyFacts.{same_uid-eq, same_uid-either_way}
use Rattle.jc_states.specs.Noted.{is_at_odds, odd_numbers, with_note}
use Rattle.jc_states.specs.PodLists.{put_pod, drop_pod, RisesFrom}
use Rattle.jc_states.specs.UidLists.{Ascends, AscendsFrom, uids_of, with_uid, without_uid}
use Rattle.jc_states.proofs.PodListFacts.{rises_filter}
use Rattle.jc_states.proofs.UidListFacts.{uids_of-ascends}
use Rattle.jc_states.proofs.UidPlaceFacts.{absent-below, with-below, without-absent}

-- ---- the UIDs of the pods that pass a test

module _ (test : Pod → Bool) where
  -- They ascend.
  pub passing-ascends : (low : ℕ) (pods : List Pod) → RisesFrom low pods → AscendsFrom low (uids_of (filter test pods))
  passing-ascends low pods r = uids_of-ascends low (filter test pods) (rises_filter low test pods r)

  -- So they do with a pod in front that may pass.
  first-ascends : (q : Pod) (pods : List Pod) → RisesFrom (q.uid.0 + 1) pods → AscendsFrom q.uid.0 (uids_of (filter test (q ∷ pods)))
  first-ascends q pods r = passing-ascends q.uid.0 (q ∷ pods) (omega arith, r)

  -- A pod that passes is put.
  pub passing-put_in : (low : ℕ) (pod : Pod) (pods : List Pod) → test pod ≡ true → RisesFrom low pods
      → uids_of (filter test (put_pod pod pods)) ≡ with_uid pod.uid (uids_of (filter test pods))
  passing-put_in low pod [] t r = ap (λ b. uids_of (cond b (pod ∷ []) [])) t
  passing-put_in low pod (q ∷ pods) t r =
      by (nat_lt pod.uid.0 q.uid.0) refl (pod.uid.0 == q.uid.0) refl (passing-put_in (q.uid.0 + 1) pod pods t r.1)
    where
      first : (rest : List Pod) → uids_of (filter test (pod ∷ rest)) ≡ pod.uid ∷ uids_of (filter test rest)
      first rest = ap (λ b. uids_of (cond b (pod ∷ filter test rest) (filter test rest))) t

      replaced : nat_lt pod.uid.0 q.uid.0 ≡ false → (pod.uid.0 == q.uid.0) ≡ true → (b : Bool)
          → pod.uid ∷ uids_of (filter test pods) ≡ with_uid pod.uid (uids_of (cond b (q ∷ filter test pods) (filter test pods)))
      replaced l e true =
          let rest = uids_of (filter test pods) in
          ap (λ u. u ∷ rest) (same_uid-eq pod.uid q.uid e)
          ∙ sym
          (cond-false (nat_lt pod.uid.0 q.uid.0) (pod.uid ∷ q.uid ∷ rest) (cond (pod.uid.0 == q.uid.0) (q.uid ∷ rest) (q.uid ∷ with_uid pod.uid rest)) l
          ∙ cond-true (pod.uid.0 == q.uid.0) (q.uid ∷ rest) (q.uid ∷ with_uid pod.uid rest) e)
      replaced l e false =
          let is = eqb-true pod.uid.0 q.uid.0 e in
          sym (with-below (q.uid.0 + 1) pod.uid (uids_of (filter test pods)) (omega (arith, is)) (passing-ascends (q.uid.0 + 1) pods r.1))

      behind : nat_lt pod.uid.0 q.uid.0 ≡ false → (pod.uid.0 == q.uid.0) ≡ false
          → uids_of (filter test (put_pod pod pods)) ≡ with_uid pod.uid (uids_of (filter test pods)) → (b : Bool)
          → uids_of (cond b (q ∷ filter test (put_pod pod pods)) (filter test (put_pod pod pods)))
          ≡ with_uid pod.uid (uids_of (cond b (q ∷ filter test pods) (filter test pods)))
      behind l e ih true =
          let rest = uids_of (filter test pods) in
          ap (λ us. q.uid ∷ us) ih
          ∙ sym
          (cond-false (nat_lt pod.uid.0 q.uid.0) (pod.uid ∷ q.uid ∷ rest) (cond (pod.uid.0 == q.uid.0) (q.uid ∷ rest) (q.uid ∷ with_uid pod.uid rest)) l
          ∙ cond-false (pod.uid.0 == q.uid.0) (q.uid ∷ rest) (q.uid ∷ with_uid pod.uid rest) e)
      behind l e ih false = ih

      by : (lt : Bool) → nat_lt pod.uid.0 q.uid.0 ≡ lt → (eq : Bool) → (pod.uid.0 == q.uid.0) ≡ eq
          → uids_of (filter test (put_pod pod pods)) ≡ with_uid pod.uid (uids_of (filter test pods))
          → uids_of (filter test (cond lt (pod ∷ q ∷ pods) (cond eq (pod ∷ pods) (q ∷ put_pod pod pods)))) ≡ with_uid pod.uid (uids_of (filter test (q ∷ pods)))
      by true l eq e ih =
          first (q ∷ pods)
          ∙ sym (with-below q.uid.0 pod.uid (uids_of (filter test (q ∷ pods))) (ltb-true pod.uid.0 q.uid.0 l) (first-ascends q pods r.1))
      by false l true e ih = first pods ∙ replaced l e (test q)
      by false l false e ih = behind l e ih (test q)

  -- A pod that does not pass is put.
  pub passing-put_out : (low : ℕ) (pod : Pod) (pods : List Pod) → test pod ≡ false → RisesFrom low pods
      → uids_of (filter test (put_pod pod pods)) ≡ without_uid pod.uid (uids_of (filter test pods))
  passing-put_out low pod [] t r = ap (λ b. uids_of (cond b (pod ∷ []) [])) t
  passing-put_out low pod (q ∷ pods) t r =
      by (nat_lt pod.uid.0 q.uid.0) refl (pod.uid.0 == q.uid.0) refl (passing-put_out (q.uid.0 + 1) pod pods t r.1)
    where
      first : (rest : List Pod) → uids_of (filter test (pod ∷ rest)) ≡ uids_of (filter test rest)
      first rest = ap (λ b. uids_of (cond b (pod ∷ filter test rest) (filter test rest))) t

      untouched : (pod.uid.0 == q.uid.0) ≡ true → uids_of (filter test pods) ≡ without_uid pod.uid (uids_of (filter test pods))
      untouched e =
          let is = eqb-true pod.uid.0 q.uid.0 e in
          let rest = uids_of (filter test pods) in
          sym (without-absent pod.uid rest (absent-below (q.uid.0 + 1) pod.uid rest (omega (arith, is)) (passing-ascends (q.uid.0 + 1) pods r.1)))

      one : (s : Bool) → same_uid q.uid pod.uid ≡ s → (rest : List Uid) → without_uid pod.uid (q.uid ∷ rest) ≡ cond (not s) (q.uid ∷ without_uid pod.uid rest) (without_uid pod.uid rest)
      one s same rest = ap (λ b. cond (not b) (q.uid ∷ without_uid pod.uid rest) (without_uid pod.uid rest)) same

      replaced : (pod.uid.0 == q.uid.0) ≡ true → (b : Bool)
          → uids_of (filter test pods) ≡ without_uid pod.uid (uids_of (cond b (q ∷ filter test pods) (filter test pods)))
      replaced e true =
          untouched e ∙ sym (one true (eq-eqb q.uid.0 pod.uid.0 (sym (eqb-true pod.uid.0 q.uid.0 e))) (uids_of (filter test pods)))
      replaced e false = untouched e

      behind : (pod.uid.0 == q.uid.0) ≡ false
          → uids_of (filter test (put_pod pod pods)) ≡ without_uid pod.uid (uids_of (filter test pods)) → (b : Bool)
          → uids_of (cond b (q ∷ filter test (put_pod pod pods)) (filter test (put_pod pod pods)))
          ≡ without_uid pod.uid (uids_of (cond b (q ∷ filter test pods) (filter test pods)))
      behind e ih true =
          ap (λ us. q.uid ∷ us) ih
          ∙ sym (one false (ne_eqb q.uid.0 pod.uid.0 (λ same. eqb-false pod.uid.0 q.uid.0 e (sym same))) (uids_of (filter test pods)))
      behind e ih false = ih

      by : (lt : Bool) → nat_lt pod.uid.0 q.uid.0 ≡ lt → (eq : Bool) → (pod.uid.0 == q.uid.0) ≡ eq
          → uids_of (filter test (put_pod pod pods)) ≡ without_uid pod.uid (uids_of (filter test pods))
          → uids_of (filter test (cond lt (pod ∷ q ∷ pods) (cond eq (pod ∷ pods) (q ∷ put_pod pod pods)))) ≡ without_uid pod.uid (uids_of (filter test (q ∷ pods)))
      by true l eq e ih =
          let all = uids_of (filter test (q ∷ pods)) in
          first (q ∷ pods)
          ∙ sym (without-absent pod.uid all (absent-below q.uid.0 pod.uid all (ltb-true pod.uid.0 q.uid.0 l) (first-ascends q pods r.1)))
      by false l true e ih = first pods ∙ replaced e (test q)
      by false l false e ih = behind e ih (test q)

  -- The pod of a UID is dropped.
  pub passing-drop : (u : Uid) (pods : List Pod) → uids_of (filter test (drop_pod u pods)) ≡ without_uid u (uids_of (filter test pods))
  passing-drop u [] = refl
  passing-drop u (q ∷ pods) = by (same_uid q.uid u) refl (test q) refl (passing-drop u pods)
    where
      one : (s : Bool) → same_uid q.uid u ≡ s → (rest : List Uid) → without_uid u (q.uid ∷ rest) ≡ cond (not s) (q.uid ∷ without_uid u rest) (without_uid u rest)
      one s same rest = ap (λ b. cond (not b) (q.uid ∷ without_uid u rest) (without_uid u rest)) same

      first : (b : Bool) → test q ≡ b → (rest : List Pod) → uids_of (filter test (q ∷ rest)) ≡ uids_of (cond b (q ∷ filter test rest) (filter test rest))
      first b t rest = ap (λ c. uids_of (cond c (q ∷ filter test rest) (filter test rest))) t

      by : (s : Bool) → same_uid q.uid u ≡ s → (b : Bool) → test q ≡ b → uids_of (filter test (drop_pod u pods)) ≡ without_uid u (uids_of (filter test pods))
          → uids_of (filter test (cond (not s) (q ∷ drop_pod u pods) (drop_pod u pods))) ≡ without_uid u (uids_of (cond b (q ∷ filter test pods) (filter test pods)))
      by true s true t ih = ih ∙ sym (one true s (uids_of (filter test pods)))
      by true s false t ih = ih
      by false s true t ih = first true t (drop_pod u pods) ∙ ap (λ us. q.uid ∷ us) ih ∙ sym (one false s (uids_of (filter test pods)))
      by false s false t ih = first false t (drop_pod u pods) ∙ ih

-- ---- the numbers of the pods at odds

-- Of no pods there are none.
pub odd-none : (pods : List Pod) (numbers : List ℕ) → pods ≡ [] → numbers ≡ [] → numbers ≡ odd_numbers pods
odd-none pods numbers no_pods no_numbers = no_numbers ∙ ap odd_numbers (sym no_pods)

-- The numbers of UIDs.
abbrev numbers_of : List Uid → List ℕ
numbers_of uids = map (λ u. u.0) uids

-- A number that is inserted is that of a UID that is.
insert-numbers : (u : Uid) (uids : List Uid) → insert_key nat_cmp (numbers_of uids) u.0 ≡ numbers_of (with_uid u uids)
insert-numbers u [] = refl
insert-numbers u (v ∷ uids) = by (nat_lt u.0 v.0) (u.0 == v.0) (insert-numbers u uids)
  where
    by : (lt eq : Bool) → insert_key nat_cmp (numbers_of uids) u.0 ≡ numbers_of (with_uid u uids)
        → match_ordering (cond lt Less (cond eq Equal Greater)) (u.0 ∷ v.0 ∷ numbers_of uids) (v.0 ∷ numbers_of uids) (v.0 ∷ insert_key nat_cmp (numbers_of uids) u.0)
        ≡ numbers_of (cond lt (u ∷ v ∷ uids) (cond eq (v ∷ uids) (v ∷ with_uid u uids)))
    by true eq ih = refl
    by false true ih = refl
    by false false ih = ap (λ all. v.0 ∷ all) ih

-- Numbers tie where they are the same.
pub compared : (a b : ℕ) → is_eq (nat_cmp a b) ≡ (a == b)
compared a b = by (nat_lt a b) refl (a == b) refl
  where
    by : (lt : Bool) → nat_lt a b ≡ lt → (eq : Bool) → (a == b) ≡ eq → is_eq (cond lt Less (cond eq Equal Greater)) ≡ eq
    by true l true e = let below = ltb-true a b l in let is = eqb-true a b e in absurd (omega (arith, below, is))
    by true l false e = refl
    by false l true e = refl
    by false l false e = refl

-- A number that is taken out is that of a UID that is.
remove-numbers : (u : Uid) (low : ℕ) (uids : List Uid) → AscendsFrom low uids → remove_key (λ k. u.0 == k) (numbers_of uids) ≡ numbers_of (without_uid u uids)
remove-numbers u low [] r = refl
remove-numbers u low (v ∷ uids) r =
    by (u.0 == v.0) refl (remove-numbers u (v.0 + 1) uids r.1)
    ∙ ap (λ b. numbers_of (cond (not b) (v ∷ without_uid u uids) (without_uid u uids))) (same_uid-either_way u v)
  where
    by : (b : Bool) → (u.0 == v.0) ≡ b → remove_key (λ k. u.0 == k) (numbers_of uids) ≡ numbers_of (without_uid u uids)
        → cond b (numbers_of uids) (v.0 ∷ remove_key (λ k. u.0 == k) (numbers_of uids))
        ≡ numbers_of (cond (not b) (v ∷ without_uid u uids) (without_uid u uids))
    by true e ih =
        let is = eqb-true u.0 v.0 e in
        ap numbers_of (sym (without-absent u uids (absent-below (v.0 + 1) u uids (omega (arith, is)) r.1)))
    by false e ih = ap (λ all. v.0 ∷ all) ih

taken-numbers : (u : Uid) (uids : List Uid) → Ascends uids → remove_key (is_at (nat_cmp u.0)) (numbers_of uids) ≡ numbers_of (without_uid u uids)
taken-numbers u uids r = ap (λ (test : ℕ → Bool). remove_key test (numbers_of uids)) (λ i k. compared u.0 k i) ∙ remove-numbers u 0 uids r

-- The numbers of the UIDs of the pods at odds are those of the pods.
numbers-odd : (pods : List Pod) → numbers_of (uids_of pods) ≡ map (λ pod. pod.uid.0) pods
numbers-odd [] = refl
numbers-odd (pod ∷ pods) = ap (λ all. pod.uid.0 ∷ all) (numbers-odd pods)

-- The numbers that are kept with pods in ascending UID.
module _ (pods : List Pod) (numbers : List ℕ) (rising : RisesFrom 0 pods) (is : numbers ≡ odd_numbers pods) where
  kept-odd : numbers ≡ numbers_of (uids_of (filter is_at_odds pods))
  kept-odd = is ∙ sym (numbers-odd (filter is_at_odds pods))

  -- Once a pod is put.
  pub odd-put : (pod : Pod) (new : List ℕ) → new ≡ with_note pod numbers → new ≡ odd_numbers (put_pod pod pods)
  odd-put pod new noted = noted ∙ ap (with_note pod) kept-odd ∙ by (is_at_odds pod) refl ∙ numbers-odd (filter is_at_odds (put_pod pod pods))
    where
      by : (b : Bool) → is_at_odds pod ≡ b
          → cond b (insert_key nat_cmp (numbers_of (uids_of (filter is_at_odds pods))) pod.uid.0) (remove_key (is_at (nat_cmp pod.uid.0)) (numbers_of (uids_of (filter is_at_odds pods))))
          ≡ numbers_of (uids_of (filter is_at_odds (put_pod pod pods)))
      by true t = insert-numbers pod.uid (uids_of (filter is_at_odds pods)) ∙ ap numbers_of (sym (passing-put_in is_at_odds 0 pod pods t rising))
      by false t = taken-numbers pod.uid (uids_of (filter is_at_odds pods)) (passing-ascends is_at_odds 0 pods rising) ∙ ap numbers_of (sym (passing-put_out is_at_odds 0 pod pods t rising))

  -- Once the pod of a UID is dropped.
  pub odd-drop : (u : Uid) (new : List ℕ) → new ≡ remove_key (is_at (nat_cmp u.0)) numbers → new ≡ odd_numbers (drop_pod u pods)
  odd-drop u new taken =
      taken ∙ ap (remove_key (is_at (nat_cmp u.0))) kept-odd ∙ taken-numbers u (uids_of (filter is_at_odds pods)) (passing-ascends is_at_odds 0 pods rising)
      ∙ ap numbers_of (sym (passing-drop is_at_odds u pods)) ∙ numbers-odd (filter is_at_odds (drop_pod u pods))
