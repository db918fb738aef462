-- What a write and a removal among pods in ascending UID leave of the open ones among them.
use Rattle.std.proofs.Common.{◌≡◌, ℕ, ◌+◌, ◌<◌, ◌==◌, nat_lt, nat_le, nat_cmp, Less, Equal, Greater, Bool, true, false, cond, not, ◌&&◌, List, [], ◌∷◌, filter, find, map, Option, Some, None, is_some, refl, sym, ap, subst, ◌∙◌}
use Rattle.std.proofs.Common.{arith, true≢false, ltb-true, eqb-true, option_map}
use Rattle.std.specs.Ordering.{match_ordering}
use Rattle.std.specs.Option.{option_map_or}
use Rattle.std.specs.Set.{remove_key}
use Rattle.std.specs.BTreeMap.{is_at}
use Rattle.std.specs.BTreeSet.{insert_key}
use Rattle.std.proofs.lemmas.Bool.{cond-true, cond-false, eqb-false}
use Rattle.jc_types.specs.declared.numbers.Uid.{Uid}
use Rattle.jc_types.specs.declared.objects.Pod.{Pod}
use Rattle.jc_types.specs.Keys.{same_uid}
use Rattle.jc_states.specs.PodLists.{put_pod, drop_pod, RisesFrom, IsRising}
use Rattle.jc_states.specs.Pods.{is_open}
use Rattle.jc_states.proofs.PodListFacts.{among_none, drop-put, pod_among, put_pod-above, put_pod-below, put_pod-there, rises_filter, rises_put}
use Rattle.jc_types.proofs.KeyFacts.{same_uid-either_way, same_uid-itself}
use Rattle.jc_table.specs.Open.{CanReplace, KnowsOpen, open_numbers}
use Rattle.jc_table.proofs.Numbers.{asks}
use Rattle.jc_table.proofs.PodRows.{drop_pod-below}

-- The numbers of the UIDs of pods.
abbrev pub numbers : List Pod → List ℕ
numbers pods = map (λ pod. pod.uid.0) pods

-- The open ones among pods.
abbrev pub open_among : List Pod → List Pod
open_among pods = filter is_open pods

-- ---- numbers and pods

-- A number that is inserted is that of a pod that is put.
insert-numbers : (pod : Pod) (pods : List Pod) → insert_key nat_cmp (numbers pods) pod.uid.0 ≡ numbers (put_pod pod pods)
insert-numbers pod [] = refl
insert-numbers pod (q ∷ pods) = by (nat_lt pod.uid.0 q.uid.0) (pod.uid.0 == q.uid.0) refl (insert-numbers pod pods)
  where
    by : (lt eq : Bool) → (pod.uid.0 == q.uid.0) ≡ eq → insert_key nat_cmp (numbers pods) pod.uid.0 ≡ numbers (put_pod pod pods)
        → match_ordering (cond lt Less (cond eq Equal Greater)) (pod.uid.0 ∷ q.uid.0 ∷ numbers pods) (q.uid.0 ∷ numbers pods) (q.uid.0 ∷ insert_key nat_cmp (numbers pods) pod.uid.0)
        ≡ numbers (cond lt (pod ∷ q ∷ pods) (cond eq (pod ∷ pods) (q ∷ put_pod pod pods)))
    by true eq e ih = refl
    by false true e ih = ap (λ n. n ∷ numbers pods) (sym (eqb-true pod.uid.0 q.uid.0 e))
    by false false e ih = ap (λ all. q.uid.0 ∷ all) ih

-- A number that is taken out is that of a pod that is dropped.
remove-numbers : (u : Uid) (low : ℕ) (pods : List Pod) → RisesFrom low pods → remove_key (λ k. u.0 == k) (numbers pods) ≡ numbers (drop_pod u pods)
remove-numbers u low [] r = refl
remove-numbers u low (pod ∷ pods) r =
    by (u.0 == pod.uid.0) refl (remove-numbers u (pod.uid.0 + 1) pods r.1)
    ∙ ap (λ b. numbers (cond (not b) (pod ∷ drop_pod u pods) (drop_pod u pods))) (same_uid-either_way u pod.uid)
  where
    by : (b : Bool) → (u.0 == pod.uid.0) ≡ b → remove_key (λ k. u.0 == k) (numbers pods) ≡ numbers (drop_pod u pods)
        → cond b (numbers pods) (pod.uid.0 ∷ remove_key (λ k. u.0 == k) (numbers pods))
        ≡ numbers (cond (not b) (pod ∷ drop_pod u pods) (drop_pod u pods))
    by true e ih =
        let is = eqb-true u.0 pod.uid.0 e in
        ap numbers (sym (drop_pod-below u (pod.uid.0 + 1) pods r.1 (omega (arith, is))))
    by false e ih = ap (λ all. pod.uid.0 ∷ all) ih

taken-numbers : (u : Uid) (pods : List Pod) → IsRising pods → remove_key (is_at (nat_cmp u.0)) (numbers pods) ≡ numbers (drop_pod u pods)
taken-numbers u pods r = ap (λ test. remove_key test (numbers pods)) (asks u.0) ∙ remove-numbers u 0 pods r

-- A pod in the place of another has its number.
same-numbers : (pod : Pod) (low : ℕ) (pods : List Pod) → RisesFrom low pods → is_some (pod_among pod.uid pods) ≡ true → numbers (put_pod pod pods) ≡ numbers pods
same-numbers pod low [] r there = absurd (true≢false (sym there))
same-numbers pod low (q ∷ pods) r there =
    by (nat_lt pod.uid.0 q.uid.0) refl (pod.uid.0 == q.uid.0) refl (same_uid q.uid pod.uid) refl there (same-numbers pod (q.uid.0 + 1) pods r.1)
  where
    by : (lt : Bool) → nat_lt pod.uid.0 q.uid.0 ≡ lt → (eq : Bool) → (pod.uid.0 == q.uid.0) ≡ eq → (s : Bool) → same_uid q.uid pod.uid ≡ s
        → is_some (cond s (Some q) (pod_among pod.uid pods)) ≡ true
        → (is_some (pod_among pod.uid pods) ≡ true → numbers (put_pod pod pods) ≡ numbers pods)
        → numbers (cond lt (pod ∷ q ∷ pods) (cond eq (pod ∷ pods) (q ∷ put_pod pod pods))) ≡ q.uid.0 ∷ numbers pods
    by true l eq e true s h ih =
        let below = ltb-true pod.uid.0 q.uid.0 l in
        let is = eqb-true q.uid.0 pod.uid.0 s in
        absurd (omega (arith, below, is))
    by true l eq e false s h ih =
        let below = ltb-true pod.uid.0 q.uid.0 l in
        absurd (true≢false (sym h ∙ ap is_some (among_none (q.uid.0 + 1) pod.uid pods (omega (arith, below)) r.1)))
    by false l true e s t h ih = ap (λ n. n ∷ numbers pods) (eqb-true pod.uid.0 q.uid.0 e)
    by false l false e true s h ih = absurd (eqb-false pod.uid.0 q.uid.0 e (sym (eqb-true q.uid.0 pod.uid.0 s)))
    by false l false e false s h ih = ap (λ all. q.uid.0 ∷ all) (ih h)

-- ---- the open ones

-- A UID that none has none of the open ones has.
open-none : (u : Uid) (pods : List Pod) → pod_among u pods ≡ None → pod_among u (open_among pods) ≡ None
open-none u [] h = refl
open-none u (pod ∷ pods) h = by (is_open pod) (same_uid pod.uid u) refl h (open-none u pods)
  where
    by : (o s : Bool) → same_uid pod.uid u ≡ s → cond s (Some pod) (pod_among u pods) ≡ None → (pod_among u pods ≡ None → pod_among u (open_among pods) ≡ None)
        → pod_among u (cond o (pod ∷ open_among pods) (open_among pods)) ≡ None
    by o true s h ih = absurd (true≢false (ap is_some h))
    by true false s h ih = cond-false (same_uid pod.uid u) (Some pod) (pod_among u (open_among pods)) s ∙ ih h
    by false false s h ih = ih h

-- An open pod that is found is found among the open ones.
open-some : (u : Uid) (old : Pod) (pods : List Pod) → is_open old ≡ true → pod_among u pods ≡ Some old → is_some (pod_among u (open_among pods)) ≡ true
open-some u old [] o h = absurd (true≢false (sym (ap is_some h)))
open-some u old (pod ∷ pods) o h = by (is_open pod) refl (same_uid pod.uid u) refl h (open-some u old pods o)
  where
    by : (b : Bool) → is_open pod ≡ b → (s : Bool) → same_uid pod.uid u ≡ s → cond s (Some pod) (pod_among u pods) ≡ Some old → (pod_among u pods ≡ Some old → is_some (pod_among u (open_among pods)) ≡ true)
        → is_some (pod_among u (cond b (pod ∷ open_among pods) (open_among pods))) ≡ true
    by true b true s h ih = ap is_some (cond-true (same_uid pod.uid u) (Some pod) (pod_among u (open_among pods)) s)
    by true b false s h ih = ap is_some (cond-false (same_uid pod.uid u) (Some pod) (pod_among u (open_among pods)) s) ∙ ih h
    by false b true s h ih = absurd (true≢false (sym o ∙ ap (λ x. option_map_or is_open x true) (sym h) ∙ b))
    by false b false s h ih = ih h

-- The open ones after a drop.
open-drop : (u : Uid) (pods : List Pod) → open_among (drop_pod u pods) ≡ drop_pod u (open_among pods)
open-drop u [] = refl
open-drop u (pod ∷ pods) = by (is_open pod) refl (same_uid pod.uid u) refl (open-drop u pods)
  where
    by : (o : Bool) → is_open pod ≡ o → (s : Bool) → same_uid pod.uid u ≡ s → open_among (drop_pod u pods) ≡ drop_pod u (open_among pods)
        → open_among (cond (not s) (pod ∷ drop_pod u pods) (drop_pod u pods)) ≡ drop_pod u (cond o (pod ∷ open_among pods) (open_among pods))
    by true o true s ih =
        ih ∙ sym (ap (λ b. cond (not b) (pod ∷ drop_pod u (open_among pods)) (drop_pod u (open_among pods))) s)
    by true o false s ih =
        cond-true (is_open pod) (pod ∷ open_among (drop_pod u pods)) (open_among (drop_pod u pods)) o
        ∙ ap (λ rest. pod ∷ rest) ih
        ∙ sym (ap (λ b. cond (not b) (pod ∷ drop_pod u (open_among pods)) (drop_pod u (open_among pods))) s)
    by false o true s ih = ih
    by false o false s ih = cond-false (is_open pod) (pod ∷ open_among (drop_pod u pods)) (open_among (drop_pod u pods)) o ∙ ih

-- The pods once a pod that may be open is written among open ones.
abbrev pub with_open : Bool → Pod → List Pod → List Pod
with_open b pod pods = cond b (put_pod pod pods) (drop_pod pod.uid pods)

-- Below all others it comes first, where it is open.
with_open-below : (b : Bool) (pod : Pod) (low : ℕ) (pods : List Pod) → pod.uid.0 < low → RisesFrom low pods → cond b (pod ∷ pods) pods ≡ with_open b pod pods
with_open-below true pod low pods h r = sym (put_pod-below pod low pods h r)
with_open-below false pod low pods h r = sym (drop_pod-below pod.uid low pods r h)

-- At its own UID it takes the place.
with_open-there : (b : Bool) (pod q : Pod) (pods : List Pod) → nat_lt pod.uid.0 q.uid.0 ≡ false → (pod.uid.0 == q.uid.0) ≡ true → RisesFrom (q.uid.0 + 1) pods → cond b (pod ∷ pods) pods ≡ with_open b pod (q ∷ pods)
with_open-there true pod q pods l e r = sym (put_pod-there pod q pods l e)
with_open-there false pod q pods l e r =
    let is = eqb-true pod.uid.0 q.uid.0 e in
    sym
    (ap (λ b. cond (not b) (q ∷ drop_pod pod.uid pods) (drop_pod pod.uid pods)) (same_uid-either_way q.uid pod.uid ∙ e)
    ∙ drop_pod-below pod.uid (q.uid.0 + 1) pods r (omega (arith, is)))

-- Above the first it is written among the others.
with_open-above : (b : Bool) (pod q : Pod) (pods : List Pod) → nat_lt pod.uid.0 q.uid.0 ≡ false → (pod.uid.0 == q.uid.0) ≡ false → q ∷ with_open b pod pods ≡ with_open b pod (q ∷ pods)
with_open-above true pod q pods l e = sym (put_pod-above pod q pods l e)
with_open-above false pod q pods l e =
    sym (ap (λ b. cond (not b) (q ∷ drop_pod pod.uid pods) (drop_pod pod.uid pods)) (same_uid-either_way q.uid pod.uid ∙ e))

-- The open ones after a put.
open-put : (pod : Pod) (low : ℕ) (pods : List Pod) → RisesFrom low pods → open_among (put_pod pod pods) ≡ with_open (is_open pod) pod (open_among pods)
open-put pod low [] r = refl
open-put pod low (q ∷ pods) r =
    by (nat_lt pod.uid.0 q.uid.0) refl (pod.uid.0 == q.uid.0) refl (is_open q) refl (open-put pod (q.uid.0 + 1) pods r.1)
  where
    rest : RisesFrom (q.uid.0 + 1) (open_among pods)
    rest = rises_filter (q.uid.0 + 1) is_open pods r.1

    all : RisesFrom q.uid.0 (open_among (q ∷ pods))
    all = rises_filter q.uid.0 is_open (q ∷ pods) (omega arith, r.1)

    by : (lt : Bool) → nat_lt pod.uid.0 q.uid.0 ≡ lt → (eq : Bool) → (pod.uid.0 == q.uid.0) ≡ eq → (o : Bool) → is_open q ≡ o
        → open_among (put_pod pod pods) ≡ with_open (is_open pod) pod (open_among pods)
        → open_among (cond lt (pod ∷ q ∷ pods) (cond eq (pod ∷ pods) (q ∷ put_pod pod pods))) ≡ with_open (is_open pod) pod (open_among (q ∷ pods))
    by true l eq e o s ih = let below = ltb-true pod.uid.0 q.uid.0 l in with_open-below (is_open pod) pod q.uid.0 (open_among (q ∷ pods)) below all
    by false l true e true s ih =
        with_open-there (is_open pod) pod q (open_among pods) l e rest
        ∙ ap (with_open (is_open pod) pod) (sym (cond-true (is_open q) (q ∷ open_among pods) (open_among pods) s))
    by false l true e false s ih =
        let is = eqb-true pod.uid.0 q.uid.0 e in
        with_open-below (is_open pod) pod (q.uid.0 + 1) (open_among pods) (omega (arith, is)) rest
        ∙ ap (with_open (is_open pod) pod) (sym (cond-false (is_open q) (q ∷ open_among pods) (open_among pods) s))
    by false l false e true s ih =
        cond-true (is_open q) (q ∷ open_among (put_pod pod pods)) (open_among (put_pod pod pods)) s
        ∙ ap (λ rest. q ∷ rest) ih
        ∙ with_open-above (is_open pod) pod q (open_among pods) l e
        ∙ ap (with_open (is_open pod) pod) (sym (cond-true (is_open q) (q ∷ open_among pods) (open_among pods) s))
    by false l false e false s ih =
        cond-false (is_open q) (q ∷ open_among (put_pod pod pods)) (open_among (put_pod pod pods)) s
        ∙ ih
        ∙ ap (with_open (is_open pod) pod) (sym (cond-false (is_open q) (q ∷ open_among pods) (open_among pods) s))

-- ---- what each change of a store's pods leaves

module _ (known : List ℕ) (pods : List Pod) (knows : KnowsOpen known pods) where
  among : IsRising (open_among pods)
  among = rises_filter 0 is_open pods knows.rising

  -- A new pod that is open.
  pub add-knows : (pod : Pod) (new : List ℕ) (all : List Pod) → is_open pod ≡ true → new ≡ insert_key nat_cmp known pod.uid.0 → all ≡ put_pod pod pods → KnowsOpen new all
  add-knows pod new all o at puts = record {
    rising = subst IsRising (sym puts) (rises_put 0 pod pods (omega arith) knows.rising);
    numbered =
        at ∙ ap (λ known. insert_key nat_cmp known pod.uid.0) knows.numbered ∙ insert-numbers pod (open_among pods)
        ∙ ap numbers (sym (open-put pod 0 pods knows.rising ∙ ap (λ b. with_open b pod (open_among pods)) o))
        ∙ ap open_numbers (sym puts);
  }

  -- A new pod whose number is taken back.
  pub back-knows : (pod : Pod) (new back : List ℕ) (all : List Pod) → pod_among pod.uid pods ≡ None → new ≡ insert_key nat_cmp known pod.uid.0 → back ≡ remove_key (is_at (nat_cmp pod.uid.0)) new → all ≡ pods → KnowsOpen back all
  back-knows pod new back all absent at to same = record {
    rising = subst IsRising (sym same) knows.rising;
    numbered =
        to
        ∙ ap (remove_key (is_at (nat_cmp pod.uid.0))) (at ∙ ap (λ known. insert_key nat_cmp known pod.uid.0) knows.numbered ∙ insert-numbers pod (open_among pods))
        ∙ taken-numbers pod.uid (put_pod pod (open_among pods)) (rises_put 0 pod (open_among pods) (omega arith) among)
        ∙ ap numbers (drop-put pod (open_among pods) (open-none pod.uid pods absent))
        ∙ ap open_numbers (sym same);
  }

  -- A pod in the place of another.
  pub replace-knows : (pod : Pod) (new : List ℕ) (all : List Pod) → CanReplace pod (pod_among pod.uid pods) → new ≡ cond (is_open pod) known (remove_key (is_at (nat_cmp pod.uid.0)) known) → all ≡ put_pod pod pods → KnowsOpen new all
  replace-knows pod new all can at puts = record {
    rising = subst IsRising (sym puts) (rises_put 0 pod pods (omega arith) knows.rising);
    numbered =
        at ∙ ap (λ known. cond (is_open pod) known (remove_key (is_at (nat_cmp pod.uid.0)) known)) knows.numbered
        ∙ by (is_open pod) refl
        ∙ ap numbers (sym (open-put pod 0 pods knows.rising))
        ∙ ap open_numbers (sym puts);
  }
    where
      there : (found : Option Pod) → pod_among pod.uid pods ≡ found → CanReplace pod found → is_open pod ≡ true → is_some (pod_among pod.uid (open_among pods)) ≡ true
      there None found can o = absurd can
      there (Some old) found can o = open-some pod.uid old pods (can o) found

      by : (b : Bool) → is_open pod ≡ b → cond b (open_numbers pods) (remove_key (is_at (nat_cmp pod.uid.0)) (open_numbers pods)) ≡ numbers (with_open b pod (open_among pods))
      by true o = sym (same-numbers pod 0 (open_among pods) among (there (pod_among pod.uid pods) refl can o))
      by false o = taken-numbers pod.uid (open_among pods) among

  -- A pod that is taken.
  pub take-knows : (u : Uid) (new : List ℕ) (all : List Pod) → new ≡ remove_key (is_at (nat_cmp u.0)) known → all ≡ drop_pod u pods → KnowsOpen new all
  take-knows u new all at drops = record {
    rising = subst IsRising (sym drops) (rises_filter 0 (λ pod. not (same_uid pod.uid u)) pods knows.rising);
    numbered =
        at ∙ ap (remove_key (is_at (nat_cmp u.0))) knows.numbered ∙ taken-numbers u (open_among pods) among
        ∙ ap numbers (sym (open-drop u pods)) ∙ ap open_numbers (sym drops);
  }

-- ---- the least open pod from a UID on

-- A pod that is found by a test is found by its UID.
found-itself : (test : Pod → Bool) (low : ℕ) (pods : List Pod) (pod : Pod) → RisesFrom low pods → find test pods ≡ Some pod → pod_among pod.uid pods ≡ Some pod
found-itself test low [] pod r h = absurd (true≢false (sym (ap is_some h)))
found-itself test low (q ∷ pods) pod r h =
    by (λ f. found-itself test (q.uid.0 + 1) pods pod r.1 f) (test q) h (same_uid q.uid pod.uid) refl
  where
    by : (find test pods ≡ Some pod → pod_among pod.uid pods ≡ Some pod) → (b : Bool) → cond b (Some q) (find test pods) ≡ Some pod
        → (s : Bool) → same_uid q.uid pod.uid ≡ s → cond s (Some q) (pod_among pod.uid pods) ≡ Some pod
    by ih true h true s = h
    by ih true h false s =
        let is : q ≡ pod = ap (λ x. option_map_or (λ p. p) x q) h in
        absurd (true≢false (sym (ap (λ p. same_uid q.uid p.uid) (sym is) ∙ same_uid-itself q.uid) ∙ s))
    by ih false h true s =
        let is = eqb-true q.uid.0 pod.uid.0 s in
        let none = among_none (q.uid.0 + 1) pod.uid pods (omega (arith, is)) r.1 in
        absurd (true≢false (ap is_some (sym (ih h) ∙ none)))
    by ih false h false s = ih h

-- The first number from one on is that of the first open pod from that UID on.
first-number : (u : ℕ) (pods : List Pod) → find (nat_le u) (open_numbers pods) ≡ option_map (λ pod. pod.uid.0) (find (λ pod. nat_le u pod.uid.0 && is_open pod) pods)
first-number u [] = refl
first-number u (pod ∷ pods) = by (is_open pod) (nat_le u pod.uid.0) refl (first-number u pods)
  where
    by : (o le : Bool) → nat_le u pod.uid.0 ≡ le → find (nat_le u) (open_numbers pods) ≡ option_map (λ pod. pod.uid.0) (find (λ pod. nat_le u pod.uid.0 && is_open pod) pods)
        → find (nat_le u) (numbers (cond o (pod ∷ open_among pods) (open_among pods)))
        ≡ option_map (λ pod. pod.uid.0) (cond (le && o) (Some pod) (find (λ pod. nat_le u pod.uid.0 && is_open pod) pods))
    by true true l ih = cond-true (nat_le u pod.uid.0) (Some pod.uid.0) (find (nat_le u) (open_numbers pods)) l
    by true false l ih = cond-false (nat_le u pod.uid.0) (Some pod.uid.0) (find (nat_le u) (open_numbers pods)) l ∙ ih
    by false true l ih = ih
    by false false l ih = ih

module _ (known : List ℕ) (pods : List Pod) (knows : KnowsOpen known pods) (u : Uid) (least : Option ℕ) (at : least ≡ find (nat_le u.0) known) where
  first : least ≡ option_map (λ pod. pod.uid.0) (find (λ pod. nat_le u.0 pod.uid.0 && is_open pod) pods)
  first = at ∙ ap (find (nat_le u.0)) knows.numbered ∙ first-number u.0 pods

  -- There is none where no number lies there.
  pub open_from-none : least ≡ None → find (λ pod. nat_le u.0 pod.uid.0 && is_open pod) pods ≡ None
  open_from-none none = by (find (λ pod. nat_le u.0 pod.uid.0 && is_open pod) pods) (sym first ∙ none)
    where
      by : (found : Option Pod) → option_map (λ pod. pod.uid.0) found ≡ None → found ≡ None
      by None h = refl
      by (Some pod) h = absurd (true≢false (ap is_some h))

  -- It has the first number that lies there.
  pub open_from-some : (n : ℕ) → least ≡ Some n → find (λ pod. pod.uid.0 == n) pods ≡ find (λ pod. nat_le u.0 pod.uid.0 && is_open pod) pods
  open_from-some n some = by (find (λ pod. nat_le u.0 pod.uid.0 && is_open pod) pods) refl (sym first ∙ some)
    where
      by : (found : Option Pod) → find (λ pod. nat_le u.0 pod.uid.0 && is_open pod) pods ≡ found → option_map (λ pod. pod.uid.0) found ≡ Some n → find (λ pod. pod.uid.0 == n) pods ≡ found
      by None f h = absurd (true≢false (sym (ap is_some h)))
      by (Some pod) f h =
          let is : pod.uid.0 ≡ n = ap (λ x. option_map_or (λ k. k) x n) h in
          ap (λ n. find (λ q. q.uid.0 == n) pods) (sym is)
          ∙ found-itself (λ pod. nat_le u.0 pod.uid.0 && is_open pod) 0 pods pod knows.rising f
