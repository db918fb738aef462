-- The pods of one Job by steps: what one more entry does to them, in any log.
use Rattle.std.proofs.Common.{◌≡◌, ℕ, ◌+◌, ◌<◌, ◌==◌, nat_lt, Bool, true, false, cond, not, ◌&&◌, List, [], ◌∷◌, filter, length, set, None, is_some, refl, sym, ap, subst, ◌∙◌, ◌≤◌, arith, eq-eqb, ltb-true, eqb-true, ne_eqb}
use Rattle.std.specs.List.{insert}
use Rattle.std.proofs.lemmas.Bool.{cond-false, eqb-false}
use Rattle.jc_types.specs.declared.numbers.Uid.{Uid}
use Rattle.jc_types.specs.declared.objects.Entry.{Entry}
use Rattle.jc_types.specs.declared.objects.Entry.TheVariants.{PodPut, PodGone}
use Rattle.jc_types.specs.declared.objects.Pod.{Pod}
use Rattle.jc_types.specs.Keys.{same_uid}
use Rattle.jc_states.specs.PodLists.{IsRising, put_pod, drop_pod, place_from, RisesFrom}
use Rattle.jc_log.specs.Log.{pods_in}
use Rattle.jc_failpol.specs.declared.outcomes.Outcome.{Outcome}
use Rattle.jc_verdicts.specs.Verdicts.{kept_pods, stays}
use Rattle.jc_types.proofs.ListFacts.{filter_filter, filter_swap}
use Rattle.jc_log.proofs.PodFacts.{pods_in-rises}
use Rattle.jc_states.proofs.PodListFacts.{drop-absent, pod_among, put_pod-above, put_pod-below, put_pod-there, rises_filter, rises_put}
use Rattle.jc_states.proofs.PodPlaceFacts.{insert-place, none_from_false, place-there, place-within, set-place}

-- A UID below all others is not among them.
drop_pod-below : (u : Uid) (low : ℕ) (pods : List Pod) → u.0 < low → RisesFrom low pods → drop_pod u pods ≡ pods
drop_pod-below u low [] h r = refl
drop_pod-below u low (q ∷ pods) h r =
    ap (λ b. cond (not b) (q ∷ drop_pod u pods) (drop_pod u pods)) (ne_eqb q.uid.0 u.0 (λ e. omega (arith, e, h, r.0)))
    ∙ ap (λ rest. q ∷ rest) (drop_pod-below u (q.uid.0 + 1) pods (omega (arith, h, r.0)) r.1)

module _ (test : Pod → Bool) where
  -- Those that pass.
  abbrev pub passing : List Pod → List Pod
  passing pods = filter test pods

  -- A pod that is put: it joins those that pass where it does, and else its UID leaves them.
  pub passing-put : (pod : Pod) (low : ℕ) (pods : List Pod) → RisesFrom low pods → passing (put_pod pod pods) ≡ cond (test pod) (put_pod pod (passing pods)) (drop_pod pod.uid (passing pods))
  passing-put pod low [] r = refl
  passing-put pod low (q ∷ pods) r =
      by (nat_lt pod.uid.0 q.uid.0) refl (pod.uid.0 == q.uid.0) refl (passing-put pod (q.uid.0 + 1) pods r.1)
    where
      above : RisesFrom (q.uid.0 + 1) (passing pods)
      above = rises_filter (q.uid.0 + 1) test pods r.1

      less : nat_lt pod.uid.0 q.uid.0 ≡ true → (a : Bool) → cond a (pod ∷ passing (q ∷ pods)) (passing (q ∷ pods)) ≡ cond a (put_pod pod (passing (q ∷ pods))) (drop_pod pod.uid (passing (q ∷ pods)))
      less l true =
          sym (put_pod-below pod q.uid.0 (passing (q ∷ pods)) (ltb-true pod.uid.0 q.uid.0 l) (rises_filter q.uid.0 test (q ∷ pods) (omega arith, r.1)))
      less l false =
          sym (drop_pod-below pod.uid q.uid.0 (passing (q ∷ pods)) (ltb-true pod.uid.0 q.uid.0 l) (rises_filter q.uid.0 test (q ∷ pods) (omega arith, r.1)))

      there : nat_lt pod.uid.0 q.uid.0 ≡ false → (pod.uid.0 == q.uid.0) ≡ true → (a b : Bool)
          → cond a (pod ∷ passing pods) (passing pods) ≡ cond a (put_pod pod (cond b (q ∷ passing pods) (passing pods))) (drop_pod pod.uid (cond b (q ∷ passing pods) (passing pods)))
      there l e true true = sym (put_pod-there pod q (passing pods) l e)
      there l e true false = let is = eqb-true pod.uid.0 q.uid.0 e in sym (put_pod-below pod (q.uid.0 + 1) (passing pods) (omega (arith, is)) above)
      there l e false true =
          let is = eqb-true pod.uid.0 q.uid.0 e in
          sym (ap (λ b. cond (not b) (q ∷ drop_pod pod.uid (passing pods)) (drop_pod pod.uid (passing pods))) (eq-eqb q.uid.0 pod.uid.0 (sym is)) ∙ drop_pod-below pod.uid (q.uid.0 + 1) (passing pods) (omega (arith, is)) above)
      there l e false false = let is = eqb-true pod.uid.0 q.uid.0 e in sym (drop_pod-below pod.uid (q.uid.0 + 1) (passing pods) (omega (arith, is)) above)

      more : nat_lt pod.uid.0 q.uid.0 ≡ false → (pod.uid.0 == q.uid.0) ≡ false → (a b : Bool) (next : List Pod) → next ≡ cond a (put_pod pod (passing pods)) (drop_pod pod.uid (passing pods))
          → cond b (q ∷ next) next ≡ cond a (put_pod pod (cond b (q ∷ passing pods) (passing pods))) (drop_pod pod.uid (cond b (q ∷ passing pods) (passing pods)))
      more l e true true next ih = ap (λ rest. q ∷ rest) ih ∙ sym (put_pod-above pod q (passing pods) l e)
      more l e true false next ih = ih
      more l e false true next ih =
          ap (λ rest. q ∷ rest) ih
          ∙ sym (ap (λ b. cond (not b) (q ∷ drop_pod pod.uid (passing pods)) (drop_pod pod.uid (passing pods))) (ne_eqb q.uid.0 pod.uid.0 (λ s. eqb-false pod.uid.0 q.uid.0 e (sym s))))
      more l e false false next ih = ih

      by : (lt : Bool) → nat_lt pod.uid.0 q.uid.0 ≡ lt → (eq : Bool) → (pod.uid.0 == q.uid.0) ≡ eq
          → passing (put_pod pod pods) ≡ cond (test pod) (put_pod pod (passing pods)) (drop_pod pod.uid (passing pods))
          → passing (cond lt (pod ∷ q ∷ pods) (cond eq (pod ∷ pods) (q ∷ put_pod pod pods)))
          ≡ cond (test pod) (put_pod pod (passing (q ∷ pods))) (drop_pod pod.uid (passing (q ∷ pods)))
      by true l eq e ih = less l (test pod)
      by false l true e ih = there l e (test pod) (test q)
      by false l false e ih = more l e (test pod) (test q) (passing (put_pod pod pods)) ih

  -- A UID that is dropped.
  pub passing-drop : (u : Uid) (pods : List Pod) → passing (drop_pod u pods) ≡ drop_pod u (passing pods)
  passing-drop u pods = filter_swap test (λ pod. not (same_uid pod.uid u)) pods

module _ (known : List (Uid × Outcome)) (j : Uid) where
  -- The pod was made for the Job, and stays.
  abbrev pub stays_of : Pod → Bool
  stays_of pod = same_uid pod.owner_uid j && stays known pod

  -- The pods that stay are those of which this is so.
  kept_pods-are : (older : List Entry) → kept_pods known j older ≡ filter stays_of (pods_in older)
  kept_pods-are older = filter_filter (stays known) (λ pod. same_uid pod.owner_uid j) (pods_in older)

  -- A pod of the Job is put.
  pub seen_put : (entry : Entry) (pod : Pod) (pods new : List Pod) (older : List Entry) → entry ≡ PodPut pod → same_uid pod.owner_uid j ≡ true
      → new ≡ cond (stays known pod) (put_pod pod pods) (drop_pod pod.uid pods) → pods ≡ kept_pods known j older → new ≡ kept_pods known j (entry ∷ older)
  seen_put entry pod pods new older is own put before =
      put ∙ ap (λ ps. cond (stays known pod) (put_pod pod ps) (drop_pod pod.uid ps)) (before ∙ kept_pods-are older)
      ∙ sym (ap (λ b. cond (b && stays known pod) (put_pod pod (filter stays_of (pods_in older))) (drop_pod pod.uid (filter stays_of (pods_in older)))) own)
      ∙ sym (passing-put stays_of pod 0 (pods_in older) (pods_in-rises older))
      ∙ sym (kept_pods-are (PodPut pod ∷ older))
      ∙ ap (λ e. kept_pods known j (e ∷ older)) (sym is)

  -- A pod of another Job is put.
  pub seen_other : (entry : Entry) (pod : Pod) (pods new : List Pod) (older : List Entry) → entry ≡ PodPut pod → same_uid pod.owner_uid j ≡ false → new ≡ drop_pod pod.uid pods → filter (stays known) pods ≡ kept_pods known j older
      → filter (stays known) new ≡ kept_pods known j (entry ∷ older)
  seen_other entry pod pods new older is own drops before =
      ap (filter (stays known)) drops ∙ passing-drop (stays known) pod.uid pods ∙ ap (drop_pod pod.uid) (before ∙ kept_pods-are older)
      ∙ sym (ap (λ b. cond (b && stays known pod) (put_pod pod (filter stays_of (pods_in older))) (drop_pod pod.uid (filter stays_of (pods_in older)))) own)
      ∙ sym (passing-put stays_of pod 0 (pods_in older) (pods_in-rises older))
      ∙ sym (kept_pods-are (PodPut pod ∷ older))
      ∙ ap (λ e. kept_pods known j (e ∷ older)) (sym is)

  -- A pod goes.
  pub seen_gone : (entry : Entry) (pod : Pod) (pods new : List Pod) (older : List Entry) → entry ≡ PodGone pod → new ≡ drop_pod pod.uid pods → filter (stays known) pods ≡ kept_pods known j older
      → filter (stays known) new ≡ kept_pods known j (entry ∷ older)
  seen_gone entry pod pods new older is drops before =
      ap (filter (stays known)) drops ∙ passing-drop (stays known) pod.uid pods ∙ ap (drop_pod pod.uid) (before ∙ kept_pods-are older)
      ∙ sym (passing-drop stays_of pod.uid (pods_in older))
      ∙ sym (kept_pods-are (PodGone pod ∷ older))
      ∙ ap (λ e. kept_pods known j (e ∷ older)) (sym is)

-- They rise without the pod of a UID.
pub rises-dropped : (u : Uid) (pods new : List Pod) → IsRising pods → new ≡ drop_pod u pods → IsRising new
rises-dropped u pods new rises drops = subst IsRising (sym drops) (rises_filter 0 (λ pod. not (same_uid pod.uid u)) pods rises)

-- A pod is written over that of its UID, or put in front of the first of a greater one, or is not there and does not stay.
module _ (known : List (Uid × Outcome)) (items slice slice2 : List Pod) (pod here here2 : Pod) (i : ℕ) (rises : IsRising items)
    (shown : slice ≡ items) (shown2 : slice2 ≡ items) (is : here ≡ pod) (is2 : here2 ≡ pod) (at : i ≡ place_from here.uid slice)
    (there : Bool) (tells : there ≡ is_some (pod_among here2.uid slice2)) where
  -- The place is that of its UID.
  place : i ≡ place_from pod.uid items
  place = at ∙ ap (λ (p : Pod). place_from p.uid slice) is ∙ ap (place_from pod.uid) shown

  -- Whether there is one of its UID.
  told : there ≡ is_some (pod_among pod.uid items)
  told = tells ∙ ap (λ (p : Pod). is_some (pod_among p.uid slice2)) is2 ∙ ap (λ ps. is_some (pod_among pod.uid ps)) shown2

  none : there ≡ false → pod_among pod.uid items ≡ None
  none not_so = none_from_false (pod_among pod.uid items) (sym told ∙ not_so)

  -- The place lies within the pods where there is one, and else at their end at most.
  pub put-within : there ≡ true → i < length items
  put-within is_so = place-there pod.uid items i place (sym told ∙ is_so)

  pub put-fits : i ≤ length items
  put-fits = let fits = place-within pod.uid items in omega (arith, fits, place)

  -- It is put.
  pub put-over : (again : Pod) → again ≡ pod → there ≡ true → set items i again ≡ put_pod pod items
  put-over again copied is_so = ap (set items i) copied ∙ ap (λ n. set items n pod) place ∙ set-place 0 pod items rises (sym told ∙ is_so)

  pub put-new : (again : Pod) → again ≡ pod → there ≡ false → (new : List Pod) → new ≡ insert items i again → new ≡ put_pod pod items
  put-new again copied not_so new inserts = inserts ∙ ap (insert items i) copied ∙ ap (λ n. insert items n pod) place ∙ insert-place pod items (none not_so)

  -- The pods rise still, and those that stay are as they are to be.
  pub put-rises : (new : List Pod) → new ≡ put_pod pod items → IsRising new
  put-rises new puts = subst IsRising (sym puts) (rises_put 0 pod items (omega arith) rises)

  pub put-stays : (new : List Pod) → new ≡ put_pod pod items
      → filter (stays known) new ≡ cond (stays known pod) (put_pod pod (filter (stays known) items)) (drop_pod pod.uid (filter (stays known) items))
  put-stays new puts = ap (filter (stays known)) puts ∙ passing-put (stays known) pod 0 items rises

  -- So they are where it is not there and does not stay.
  pub put-none : (here3 : Pod) → here3 ≡ pod → there ≡ false → stays known here3 ≡ false
      → filter (stays known) items ≡ cond (stays known pod) (put_pod pod (filter (stays known) items)) (drop_pod pod.uid (filter (stays known) items))
  put-none here3 is3 not_so leaves =
      sym (ap (filter (stays known)) (drop-absent pod.uid items (none not_so)))
      ∙ passing-drop (stays known) pod.uid items
      ∙ sym (cond-false (stays known pod) (put_pod pod (filter (stays known) items)) (drop_pod pod.uid (filter (stays known) items)) (ap (stays known) (sym is3) ∙ leaves))
