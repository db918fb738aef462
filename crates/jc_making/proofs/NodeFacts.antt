-- What the node does to a pod never raises how many pods may still be made.
use Rattle.std.proofs.Common.{◌≡◌, ℕ, ◌+◌, ◌≤◌, Bool, true, false, cond, not, ◌&&◌, ◌||◌, List, [], ◌∷◌, ◌++◌, Option, Some, None, is_some, pos, refl, sym, ap, ◌∙◌, subst, arith, true≢false}
use Rattle.std.proofs.lemmas.Bool.{and_right}
use Rattle.std.specs.Option.{option_map_or, unwrap_or}
use Rattle.std.specs.Ordering.{int_eq}
use Rattle.jc_types.specs.declared.actions.End.{End}
use Rattle.jc_types.specs.declared.objects.Entry.{Entry}
use Rattle.jc_types.specs.declared.objects.Job.{Job}
use Rattle.jc_types.specs.declared.objects.KeyNames.{KeyNames as Key}
use Rattle.jc_types.specs.declared.objects.Phase.TheVariants as phase
use Rattle.jc_types.specs.declared.objects.Pod.{Pod}
use Rattle.jc_log.specs.Requests.{with_report}
use Rattle.jc_states.specs.Conditions.{has_target}
use Rattle.jc_states.specs.Listed.{is_listed}
use Rattle.jc_states.specs.Pods.{is_active, is_final, is_marked, is_open, is_pending, is_tracked, is_tracked_active}
use Rattle.jc_failpol.specs.declared.outcomes.Outcome.{Outcome}
use Rattle.jc_failpol.specs.declared.outcomes.Outcome.TheVariants as outcome
use Rattle.jc_failpol.specs.Outcomes.{is_succeeded, is_verdict, outcome_of, same_outcome}
use Rattle.jc_account.specs.Judged.{is_candidate}
use Rattle.jc_history.specs.Nodes.{NodeAct, Stop, Start, Again, Finish, act_on, act_with, change_by, end_at, is_again, pod_end}
use Rattle.jc_making.specs.Making.{IsCounted, creations_left, may_be_made, misses, will_fail}
use Rattle.jc_making.proofs.Lists.{one_if, passing-mid}
use Rattle.jc_making.proofs.Values.{each-mid}
use Rattle.jc_making.proofs.PodFacts.{fails-now, goes-on, is_new, nothing, succeeds-now, unmet}
use Rattle.jc_making.proofs.PlanFacts.{active-not, open-not, success-is}

-- What holds of what may be made holds of what is left, where the Job stays.
pub at-most : (b : Bool) (m n : ℕ) → m ≤ n → cond b 0 m ≤ cond b 0 n
at-most true m n h = omega arith
at-most false m n h = h

some-is : (one two : NodeAct) → Some one ≡ Some two → one ≡ two
some-is one two e = ap (λ o. unwrap_or o one) e

-- A pod that has not succeeded is no new success.
unsucceeded : (job : Job) (p : Pod) → is_succeeded p.phase ≡ false → is_new job p ≡ false
unsucceeded job p e = ap (λ b. is_candidate job p && b) (success-is job.spec p ∙ e) ∙ and_right (is_candidate job p) false refl

untracked : (job : Job) (p : Pod) → is_tracked p ≡ false → is_new job p ≡ false
untracked job p e = ap (λ b. (b && (is_verdict (outcome_of job.spec p) && not (is_listed job.status p.uid))) && same_outcome (outcome_of job.spec p) outcome.Succeeded) e

-- A tracked pod that has just succeeded is a new success, if it is not listed.
anew : (job : Job) (p : Pod) → is_tracked p ≡ true → is_succeeded p.phase ≡ true → is_listed job.status p.uid ≡ false → is_new job p ≡ true
anew job p t s l =
    (λ i. (t i && (is_verdict (outcome_of job.spec p) && not (l i))) && same_outcome (outcome_of job.spec p) outcome.Succeeded)
    ∙ by (outcome_of job.spec p) (success-is job.spec p ∙ s)
  where
    by : (o : Outcome) → same_outcome o outcome.Succeeded ≡ true → ((is_verdict o && true) && same_outcome o outcome.Succeeded) ≡ true
    by outcome.Alive e = absurd (true≢false (sym e))
    by outcome.Succeeded e = refl
    by outcome.Failed e = absurd (true≢false (sym e))
    by outcome.Ignored e = absurd (true≢false (sym e))

-- ---- by what the node does

-- What holds of each act of the node on a pod, by what is known of the pod.
module _ (fates : Key → Option (List End)) (pod : Pod) (Falls : NodeAct → Type 0)
    (bare : is_tracked pod ≡ false → (act : NodeAct) → Falls act)
    (stops : is_open pod ≡ true → is_marked pod ≡ true → Falls Stop)
    (starts : is_open pod ≡ true → is_marked pod ≡ false → is_tracked pod ≡ true → is_pending pod.phase ≡ true → Falls Start)
    (again : is_open pod ≡ true → is_marked pod ≡ false → is_tracked pod ≡ true → is_pending pod.phase ≡ false → Falls Again)
    (finishes : is_open pod ≡ true → is_marked pod ≡ false → is_tracked pod ≡ true → is_pending pod.phase ≡ false → (end : End) → pod_end fates pod ≡ Some end → Falls (Finish end)) where
  pub by-act : (act : NodeAct) → act_on fates pod ≡ Some act → Falls act
  by-act act befalls = by-finalizer (is_tracked pod) refl
    where
      of-end : is_open pod ≡ true → is_marked pod ≡ false → is_tracked pod ≡ true → (o : Option End) → pod_end fates pod ≡ o → act_with pod o ≡ Some act → Falls act
      of-end opened unmarked tracked None is h = absurd (true≢false (sym (ap is_some h)))
      of-end opened unmarked tracked (Some end) is h = at (is_pending pod.phase) refl (is_again pod end) h
        where
          at : (pending : Bool) → is_pending pod.phase ≡ pending → (more : Bool) → cond pending (Some Start) (cond more (Some Again) (Some (Finish end))) ≡ Some act → Falls act
          at true e more h = subst Falls (some-is Start act h) (starts opened unmarked tracked e)
          at false e true h = subst Falls (some-is Again act h) (again opened unmarked tracked e)
          at false e false h = subst Falls (some-is (Finish end) act h) (finishes opened unmarked tracked e end is)

      marked : is_tracked pod ≡ true → is_open pod ≡ true → (b : Bool) → is_marked pod ≡ b → cond b (Some Stop) (act_with pod (pod_end fates pod)) ≡ Some act → Falls act
      marked tracked opened true s h = subst Falls (some-is Stop act h) (stops opened s)
      marked tracked opened false s h = of-end opened s tracked (pod_end fates pod) refl h

      by : is_tracked pod ≡ true → (b : Bool) → is_open pod ≡ b → cond (not b) None (cond (is_marked pod) (Some Stop) (act_with pod (pod_end fates pod))) ≡ Some act → Falls act
      by tracked false s h = absurd (true≢false (sym (ap is_some h)))
      by tracked true s h = marked tracked s (is_marked pod) refl h

      by-finalizer : (b : Bool) → is_tracked pod ≡ b → Falls act
      by-finalizer false e = bare e act
      by-finalizer true e = by e (is_open pod) refl befalls

-- A pod without its finalizer counts for nothing.
pub bare-idle : (p : Pod) → is_tracked p ≡ false → is_tracked_active p ≡ false
bare-idle p e = ap (λ b. is_active p && b) e ∙ and_right (is_active p) false refl

pub bare-unmet : (job : Job) (front back : List Pod) (p : Pod) → is_tracked p ≡ false → unmet job (front ++ p ∷ back) ≡ unmet job (front ++ back)
bare-unmet job front back p e = nothing job front back p (untracked job p e) (bare-idle p e)

-- What the node leaves of the places that nobody runs towards, and which pods are active then.
module _ (job : Job) (front back : List Pod) (log : List Entry) (pod : Pod) where
  abbrev pub after : NodeAct → Pod
  after act = with_report log pod (change_by pod act)

  -- A pod that is marked counts for nothing, whether it is stopped already or not.
  pub marked-idle : is_marked pod ≡ true → is_tracked_active pod ≡ false
  marked-idle marked = (λ i. (is_open pod && not (marked i)) && is_tracked pod) ∙ ap (λ b. b && is_tracked pod) (and_right (is_open pod) false refl)

  pub stopped-unmet : is_open pod ≡ true → is_marked pod ≡ true → unmet job (front ++ after Stop ∷ back) ≡ unmet job (front ++ pod ∷ back)
  stopped-unmet opened marked =
      nothing job front back (after Stop) (unsucceeded job (after Stop) refl) refl
      ∙ sym (nothing job front back pod (unsucceeded job pod (open-not pod.phase (not-open (is_final pod.phase) opened))) (marked-idle marked))
    where
      not-open : (b : Bool) → not b ≡ true → b ≡ false
      not-open true e = absurd (true≢false (sym e))
      not-open false e = refl

  module _ (counted : IsCounted job (front ++ pod ∷ back)) (opened : is_open pod ≡ true) (unmarked : is_marked pod ≡ false) (tracked : is_tracked pod ≡ true) where
    active : is_active pod ≡ true
    active = (λ i. opened i && not (unmarked i))

    pub is-active : is_tracked_active pod ≡ true
    is-active = (λ i. active i && tracked i)

    old : is_new job pod ≡ false
    old = ap (λ b. is_candidate job pod && b) (active-not job.spec pod active) ∙ and_right (is_candidate job pod) false refl

    -- It is not listed.
    pub unlisted : is_listed job.status pod.uid ≡ false
    unlisted = by (is_listed job.status pod.uid) refl
      where
        by : (b : Bool) → is_listed job.status pod.uid ≡ b → b ≡ false
        by true e = absurd (true≢false (sym active ∙ each-mid (λ p. is_listed job.status p.uid ≡ true → is_active p ≡ false) front back pod counted.listed e))
        by false e = refl

    pub stays-active : not (is_marked pod) && is_tracked pod ≡ true
    stays-active = (λ i. not (unmarked i) && tracked i)

    pub started-unmet : unmet job (front ++ after Start ∷ back) ≡ unmet job (front ++ pod ∷ back)
    started-unmet = goes-on job front back pod (after Start) counted refl refl old (unsucceeded job (after Start) refl) is-active stays-active

    pub again-unmet : unmet job (front ++ after Again ∷ back) ≡ unmet job (front ++ pod ∷ back)
    again-unmet = goes-on job front back pod (after Again) counted refl refl old (unsucceeded job (after Again) refl) is-active stays-active

    module _ (end : End) where
      -- It has ended.
      pub finished-idle : is_tracked_active (after (Finish end)) ≡ false
      finished-idle = by (int_eq end.exit (pos 0)) refl
        where
          by : (b : Bool) → int_eq end.exit (pos 0) ≡ b → is_tracked_active (after (Finish end)) ≡ false
          by true e = (λ i. (not (is_final (cond (e i) phase.Succeeded phase.Failed)) && not (is_marked pod)) && is_tracked pod)
          by false e = (λ i. (not (is_final (cond (e i) phase.Succeeded phase.Failed)) && not (is_marked pod)) && is_tracked pod)

      -- Where it succeeds, a place is taken along.
      pub success-unmet : int_eq end.exit (pos 0) ≡ true → (m n : ℕ) → n ≤ m → unmet job (front ++ after (Finish end) ∷ back) + n ≤ unmet job (front ++ pod ∷ back) + m
      success-unmet e m n less =
          succeeds-now job front back pod (after (Finish end)) counted m n less refl old
          (anew job (after (Finish end)) tracked (λ i. is_succeeded (cond (e i) phase.Succeeded phase.Failed)) unlisted) is-active finished-idle

      -- Where it fails, something else has to become less.
      pub failure-unmet : int_eq end.exit (pos 0) ≡ false → (m n : ℕ) → n + 1 ≤ m → unmet job (front ++ after (Finish end) ∷ back) + n ≤ unmet job (front ++ pod ∷ back) + m
      failure-unmet e m n less =
          fails-now job front back pod (after (Finish end)) counted m n less old
          (unsucceeded job (after (Finish end)) (λ i. is_succeeded (cond (e i) phase.Succeeded phase.Failed))) is-active finished-idle

-- ---- with the ends to come

module _ (ends : List End) (made : ℕ) (job : Job) (front back : List Pod) where
  -- So many misses there are.
  misses-mid : (p : Pod) → misses ends made (front ++ p ∷ back) ≡ one_if (is_tracked_active p && will_fail ends p) + misses ends made (front ++ back)
  misses-mid p = let mid = passing-mid is_tracked_active (will_fail ends) front back p in omega (arith, mid)

  -- A pod without its finalizer counts for nothing.
  pub gone : (p : Pod) → is_tracked p ≡ false → creations_left ends made job (front ++ p ∷ back) ≡ creations_left ends made job (front ++ back)
  gone p e = λ i. cond (has_target job.status.conditions || job.spec.suspend) 0 (bare-unmet job front back p e i + missed i)
    where
      missed : misses ends made (front ++ p ∷ back) ≡ misses ends made (front ++ back)
      missed = let mid = misses-mid p in let none = ap (λ b. one_if (b && will_fail ends p)) (bare-idle p e) in omega (arith, mid, none)

  module _ (fates : Key → Option (List End)) (log : List Entry) (pod : Pod) (counted : IsCounted job (front ++ pod ∷ back)) (fated : pod_end fates pod ≡ end_at pod.serial ends) where
    abbrev then : NodeAct → Pod
    then act = with_report log pod (change_by pod act)

    abbrev Falls : NodeAct → Type 0
    Falls act = creations_left ends made job (front ++ then act ∷ back) ≤ creations_left ends made job (front ++ pod ∷ back)

    lower : (act : NodeAct) → unmet job (front ++ then act ∷ back) + misses ends made (front ++ then act ∷ back) ≤ unmet job (front ++ pod ∷ back) + misses ends made (front ++ pod ∷ back) → Falls act
    lower act less =
        at-most (has_target job.status.conditions || job.spec.suspend) (may_be_made ends made job (front ++ then act ∷ back)) (may_be_made ends made job (front ++ pod ∷ back)) less

    -- The misses, before and then.
    was : (b : Bool) → is_tracked_active pod ≡ b → misses ends made (front ++ pod ∷ back) ≡ one_if (b && will_fail ends pod) + misses ends made (front ++ back)
    was b e = misses-mid pod ∙ ap (λ b. one_if (b && will_fail ends pod) + misses ends made (front ++ back)) e

    now : (act : NodeAct) (b : Bool) → is_tracked_active (then act) ≡ b → misses ends made (front ++ then act ∷ back) ≡ one_if (b && will_fail ends pod) + misses ends made (front ++ back)
    now act b e = misses-mid (then act) ∙ ap (λ b. one_if (b && will_fail ends pod) + misses ends made (front ++ back)) e

    bare : is_tracked pod ≡ false → (act : NodeAct) → Falls act
    bare e act = let first = gone (then act) e in let second = gone pod e in omega (arith, first, second)

    stops : is_open pod ≡ true → is_marked pod ≡ true → Falls Stop
    stops opened marked =
        let same = stopped-unmet job front back log pod opened marked in
        let before = was false (marked-idle job front back log pod marked) in
        let behind = now Stop false refl in
        lower Stop (omega (arith, same, before, behind))

    module _ (opened : is_open pod ≡ true) (unmarked : is_marked pod ≡ false) (tracked : is_tracked pod ≡ true) where
      before : misses ends made (front ++ pod ∷ back) ≡ one_if (will_fail ends pod) + misses ends made (front ++ back)
      before = was true (is-active job front back log pod counted opened unmarked tracked)

      starts : Falls Start
      starts =
          let same = started-unmet job front back log pod counted opened unmarked tracked in
          let first = before in
          let second = now Start true (stays-active job front back log pod counted opened unmarked tracked) in
          lower Start (omega (arith, same, first, second))

      again : Falls Again
      again =
          let same = again-unmet job front back log pod counted opened unmarked tracked in
          let first = before in
          let second = now Again true (stays-active job front back log pod counted opened unmarked tracked) in
          lower Again (omega (arith, same, first, second))

      finishes : (end : End) → pod_end fates pod ≡ Some end → Falls (Finish end)
      finishes end is = by (int_eq end.exit (pos 0)) refl
        where
          behind : misses ends made (front ++ then (Finish end) ∷ back) ≡ misses ends made (front ++ back)
          behind = let at = now (Finish end) false (finished-idle job front back log pod counted opened unmarked tracked end) in omega (arith, at)

          by : (b : Bool) → int_eq end.exit (pos 0) ≡ b → Falls (Finish end)
          by true e =
              lower (Finish end) (success-unmet job front back log pod counted opened unmarked tracked end e (misses ends made (front ++ pod ∷ back)) (misses ends made (front ++ then (Finish end) ∷ back))
              (let first = before in let second = behind in omega (arith, first, second)))
          by false e =
              lower (Finish end) (failure-unmet job front back log pod counted opened unmarked tracked end e (misses ends made (front ++ pod ∷ back)) (misses ends made (front ++ then (Finish end) ∷ back))
              (let first = before in let second = behind in let miss = ap one_if (ap (λ o. option_map_or (λ (it : End). not (int_eq it.exit (pos 0))) o false) (sym fated ∙ is) ∙ ap not e) in omega (arith, first, second, miss)))

    -- Each act of the node leaves as many or fewer.
    pub each-falls : (act : NodeAct) → act_on fates pod ≡ Some act → Falls act
    each-falls =
        by-act fates pod Falls bare stops (λ opened unmarked tracked e. starts opened unmarked tracked) (λ opened unmarked tracked e. again opened unmarked tracked)
        (λ opened unmarked tracked e. finishes opened unmarked tracked)

-- Each act of the node leaves as many or fewer.
pub node-falls : (fates : Key → Option (List End)) (ends : List End) (made : ℕ) (job : Job) (front back : List Pod) (log : List Entry) (pod : Pod)
    → IsCounted job (front ++ pod ∷ back) → pod_end fates pod ≡ end_at pod.serial ends → (act : NodeAct) → act_on fates pod ≡ Some act
    → creations_left ends made job (front ++ with_report log pod (change_by pod act) ∷ back) ≤ creations_left ends made job (front ++ pod ∷ back)
node-falls fates ends made job front back log pod counted fated act befalls = each-falls ends made job front back fates log pod counted fated act befalls
