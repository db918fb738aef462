-- What a plan makes of each of the Job's own pods.
use Rattle.std.proofs.Common.{◌≡◌, Bool, true, false, cond, not, ◌&&◌, ◌||◌, List, [], ◌∷◌, map, filter, Option, Some, None, refl, sym, ap, ◌∙◌, true≢false, unwrap_or}
use Rattle.std.specs.List.{AllByRecursion as Each}
use Rattle.std.proofs.lemmas.Bool.{and_parts}
use Rattle.jc_types.specs.declared.numbers.Uid.{Uid}
use Rattle.jc_types.specs.declared.objects.Job.{Job}
use Rattle.jc_types.specs.declared.objects.Phase.{Phase}
use Rattle.jc_types.specs.declared.objects.Phase.TheVariants as phase
use Rattle.jc_types.specs.declared.objects.Pod.{Pod}
use Rattle.jc_types.specs.declared.policies.FailurePolicy.{FailurePolicy}
use Rattle.jc_types.specs.declared.specifications.JobSpec.{JobSpec}
use Rattle.jc_types.specs.declared.statuses.JobStatus.{JobStatus}
use Rattle.jc_types.specs.Keys.{same_uid}
use Rattle.jc_types.proofs.ListFacts.{Each-both, Each-filter, Each-passes, Each-weaker, any_map, filter_filter}
use Rattle.jc_states.specs.declared.bases.Basis.{Basis}
use Rattle.jc_states.specs.Bases.{is_own, own_pods}
use Rattle.jc_states.specs.Listed.{is_listed}
use Rattle.jc_states.specs.Owners.{is_foreign}
use Rattle.jc_states.specs.PodLists.{IsRising, RisesFrom}
use Rattle.jc_states.specs.Pods.{is_active, is_final, is_marked, is_open, is_tracked, is_tracked_active, tracked_active_pods}
use Rattle.jc_states.specs.UidLists.{is_in, uids_of}
use Rattle.jc_states.proofs.PodListFacts.{rises_filter}
use Rattle.jc_failpol.specs.declared.outcomes.Outcome.{Outcome}
use Rattle.jc_failpol.specs.declared.outcomes.Outcome.TheVariants as outcome
use Rattle.jc_failpol.specs.Outcomes.{counts_marked, failure_of, has_ended_badly, is_failed, is_ignore, is_succeeded, is_verdict, outcome_of, same_outcome}
use Rattle.jc_failpol.specs.Rules.{action_of}
use Rattle.jc_account.specs.Accounts.{counted_in}
use Rattle.jc_account.specs.Judged.{fits, is_candidate, is_left_over, is_to_release, to_release}
use Rattle.jc_manage.specs.Creations.{job_wants}
use Rattle.jc_manage.specs.LetGoes.{going, is_let_go, is_needless, is_to_mark, seen}
use Rattle.jc_plan.specs.declared.plans.Planned.{Planned}
use Rattle.jc_plan.specs.PodNumbers.{is_let_go_of}
use Rattle.jc_plan.specs.Plans.{planned}
use Rattle.jc_plan.specs.Releases.{is_orphan, is_owed, is_released, due_uids}
use Rattle.jc_plan.specs.Statuses.{accounted, decided_in, is_end_decided}
use Rattle.jc_plan.proofs.PlanFacts.{plan-let_goes, plan-marks, plan-releases}
use Rattle.jc_making.specs.Grants.{Becomes, AllBecome, Nothing, Stays, Goes, frees}
use Rattle.jc_making.proofs.Lists.{passes-in}

-- ---- outcomes

-- A pod has succeeded just where its phase says so.
pub success-is : (spec : JobSpec) (pod : Pod) → same_outcome (outcome_of spec pod) outcome.Succeeded ≡ is_succeeded pod.phase
success-is spec pod = by (is_succeeded pod.phase) (has_ended_badly spec.replacement pod) spec.failure
  where
    by : (s b : Bool) (failure : Option FailurePolicy) → same_outcome (cond s outcome.Succeeded (cond b (failure_of failure pod) outcome.Alive)) outcome.Succeeded ≡ s
    by true b f = refl
    by false false f = refl
    by false true None = refl
    by false true (Some policy) = either (is_ignore (action_of policy pod))
      where
        either : (i : Bool) → same_outcome (cond i outcome.Ignored outcome.Failed) outcome.Succeeded ≡ false
        either true = refl
        either false = refl

-- An open pod has not.
pub open-not : (p : Phase) → is_final p ≡ false → is_succeeded p ≡ false
open-not phase.Pending e = refl
open-not phase.Running e = refl
open-not phase.Succeeded e = absurd (true≢false e)
open-not phase.Failed e = refl

pub active-not : (spec : JobSpec) (pod : Pod) → is_active pod ≡ true → same_outcome (outcome_of spec pod) outcome.Succeeded ≡ false
active-not spec pod h = success-is spec pod ∙ open-not pod.phase (by (is_final pod.phase) (is_marked pod) h)
  where
    by : (f m : Bool) → (not f && not m) ≡ true → f ≡ false
    by true m e = absurd (true≢false (sym e))
    by false m e = refl

-- An active pod is alive.
pub active-alive : (spec : JobSpec) (pod : Pod) → is_active pod ≡ true → same_outcome (outcome_of spec pod) outcome.Alive ≡ true
active-alive spec pod h = by pod.phase (is_marked pod) (counts_marked spec.replacement) h
  where
    by : (p : Phase) (m c : Bool) → (not (is_final p) && not m) ≡ true → same_outcome (cond (is_succeeded p) outcome.Succeeded (cond (is_failed p || (c && m)) (failure_of spec.failure pod) outcome.Alive)) outcome.Alive ≡ true
    by p true c e = absurd (never (is_final p) e)
      where
        never : (b : Bool) → (not b && false) ≡ true → ⊥
        never true e = true≢false (sym e)
        never false e = true≢false (sym e)
    by phase.Pending false true e = refl
    by phase.Pending false false e = refl
    by phase.Running false true e = refl
    by phase.Running false false e = refl
    by phase.Succeeded false c e = absurd (true≢false (sym e))
    by phase.Failed false c e = absurd (true≢false (sym e))

-- Where a pod is active no pod in its phase passes.
abbrev pub Ended : (Pod → Bool) → Type 0
Ended test = (p q : Pod) → q.phase ≡ p.phase → is_active p ≡ true → test q ≡ false

pub success-ended : (spec : JobSpec) → Ended (λ pod. same_outcome (outcome_of spec pod) outcome.Succeeded)
success-ended spec p q same active = success-is spec q ∙ ap is_succeeded same ∙ sym (success-is spec p) ∙ active-not spec p active

-- ---- what becomes of pods that pass

-- What is known of a pod: its successor passes the second test where it passes the first, and then is the pod itself; and it
-- does not pass where it loses its finalizer.
abbrev pub Known : Planned → (Pod → Bool) → (Pod → Bool) → Pod → Type 0
Known plan test then p =
    ((q : Pod) → Becomes plan p q → (then q ≡ test p) × (test p ≡ true → q ≡ p)) × (frees plan p.uid ≡ true → test p ≡ false)

-- So those that pass then are those that pass now.
pub follow-filter : (plan : Planned) (test then : Pod → Bool) (pods after : List Pod) → Each (Known plan test then) pods → AllBecome plan pods after → filter then after ≡ filter test pods
follow-filter plan test then [] [] h Nothing = refl
follow-filter plan test then [] (q ∷ after) h follow = elim follow [ ]
follow-filter plan test then (p ∷ pods) (q ∷ after) h (Stays _ _ _ _ is rest) = by (test p) refl (follow-filter plan test then pods after h.1 rest)
  where
    known : (then q ≡ test p) × (test p ≡ true → q ≡ p)
    known = h.0.0 q is

    by : (b : Bool) → test p ≡ b → filter then after ≡ filter test pods → filter then (q ∷ after) ≡ cond b (p ∷ filter test pods) (filter test pods)
    by true e ih = ap (λ b. cond b (q ∷ filter then after) (filter then after)) (known.0 ∙ e) ∙ (λ i. known.1 e i ∷ ih i)
    by false e ih = ap (λ b. cond b (q ∷ filter then after) (filter then after)) (known.0 ∙ e) ∙ ih
follow-filter plan test then (p ∷ pods) after h (Goes _ _ _ freed rest) =
    follow-filter plan test then pods after h.1 rest ∙ ap (λ b. cond b (p ∷ filter test pods) (filter test pods)) (sym (h.0.1 freed))

-- ---- what the plan does to each

module _ (job : Job) (basis : Basis) (this : basis.job ≡ Some job) (rises : IsRising basis.pods) where
  abbrev pub own : List Pod
  own = own_pods job basis.pods

  pub own-rises : RisesFrom 0 own
  own-rises = rises_filter 0 (is_own job) basis.pods rises

  abbrev pub settled : Bool
  settled = is_end_decided job (decided_in job basis)

  -- The pod is let go.
  abbrev pub goes_now : Pod → Bool
  goes_now p =
      is_tracked_active p
      && (not settled && (job.spec.suspend || is_let_go job.spec.mode (is_needless (unwrap_or job.spec.completions 0) (accounted job basis)) (job_wants job own (accounted job basis)) (tracked_active_pods own) p))

  pub marks-are : Each (λ p. is_in p.uid (planned basis).marks ≡ is_to_mark settled p) own
  marks-are = passes-in (is_to_mark settled) (planned basis).marks own own-rises (plan-marks basis job this)

  going-is : going settled job own (accounted job basis) ≡ filter goes_now own
  going-is = by settled job.spec.suspend
    where
      chosen : Pod → Bool
      chosen = is_let_go job.spec.mode (is_needless (unwrap_or job.spec.completions 0) (accounted job basis)) (job_wants job own (accounted job basis)) (tracked_active_pods own)

      by : (t s : Bool) → cond t [] (cond s (filter is_tracked_active own) (filter chosen (filter is_tracked_active own))) ≡ filter (λ p. is_tracked_active p && (not t && (s || chosen p))) own
      by true s = none own
        where
          none : (pods : List Pod) → [] ≡ filter (λ p. is_tracked_active p && false) pods
          none [] = refl
          none (p ∷ pods) = none pods ∙ ap (λ b. cond b (p ∷ filter (λ p. is_tracked_active p && false) pods) (filter (λ p. is_tracked_active p && false) pods)) (sym (and-false (is_tracked_active p)))
            where
              and-false : (b : Bool) → (b && false) ≡ false
              and-false true = refl
              and-false false = refl
      by false true = λ i. filter (λ p. sym (and-true (is_tracked_active p)) i) own
        where
          and-true : (b : Bool) → (b && true) ≡ b
          and-true true = refl
          and-true false = refl
      by false false = filter_filter chosen is_tracked_active own

  pub lets-are : Each (λ p. is_let_go_of p.uid (planned basis).let_goes ≡ goes_now p) own
  lets-are =
      Each-weaker (λ p. is_in p.uid (uids_of (filter goes_now own)) ≡ goes_now p) (λ p. is_let_go_of p.uid (planned basis).let_goes ≡ goes_now p)
      (λ p h. ap (is_let_go_of p.uid) (plan-let_goes basis job this ∙ ap (map seen) going-is) ∙ any_map seen (λ row. same_uid row.0 p.uid) (filter goes_now own) ∙ sym (any_map (λ (q : Pod). q.uid) (λ v. same_uid v p.uid) (filter goes_now own)) ∙ h)
      own (passes-in goes_now (uids_of (filter goes_now own)) own own-rises refl)

  due-is : due_uids basis.job basis.pods ≡ uids_of (to_release job own)
  unfolding counted_in
  due-is = ap (λ o. due_uids o basis.pods) this

  pub releases-are : Each (λ p. is_in p.uid (planned basis).releases ≡ is_to_release job own p) own
  releases-are =
      Each-weaker (λ p. (is_own job p ≡ true) × ((is_in p.uid (planned basis).releases ≡ is_released basis p) × (is_in p.uid (uids_of (to_release job own)) ≡ is_to_release job own p)))
      (λ p. is_in p.uid (planned basis).releases ≡ is_to_release job own p)
      (λ p h. h.1.0 ∙ one p h.0 h.1.1) own
      (Each-both (λ p. is_own job p ≡ true) (λ p. (is_in p.uid (planned basis).releases ≡ is_released basis p) × (is_in p.uid (uids_of (to_release job own)) ≡ is_to_release job own p)) own
      (Each-passes (is_own job) basis.pods)
      (Each-both (λ p. is_in p.uid (planned basis).releases ≡ is_released basis p) (λ p. is_in p.uid (uids_of (to_release job own)) ≡ is_to_release job own p) own
      (Each-filter (λ p. is_in p.uid (planned basis).releases ≡ is_released basis p) (is_own job) basis.pods (passes-in (is_released basis) (planned basis).releases basis.pods rises (plan-releases basis)))
      (passes-in (is_to_release job own) (uids_of (to_release job own)) own own-rises refl)))
    where
      one : (p : Pod) → is_own job p ≡ true → is_in p.uid (uids_of (to_release job own)) ≡ is_to_release job own p → is_released basis p ≡ is_to_release job own p
      one p mine due =
          ap (λ us. is_owed us p || is_orphan basis p) due-is
          ∙ ap (λ b. (is_tracked p && b) || is_orphan basis p) due
          ∙ ap (λ o. (is_tracked p && is_to_release job own p) || (is_tracked p && (is_foreign o p && Rattle.std.specs.Prelude.nat_le p.version.0 basis.jobs_at.0))) this
          ∙ ap (λ b. (is_tracked p && is_to_release job own p) || (is_tracked p && (not b && Rattle.std.specs.Prelude.nat_le p.version.0 basis.jobs_at.0))) mine
          ∙ by (is_tracked p) ((not (same_outcome (outcome_of job.spec p) outcome.Alive) && not (is_left_over job own p)) || is_listed job.status p.uid)
        where
          by : (t b : Bool) → ((t && (t && b)) || (t && false)) ≡ (t && b)
          by true true = refl
          by true false = refl
          by false b = refl

  -- ---- what is counted anew

  -- By a test that no pod passes that was active when the plan was made.
  module _ (status : JobStatus) (none_s : status.uncounted_succeeded ≡ []) (none_f : status.uncounted_failed ≡ []) (test : Pod → Bool) (ended : Ended test) where
    abbrev later : Job
    later = record job { status = status }

    unlisted : (u : Uid) → is_listed status u ≡ false
    unlisted u = (λ i. is_in u (none_s i) || is_in u (none_f i))

    -- It is left over.
    abbrev pub stays_new : Pod → Bool
    stays_new p = is_left_over job own p && test p

    -- It is to be judged then.
    abbrev anew : Pod → Bool
    anew p = is_candidate later p && test p

    abbrev News : Pod → Type 0
    News p = Known (planned basis) stays_new anew p

    news-of : (p : Pod) → is_in p.uid (planned basis).releases ≡ is_to_release job own p → is_in p.uid (planned basis).marks ≡ is_to_mark settled p → is_let_go_of p.uid (planned basis).let_goes ≡ goes_now p → News p
    news-of p r m l = (successor, lost)
      where
        -- By what is known of the pod: tracked, active, of a verdict, alive, listed, fitting, and of the test.
        freed-old : (tr ac ve al li fi su go : Bool) → (ac ≡ true → su ≡ false) → ((tr && ((not al && not ((tr && (ve && not li)) && not fi)) || li)) || ((ac && tr) && go)) ≡ true → (((tr && (ve && not li)) && not fi) && su) ≡ false
        freed-old false ac ve al li fi su go a h = refl
        freed-old true ac ve al li fi false go a h = and-false ((ve && not li) && not fi)
          where
            and-false : (b : Bool) → (b && false) ≡ false
            and-false true = refl
            and-false false = refl
        freed-old true true ve al li fi true go a h = absurd (true≢false (a refl))
        freed-old true false false al li fi true go a h = refl
        freed-old true false true al true fi true go a h = refl
        freed-old true false true al false true true go a h = refl
        freed-old true false true true false false true go a h = absurd (true≢false (sym h))
        freed-old true false true false false false true go a h = absurd (true≢false (sym h))

        lost : frees (planned basis) p.uid ≡ true → stays_new p ≡ false
        lost h =
            freed-old (is_tracked p) (is_active p) (is_verdict (outcome_of job.spec p)) (same_outcome (outcome_of job.spec p) outcome.Alive) (is_listed job.status p.uid) (fits job own p) (test p)
            (not settled && (job.spec.suspend || is_let_go job.spec.mode (is_needless (unwrap_or job.spec.completions 0) (accounted job basis)) (job_wants job own (accounted job basis)) (tracked_active_pods own) p))
            (ended p p refl) ((λ i. sym r i || sym l i) ∙ h)

        untracked : (q : Pod) → q.tracked ≡ false → anew q ≡ false
        untracked q e = ap (λ b. (b && (is_verdict (outcome_of job.spec q) && not (is_listed status q.uid))) && test q) e

        failing : (q : Pod) → test q ≡ false → anew q ≡ false
        failing q e = ap (λ b. is_candidate later q && b) e ∙ and-false (is_candidate later q)
          where
            and-false : (b : Bool) → (b && false) ≡ false
            and-false true = refl
            and-false false = refl

        -- Of a pod that is not touched.
        kept-old : (o : Outcome) (tr li fi su : Bool) → (tr && ((not (same_outcome o outcome.Alive) && not ((tr && (is_verdict o && not li)) && not fi)) || li)) ≡ false
            → ((tr && (is_verdict o && true)) && su) ≡ (((tr && (is_verdict o && not li)) && not fi) && su)
        kept-old o false li fi su h = refl
        kept-old outcome.Alive true li fi su h = refl
        kept-old outcome.Ignored true li fi su h = refl
        kept-old outcome.Succeeded true li fi su h = settles li fi h
          where
            settles : (li fi : Bool) → (not (not li && not fi) || li) ≡ false → su ≡ ((not li && not fi) && su)
            settles true fi e = absurd (true≢false e)
            settles false true e = absurd (true≢false e)
            settles false false e = refl
        kept-old outcome.Failed true li fi su h = settles li fi h
          where
            settles : (li fi : Bool) → (not (not li && not fi) || li) ≡ false → su ≡ ((not li && not fi) && su)
            settles true fi e = absurd (true≢false e)
            settles false true e = absurd (true≢false e)
            settles false false e = refl

        either-false : (a b c : Bool) → ((a || b) || c) ≡ false → (a ≡ false) × ((b ≡ false) × (c ≡ false))
        either-false true b c e = absurd (true≢false e)
        either-false false true c e = absurd (true≢false e)
        either-false false false true e = absurd (true≢false e)
        either-false false false false e = (refl, (refl, refl))

        successor : (q : Pod) → Becomes (planned basis) p q → (anew q ≡ stays_new p) × (stays_new p ≡ true → q ≡ p)
        successor q is = by (frees (planned basis) p.uid) refl (is_in p.uid (planned basis).marks) refl
          where
            never : anew q ≡ false → stays_new p ≡ false → (anew q ≡ stays_new p) × (stays_new p ≡ true → q ≡ p)
            never a b = (a ∙ sym b, λ h. absurd (true≢false (sym h ∙ b)))

            by : (f : Bool) → frees (planned basis) p.uid ≡ f → (k : Bool) → is_in p.uid (planned basis).marks ≡ k → (anew q ≡ stays_new p) × (stays_new p ≡ true → q ≡ p)
            by true f k h = never (untracked q (is.freed f)) (lost f)
            by false f true h = never (failing q (ended p q is.phase active)) (ap (λ b. is_left_over job own p && b) (ended p p refl active) ∙ and-false (is_left_over job own p))
              where
                and-false : (b : Bool) → (b && false) ≡ false
                and-false true = refl
                and-false false = refl

                active : is_active p ≡ true
                active = (and_parts (is_active p) (settled || not (is_tracked p)) (sym m ∙ h)).0
            by false f false h =
                let e = is.same ((λ i. f i || h i)) in (
                  ap anew e
                      ∙ ap (λ b. (is_tracked p && (is_verdict (outcome_of job.spec p) && not b)) && test p) (unlisted p.uid)
                      ∙ kept-old (outcome_of job.spec p) (is_tracked p) (is_listed job.status p.uid) (fits job own p) (test p)
                      (sym r ∙ (either-false (is_in p.uid (planned basis).releases)
                      (is_let_go_of p.uid (planned basis).let_goes) (is_in p.uid (planned basis).marks)
                      (λ i. f i || h i)).0),
                  λ k. e,
                )

    news-each : Each News own
    news-each =
        Each-weaker (λ p. (is_in p.uid (planned basis).releases ≡ is_to_release job own p)
        × ((is_in p.uid (planned basis).marks ≡ is_to_mark settled p)
        × (is_let_go_of p.uid (planned basis).let_goes ≡ goes_now p))) News (λ p h. news-of p h.0 h.1.0 h.1.1) own
        (Each-both (λ p. is_in p.uid (planned basis).releases ≡ is_to_release job own p) (λ p. (is_in p.uid (planned basis).marks ≡ is_to_mark settled p) × (is_let_go_of p.uid (planned basis).let_goes ≡ goes_now p)) own releases-are
        (Each-both (λ p. is_in p.uid (planned basis).marks ≡ is_to_mark settled p) (λ p. is_let_go_of p.uid (planned basis).let_goes ≡ goes_now p) own marks-are lets-are))

    pub news-left : (after : List Pod) → AllBecome (planned basis) own after → filter (λ p. is_candidate later p && test p) after ≡ filter stays_new own
    news-left after follow = follow-filter (planned basis) stays_new anew own after news-each follow

  -- ---- what stays active

  module _ (undecided : settled ≡ false) (ended : Each (λ p. is_listed job.status p.uid ≡ true → is_active p ≡ false) own) where
    -- The pod stays active, with its finalizer.
    abbrev pub stays_active : Pod → Bool
    stays_active p = is_tracked_active p && not (goes_now p)

    activity-of : (p : Pod) → is_in p.uid (planned basis).releases ≡ is_to_release job own p → is_in p.uid (planned basis).marks ≡ is_to_mark settled p → is_let_go_of p.uid (planned basis).let_goes ≡ goes_now p
        → (is_listed job.status p.uid ≡ true → is_active p ≡ false) → Known (planned basis) stays_active is_tracked_active p
    activity-of p r m l listed = (successor, lost)
      where
        freed-old : (tr ac al li lo go : Bool) → (ac ≡ true → al ≡ true) → (li ≡ true → ac ≡ false) → ((tr && ((not al && lo) || li)) || go) ≡ true → ((ac && tr) && not go) ≡ false
        freed-old tr false al li lo go a b h = refl
        freed-old false true al li lo go a b h = refl
        freed-old true true al li lo true a b h = refl
        freed-old true true al true lo false a b h = absurd (true≢false (b refl))
        freed-old true true true false lo false a b h = absurd (true≢false (sym h))
        freed-old true true false false lo false a b h = absurd (true≢false (sym (a refl)))

        lost : frees (planned basis) p.uid ≡ true → stays_active p ≡ false
        lost h =
            freed-old (is_tracked p) (is_active p) (same_outcome (outcome_of job.spec p) outcome.Alive) (is_listed job.status p.uid) (not (is_left_over job own p)) (goes_now p)
            (active-alive job.spec p) listed ((λ i. sym r i || sym l i) ∙ h)

        both-false : (a b : Bool) → (a || b) ≡ false → (a ≡ false) × (b ≡ false)
        both-false true b e = absurd (true≢false e)
        both-false false b e = (refl, e)

        and-false : (b : Bool) → (b && false) ≡ false
        and-false true = refl
        and-false false = refl

        successor : (q : Pod) → Becomes (planned basis) p q → (is_tracked_active q ≡ stays_active p) × (stays_active p ≡ true → q ≡ p)
        successor q is = by (frees (planned basis) p.uid) refl (is_in p.uid (planned basis).marks) refl
          where
            never : is_tracked_active q ≡ false → stays_active p ≡ false → (is_tracked_active q ≡ stays_active p) × (stays_active p ≡ true → q ≡ p)
            never a b = (a ∙ sym b, λ h. absurd (true≢false (sym h ∙ b)))

            by : (f : Bool) → frees (planned basis) p.uid ≡ f → (k : Bool) → is_in p.uid (planned basis).marks ≡ k → (is_tracked_active q ≡ stays_active p) × (stays_active p ≡ true → q ≡ p)
            by true f k h = never (ap (λ b. is_active q && b) (is.freed f) ∙ and-false (is_active q)) (lost f)
            by false f true h =
                never (ap (λ b. (is_open q && not b) && is_tracked q) (is.marked h) ∙ ap (λ b. b && is_tracked q) (and-false (is_open q)))
                (unmarkable (is_active p) (is_tracked p) (goes_now p) (sym (ap (λ s. is_active p && (s || not (is_tracked p))) undecided) ∙ sym m ∙ h))
              where
                unmarkable : (ac tr go : Bool) → (ac && (false || not tr)) ≡ true → ((ac && tr) && not go) ≡ false
                unmarkable false tr go e = refl
                unmarkable true false go e = refl
                unmarkable true true go e = absurd (true≢false (sym e))
            by false f false h =
                let e = is.same (λ i. f i || h i) in
                (ap is_tracked_active e ∙ sym (ap (λ b. is_tracked_active p && not b) (sym l ∙ (both-false (is_in p.uid (planned basis).releases) (is_let_go_of p.uid (planned basis).let_goes) f).1) ∙ and-true (is_tracked_active p)), λ k. e)
              where
                and-true : (b : Bool) → (b && true) ≡ b
                and-true true = refl
                and-true false = refl

    pub active-left : (after : List Pod) → AllBecome (planned basis) own after → tracked_active_pods after ≡ filter stays_active own
    active-left after follow = follow-filter (planned basis) stays_active is_tracked_active own after each follow
      where
        each : Each (Known (planned basis) stays_active is_tracked_active) own
        each =
            Each-weaker (λ p. (is_in p.uid (planned basis).releases ≡ is_to_release job own p)
            × ((is_in p.uid (planned basis).marks ≡ is_to_mark settled p)
            × ((is_let_go_of p.uid (planned basis).let_goes ≡ goes_now p)
            × (is_listed job.status p.uid ≡ true → is_active p ≡ false))))
            (Known (planned basis) stays_active is_tracked_active) (λ p h. activity-of p h.0 h.1.0 h.1.1.0 h.1.1.1) own
            (Each-both (λ p. is_in p.uid (planned basis).releases ≡ is_to_release job own p)
            (λ p. (is_in p.uid (planned basis).marks ≡ is_to_mark settled p)
            × ((is_let_go_of p.uid (planned basis).let_goes ≡ goes_now p)
            × (is_listed job.status p.uid ≡ true → is_active p ≡ false))) own releases-are
            (Each-both (λ p. is_in p.uid (planned basis).marks ≡ is_to_mark settled p) (λ p. (is_let_go_of p.uid (planned basis).let_goes ≡ goes_now p) × (is_listed job.status p.uid ≡ true → is_active p ≡ false)) own marks-are
            (Each-both (λ p. is_let_go_of p.uid (planned basis).let_goes ≡ goes_now p) (λ p. is_listed job.status p.uid ≡ true → is_active p ≡ false) own lets-are ended)))
