-- The tests of equality that compute are exact: each answers true just where its two values are equal.
use Rattle.std.proofs.Common.{◌≡◌, ℕ, Bool, true, false, ◌↔◌, cond, eqb, nat_eq, Option, Some, None, refl, ap, sym, ◌∙◌, subst, true≢false}
use Rattle.std.specs.Prelude.{IsTrue}
use Rattle.std.specs.Ordering.{int_eq}
use Rattle.std.specs.Cmp.Lexicographic.{pointwise, pointwise_decides}
use Rattle.std.proofs.lemmas.Bool.{eqb-true, eq-eqb, and_parts, and_from}
use Rattle.std.proofs.lemmas.Bool.Decides.{Decides-int_eq}
use Rattle.jc_types.specs.declared.objects.Container.{Container}
use Rattle.jc_types.specs.declared.policies.Pattern.{Pattern}
use Rattle.jc_types.specs.declared.policies.Truth.{Truth}
use Rattle.jc_types.specs.declared.policies.Truth.TheVariants as truth
use Rattle.jc_types.specs.declared.statuses.CondKind.{CondKind}
use Rattle.jc_types.specs.declared.statuses.CondKind.TheVariants.{Suspended, FailureTarget, SuccessCriteriaMet, Failed, Complete}
use Rattle.jc_types.specs.declared.statuses.Condition.{Condition}
use Rattle.jc_types.specs.declared.statuses.IndexCount.{IndexCount}
use Rattle.jc_types.specs.declared.statuses.JobStatus.{JobStatus}
use Rattle.jc_types.specs.declared.statuses.Reason.{Reason}
use Rattle.jc_types.specs.declared.statuses.Reason.TheVariants.{BackoffLimitExceeded, DeadlineExceeded, PodFailurePolicy, SuccessPolicy, CompletionsReached, JobSuspended, JobResumed, MaxFailedIndexesExceeded, FailedIndexes}
use Rattle.jc_types.specs.Keys.{same_uid}
pub use Rattle.jc_types.specs.Equality.{IsExact}
use Rattle.jc_types.specs.Equality.{same_bool, same_option, kind_place, same_kind, reason_place, same_condition, same_counts, same_index_count, same_indexes, same_lists, same_status, same_container, truth_place, same_pattern}
use Rattle.jc_types.proofs.KeyFacts.{same_uid-eq, same_uid-itself}

-- A test that implies equality, and holds of each value with itself, is exact.
pub exact_from : {A : Type 0} (same : A → A → Bool) → ((a b : A) → same a b ≡ true → a ≡ b) → ((a : A) → same a a ≡ true) → IsExact same
exact_from same equal itself a b = (equal a b, λ e. subst (λ x. same a x ≡ true) e (itself a))

-- What says whether two values are equal is the test.
pub same_from_exact : {A : Type 0} (same : A → A → Bool) → IsExact same → (r : Bool) (a b : A) → IsTrue r ↔ (a ≡ b) → r ≡ same a b
same_from_exact same exact r a b h = by r (same a b) h.0 h.1 (exact a b).0 (exact a b).1
  where
    by : (r s : Bool) → (IsTrue r → a ≡ b) → (a ≡ b → IsTrue r) → (s ≡ true → a ≡ b) → (a ≡ b → s ≡ true) → r ≡ s
    by true true f g h k = refl
    by true false f g h k = sym (k (f refl))
    by false true f g h k = g (h refl)
    by false false f g h k = refl

-- ---- numbers, UIDs and options

pub nat-exact : IsExact nat_eq
nat-exact a b = (eqb-true a b, eq-eqb a b)

pub int-exact : IsExact int_eq
int-exact a b = Decides-int_eq a b

pub uid-exact : IsExact same_uid
uid-exact = exact_from same_uid same_uid-eq same_uid-itself

pub bool-exact : IsExact same_bool
bool-exact = exact_from same_bool equal itself
  where
    equal : (a b : Bool) → same_bool a b ≡ true → a ≡ b
    equal true b e = sym e
    equal false true e = absurd (true≢false (sym e))
    equal false false e = refl

    itself : (a : Bool) → same_bool a a ≡ true
    itself true = refl
    itself false = refl

pub option-exact : {A : Type 0} (same : A → A → Bool) → IsExact same → IsExact (same_option same)
option-exact {A} same exact = exact_from (same_option same) equal itself
  where
    equal : (a b : Option A) → same_option same a b ≡ true → a ≡ b
    equal None None e = refl
    equal None (Some b) e = absurd (true≢false (sym e))
    equal (Some a) None e = absurd (true≢false (sym e))
    equal (Some a) (Some b) e = ap Some ((exact a b).0 e)

    itself : (a : Option A) → same_option same a a ≡ true
    itself None = refl
    itself (Some a) = (exact a a).1 refl

-- ---- conditions

-- The kind at a place.
kind_at : ℕ → CondKind
kind_at n =
    cond (eqb n 0) Suspended (cond (eqb n 1) FailureTarget (cond (eqb n 2) SuccessCriteriaMet (cond (eqb n 3) Failed Complete)))

kind_at-place : (kind : CondKind) → kind_at (kind_place kind) ≡ kind
unfolding kind_at
kind_at-place Suspended = refl
kind_at-place FailureTarget = refl
kind_at-place SuccessCriteriaMet = refl
kind_at-place Failed = refl
kind_at-place Complete = refl

pub kind-exact : IsExact same_kind
kind-exact = exact_from same_kind equal (λ a. eq-eqb (kind_place a) (kind_place a) refl)
  where
    equal : (a b : CondKind) → same_kind a b ≡ true → a ≡ b
    equal a b e = sym (kind_at-place a) ∙ ap kind_at (eqb-true (kind_place a) (kind_place b) e) ∙ kind_at-place b

-- The reason at a place.
reason_at : ℕ → Reason
reason_at n =
    cond (eqb n 0) BackoffLimitExceeded (cond (eqb n 1) DeadlineExceeded (cond (eqb n 2) PodFailurePolicy
    (cond (eqb n 3) SuccessPolicy (cond (eqb n 4) CompletionsReached (cond (eqb n 5) JobSuspended
    (cond (eqb n 6) JobResumed (cond (eqb n 7) MaxFailedIndexesExceeded FailedIndexes)))))))

reason_at-place : (reason : Reason) → reason_at (reason_place reason) ≡ reason
unfolding reason_at
reason_at-place BackoffLimitExceeded = refl
reason_at-place DeadlineExceeded = refl
reason_at-place PodFailurePolicy = refl
reason_at-place SuccessPolicy = refl
reason_at-place CompletionsReached = refl
reason_at-place JobSuspended = refl
reason_at-place JobResumed = refl
reason_at-place MaxFailedIndexesExceeded = refl
reason_at-place FailedIndexes = refl

reason-equal : (a b : Reason) → eqb (reason_place a) (reason_place b) ≡ true → a ≡ b
reason-equal a b e =
    sym (reason_at-place a) ∙ ap reason_at (eqb-true (reason_place a) (reason_place b) e) ∙ reason_at-place b

pub condition-exact : IsExact same_condition
condition-exact = exact_from same_condition equal itself
  where
    equal : (a b : Condition) → same_condition a b ≡ true → a ≡ b
    equal a b e =
        let p = and_parts (same_kind a.kind b.kind) _ e in
        let q = and_parts (same_bool a.status b.status) _ p.1 in
        let r = and_parts (eqb (reason_place a.reason) (reason_place b.reason)) _ q.1 in
        λ i. record {
          kind = (kind-exact a.kind b.kind).0 p.0 i;
          status = (bool-exact a.status b.status).0 q.0 i;
          reason = reason-equal a.reason b.reason r.0 i;
          since = eqb-true a.since b.since r.1 i;
        }

    itself : (a : Condition) → same_condition a a ≡ true
    itself a =
        and_from (same_kind a.kind a.kind) _ ((kind-exact a.kind a.kind).1 refl)
        (and_from (same_bool a.status a.status) _ ((bool-exact a.status a.status).1 refl)
        (and_from (eqb (reason_place a.reason) (reason_place a.reason)) _ (eq-eqb (reason_place a.reason) (reason_place a.reason) refl)
        (eq-eqb a.since a.since refl)))

-- ---- statuses

-- Two lists of UIDs are the same just where they are equal; so of indexes and of conditions.
uids-exact : IsExact (pointwise same_uid)
uids-exact = pointwise_decides uid-exact

indexes-exact : IsExact (pointwise nat_eq)
indexes-exact = pointwise_decides nat-exact

index_count-exact : IsExact same_index_count
index_count-exact = exact_from same_index_count equal itself
  where
    equal : (a b : IndexCount) → same_index_count a b ≡ true → a ≡ b
    equal a b e =
        let p = and_parts (eqb a.index b.index) _ e in
        let q = and_parts (eqb a.failures b.failures) _ p.1 in
        λ i. record {
          index = eqb-true a.index b.index p.0 i;
          failures = eqb-true a.failures b.failures q.0 i;
          fail = (bool-exact a.fail b.fail).0 q.1 i;
        }

    itself : (a : IndexCount) → same_index_count a a ≡ true
    itself a =
        and_from (eqb a.index a.index) _ (eq-eqb a.index a.index refl)
        (and_from (eqb a.failures a.failures) _ (eq-eqb a.failures a.failures refl) ((bool-exact a.fail a.fail).1 refl))

failures-exact : IsExact (pointwise same_index_count)
failures-exact = pointwise_decides index_count-exact

conditions-exact : IsExact (pointwise same_condition)
conditions-exact = pointwise_decides condition-exact

pub numbers-exact : IsExact (same_option nat_eq)
numbers-exact = option-exact nat_eq nat-exact

same_status-equal : (a b : JobStatus) → same_status a b ≡ true → a ≡ b
same_status-equal a b e =
    let p = and_parts (same_counts a b) _ e in
    let l = and_parts (same_lists a b) _ p.1 in
    let c1 = and_parts (eqb a.active b.active) _ p.0 in
    let c2 = and_parts (eqb a.ready b.ready) _ c1.1 in
    let c3 = and_parts (eqb a.terminating b.terminating) _ c2.1 in
    let c4 = and_parts (eqb a.succeeded b.succeeded) _ c3.1 in
    let l1 = and_parts (same_indexes a b) _ l.0 in
    let x1 = and_parts (pointwise nat_eq a.completed b.completed) _ l1.0 in
    let x2 = and_parts (pointwise nat_eq a.failed_indexes b.failed_indexes) _ x1.1 in
    let l2 = and_parts (pointwise same_uid a.uncounted_succeeded b.uncounted_succeeded) _ l1.1 in
    let m1 = and_parts (same_option nat_eq a.start b.start) _ l.1 in
    let m2 = and_parts (same_option nat_eq a.completion b.completion) _ m1.1 in
    λ i. record {
      active = eqb-true a.active b.active c1.0 i;
      ready = eqb-true a.ready b.ready c2.0 i;
      terminating = eqb-true a.terminating b.terminating c3.0 i;
      succeeded = eqb-true a.succeeded b.succeeded c4.0 i;
      failed = eqb-true a.failed b.failed c4.1 i;
      completed = (indexes-exact a.completed b.completed).0 x1.0 i;
      failed_indexes = (indexes-exact a.failed_indexes b.failed_indexes).0 x2.0 i;
      index_failures = (failures-exact a.index_failures b.index_failures).0 x2.1 i;
      uncounted_succeeded = (uids-exact a.uncounted_succeeded b.uncounted_succeeded).0 l2.0 i;
      uncounted_failed = (uids-exact a.uncounted_failed b.uncounted_failed).0 l2.1 i;
      start = (numbers-exact a.start b.start).0 m1.0 i;
      completion = (numbers-exact a.completion b.completion).0 m2.0 i;
      conditions = (conditions-exact a.conditions b.conditions).0 m2.1 i;
    }

same_status-itself : (a : JobStatus) → same_status a a ≡ true
same_status-itself a =
    and_from (same_counts a a) _
    (and_from (eqb a.active a.active) _ (eq-eqb a.active a.active refl)
    (and_from (eqb a.ready a.ready) _ (eq-eqb a.ready a.ready refl)
    (and_from (eqb a.terminating a.terminating) _ (eq-eqb a.terminating a.terminating refl)
    (and_from (eqb a.succeeded a.succeeded) _ (eq-eqb a.succeeded a.succeeded refl)
    (eq-eqb a.failed a.failed refl)))))
    (and_from (same_lists a a) _
    (and_from (same_indexes a a) _
    (and_from (pointwise nat_eq a.completed a.completed) _ ((indexes-exact a.completed a.completed).1 refl)
    (and_from (pointwise nat_eq a.failed_indexes a.failed_indexes) _ ((indexes-exact a.failed_indexes a.failed_indexes).1 refl)
    ((failures-exact a.index_failures a.index_failures).1 refl)))
    (and_from (pointwise same_uid a.uncounted_succeeded a.uncounted_succeeded) _ ((uids-exact a.uncounted_succeeded a.uncounted_succeeded).1 refl)
    ((uids-exact a.uncounted_failed a.uncounted_failed).1 refl)))
    (and_from (same_option nat_eq a.start a.start) _ ((numbers-exact a.start a.start).1 refl)
    (and_from (same_option nat_eq a.completion a.completion) _ ((numbers-exact a.completion a.completion).1 refl)
    ((conditions-exact a.conditions a.conditions).1 refl))))

pub status-exact : IsExact same_status
status-exact = exact_from same_status same_status-equal same_status-itself

-- ---- containers and the conditions of pods

pub container-exact : IsExact same_container
container-exact = exact_from same_container equal itself
  where
    exits : IsExact (same_option int_eq)
    exits = option-exact int_eq int-exact

    equal : (a b : Container) → same_container a b ≡ true → a ≡ b
    equal a b e =
        let p = and_parts (pointwise nat_eq a.name b.name) _ e in
        let q = and_parts (same_bool a.init b.init) _ p.1 in
        let r = and_parts (same_option int_eq a.exit b.exit) _ q.1 in
        λ i. record {
          name = (indexes-exact a.name b.name).0 p.0 i;
          init = (bool-exact a.init b.init).0 q.0 i;
          exit = (exits a.exit b.exit).0 r.0 i;
          restarts = eqb-true a.restarts b.restarts r.1 i;
        }

    itself : (a : Container) → same_container a a ≡ true
    itself a =
        and_from (pointwise nat_eq a.name a.name) _ ((indexes-exact a.name a.name).1 refl)
        (and_from (same_bool a.init a.init) _ ((bool-exact a.init a.init).1 refl)
        (and_from (same_option int_eq a.exit a.exit) _ ((exits a.exit a.exit).1 refl)
        (eq-eqb a.restarts a.restarts refl)))

-- The truth at a place.
truth_at : ℕ → Truth
truth_at n = cond (eqb n 0) truth.True (cond (eqb n 1) truth.False truth.Unknown)

truth_at-place : (t : Truth) → truth_at (truth_place t) ≡ t
unfolding truth_at
truth_at-place truth.True = refl
truth_at-place truth.False = refl
truth_at-place truth.Unknown = refl

pub pattern-exact : IsExact same_pattern
pattern-exact = exact_from same_pattern equal itself
  where
    equal : (a b : Pattern) → same_pattern a b ≡ true → a ≡ b
    equal a b e =
        let p = and_parts (pointwise nat_eq a.kind b.kind) _ e in
        λ i. record {
          kind = (indexes-exact a.kind b.kind).0 p.0 i;
          truth = (sym (truth_at-place a.truth) ∙ ap truth_at (eqb-true (truth_place a.truth) (truth_place b.truth) p.1) ∙ truth_at-place b.truth) i;
        }

    itself : (a : Pattern) → same_pattern a a ≡ true
    itself a =
        and_from (pointwise nat_eq a.kind a.kind) _ ((indexes-exact a.kind a.kind).1 refl)
        (eq-eqb (truth_place a.truth) (truth_place a.truth) refl)

-- Lists of containers, and of conditions of pods, are the same just where they are equal.
pub containers-exact : IsExact (pointwise same_container)
containers-exact = pointwise_decides container-exact

pub patterns-exact : IsExact (pointwise same_pattern)
patterns-exact = pointwise_decides pattern-exact
