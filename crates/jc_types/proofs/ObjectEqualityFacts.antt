-- The tests of equality of specifications, Jobs and pods are exact.
use Rattle.std.proofs.Common.{◌≡◌, ℕ, true, cond, eqb, nat_eq, refl, ap, sym, ◌∙◌, true≢false}
use Rattle.std.specs.Ordering.{int_eq}
use Rattle.std.specs.Cmp.Lexicographic.{pointwise, pointwise_decides}
use Rattle.std.proofs.lemmas.Bool.{eqb-true, eq-eqb, and_parts, and_from}
use Rattle.jc_types.specs.declared.objects.Job.{Job}
use Rattle.jc_types.specs.declared.objects.Phase.{Phase}
use Rattle.jc_types.specs.declared.objects.Phase.TheVariants.{Pending, Running, Succeeded, Failed}
use Rattle.jc_types.specs.declared.objects.Pod.{Pod}
use Rattle.jc_types.specs.declared.policies.Action.{Action}
use Rattle.jc_types.specs.declared.policies.Action.TheVariants.{FailJob, Ignore, Count, FailIndex}
use Rattle.jc_types.specs.declared.policies.FailurePolicy.{FailurePolicy}
use Rattle.jc_types.specs.declared.policies.FailureRule.{FailureRule}
use Rattle.jc_types.specs.declared.policies.Operator.{Operator}
use Rattle.jc_types.specs.declared.policies.Operator.TheVariants.{Within, NotWithin}
use Rattle.jc_types.specs.declared.policies.Requirement.{Requirement}
use Rattle.jc_types.specs.declared.policies.Requirement.TheVariants.{ExitCodes, Conditions}
use Rattle.jc_types.specs.declared.policies.SuccessPolicy.{SuccessPolicy}
use Rattle.jc_types.specs.declared.policies.SuccessRule.{SuccessRule}
use Rattle.jc_types.specs.declared.specifications.JobSpec.{JobSpec}
use Rattle.jc_types.specs.declared.specifications.Mode.{Mode}
use Rattle.jc_types.specs.declared.specifications.Mode.TheVariants.{NonIndexed, Indexed}
use Rattle.jc_types.specs.declared.specifications.Replacement.{Replacement}
use Rattle.jc_types.specs.declared.specifications.Replacement.TheVariants.{TerminatingOrFailed, FailedOnly}
use Rattle.jc_types.specs.declared.specifications.Restart.{Restart}
use Rattle.jc_types.specs.declared.specifications.Restart.TheVariants.{Never, OnFailure}
use Rattle.jc_types.specs.declared.specifications.Template.{Template}
use Rattle.jc_types.specs.declared.syncs.Backoff.{Backoff}
use Rattle.jc_types.specs.Keys.{same_key, same_uid}
use Rattle.jc_types.specs.Equality.{same_bool, same_option, same_text, same_pattern, same_container, operator_place, action_place, mode_place, replacement_place, restart_place, phase_place, same_requirement, same_failure_rule, same_failure}
use Rattle.jc_types.specs.Equality.{same_success_rule, same_success, same_template, same_index_limits, same_limits, same_kinds, same_spec, same_job, same_origin, same_pod, same_backoff}
use Rattle.jc_types.proofs.KeyFacts.{same_key-eq, same_key-itself}
use Rattle.jc_types.proofs.EqualityFacts.{IsExact, bool-exact, containers-exact, exact_from, int-exact, nat-exact, numbers-exact, option-exact, patterns-exact, status-exact, uid-exact}

-- Two values with the same place are equal, where the place tells the value.
equal_by : {A : Type 0} (place : A → ℕ) (at : ℕ → A) → ((a : A) → at (place a) ≡ a) → (a b : A)
    → eqb (place a) (place b) ≡ true → a ≡ b
equal_by place at back a b e = sym (back a) ∙ ap at (eqb-true (place a) (place b) e) ∙ back b

operator-equal : (a b : Operator) → eqb (operator_place a) (operator_place b) ≡ true → a ≡ b
operator-equal = equal_by operator_place (λ n. cond (eqb n 0) Within NotWithin) back
  where
    back : (a : Operator) → cond (eqb (operator_place a) 0) Within NotWithin ≡ a
    back Within = refl
    back NotWithin = refl

action_at : ℕ → Action
action_at n = cond (eqb n 0) FailJob (cond (eqb n 1) Ignore (cond (eqb n 2) Count FailIndex))

action_at-place : (a : Action) → action_at (action_place a) ≡ a
unfolding action_at
action_at-place FailJob = refl
action_at-place Ignore = refl
action_at-place Count = refl
action_at-place FailIndex = refl

action-equal : (a b : Action) → eqb (action_place a) (action_place b) ≡ true → a ≡ b
action-equal = equal_by action_place action_at action_at-place

mode-equal : (a b : Mode) → eqb (mode_place a) (mode_place b) ≡ true → a ≡ b
mode-equal = equal_by mode_place (λ n. cond (eqb n 0) NonIndexed Indexed) back
  where
    back : (a : Mode) → cond (eqb (mode_place a) 0) NonIndexed Indexed ≡ a
    back NonIndexed = refl
    back Indexed = refl

replacement-equal : (a b : Replacement) → eqb (replacement_place a) (replacement_place b) ≡ true → a ≡ b
replacement-equal = equal_by replacement_place (λ n. cond (eqb n 0) TerminatingOrFailed FailedOnly) back
  where
    back : (a : Replacement) → cond (eqb (replacement_place a) 0) TerminatingOrFailed FailedOnly ≡ a
    back TerminatingOrFailed = refl
    back FailedOnly = refl

restart-equal : (a b : Restart) → eqb (restart_place a) (restart_place b) ≡ true → a ≡ b
restart-equal = equal_by restart_place (λ n. cond (eqb n 0) Never OnFailure) back
  where
    back : (a : Restart) → cond (eqb (restart_place a) 0) Never OnFailure ≡ a
    back Never = refl
    back OnFailure = refl

phase_at : ℕ → Phase
phase_at n = cond (eqb n 0) Pending (cond (eqb n 1) Running (cond (eqb n 2) Succeeded Failed))

phase_at-place : (a : Phase) → phase_at (phase_place a) ≡ a
unfolding phase_at
phase_at-place Pending = refl
phase_at-place Running = refl
phase_at-place Succeeded = refl
phase_at-place Failed = refl

phase-equal : (a b : Phase) → eqb (phase_place a) (phase_place b) ≡ true → a ≡ b
phase-equal = equal_by phase_place phase_at phase_at-place

-- A number is the same as itself.
pub same_number : (n : ℕ) → eqb n n ≡ true
same_number n = eq-eqb n n refl

-- ---- parts

text-exact : IsExact same_text
text-exact = pointwise_decides nat-exact

texts-exact : IsExact (pointwise same_text)
texts-exact = pointwise_decides text-exact

names-exact : IsExact (same_option same_text)
names-exact = option-exact same_text text-exact

codes-exact : IsExact (pointwise int_eq)
codes-exact = pointwise_decides int-exact

sets-exact : IsExact (same_option (pointwise nat_eq))
sets-exact = option-exact (pointwise nat_eq) text-exact

key-exact : IsExact same_key
key-exact = exact_from same_key same_key-eq same_key-itself

-- ---- policies

requirement-exact : IsExact same_requirement
requirement-exact = exact_from same_requirement equal itself
  where
    equal : (a b : Requirement) → same_requirement a b ≡ true → a ≡ b
    equal (ExitCodes c o v) (ExitCodes c' o' v') e =
        let p = and_parts (same_option same_text c c') _ e in
        let q = and_parts (eqb (operator_place o) (operator_place o')) _ p.1 in
        λ i. ExitCodes ((names-exact c c').0 p.0 i) (operator-equal o o' q.0 i) ((codes-exact v v').0 q.1 i)
    equal (ExitCodes c o v) (Conditions ps) e = absurd (true≢false (sym e))
    equal (Conditions ps) (ExitCodes c o v) e = absurd (true≢false (sym e))
    equal (Conditions ps) (Conditions qs) e = ap Conditions ((patterns-exact ps qs).0 e)

    itself : (a : Requirement) → same_requirement a a ≡ true
    itself (ExitCodes c o v) =
        and_from (same_option same_text c c) _ ((names-exact c c).1 refl)
        (and_from (eqb (operator_place o) (operator_place o)) _ (same_number (operator_place o)) ((codes-exact v v).1 refl))
    itself (Conditions ps) = (patterns-exact ps ps).1 refl

failure_rule-exact : IsExact same_failure_rule
failure_rule-exact = exact_from same_failure_rule equal itself
  where
    equal : (a b : FailureRule) → same_failure_rule a b ≡ true → a ≡ b
    equal a b e =
        let p = and_parts (eqb (action_place a.action) (action_place b.action)) _ e in
        λ i. record {
          action = action-equal a.action b.action p.0 i;
          requirement = (requirement-exact a.requirement b.requirement).0 p.1 i;
        }

    itself : (a : FailureRule) → same_failure_rule a a ≡ true
    itself a =
        and_from (eqb (action_place a.action) (action_place a.action)) _ (same_number (action_place a.action))
        ((requirement-exact a.requirement a.requirement).1 refl)

failure-exact : IsExact same_failure
failure-exact = exact_from same_failure equal itself
  where
    equal : (a b : FailurePolicy) → same_failure a b ≡ true → a ≡ b
    equal a b e = λ i. record { rules = (pointwise_decides failure_rule-exact a.rules b.rules).0 e i }

    itself : (a : FailurePolicy) → same_failure a a ≡ true
    itself a = (pointwise_decides failure_rule-exact a.rules a.rules).1 refl

success_rule-exact : IsExact same_success_rule
success_rule-exact = exact_from same_success_rule equal itself
  where
    equal : (a b : SuccessRule) → same_success_rule a b ≡ true → a ≡ b
    equal a b e =
        let p = and_parts (same_option (pointwise nat_eq) a.indexes b.indexes) _ e in
        λ i. record {
          indexes = (sets-exact a.indexes b.indexes).0 p.0 i;
          count = (numbers-exact a.count b.count).0 p.1 i;
        }

    itself : (a : SuccessRule) → same_success_rule a a ≡ true
    itself a =
        and_from (same_option (pointwise nat_eq) a.indexes a.indexes) _ ((sets-exact a.indexes a.indexes).1 refl)
        ((numbers-exact a.count a.count).1 refl)

success-exact : IsExact same_success
success-exact = exact_from same_success equal itself
  where
    equal : (a b : SuccessPolicy) → same_success a b ≡ true → a ≡ b
    equal a b e = λ i. record { rules = (pointwise_decides success_rule-exact a.rules b.rules).0 e i }

    itself : (a : SuccessPolicy) → same_success a a ≡ true
    itself a = (pointwise_decides success_rule-exact a.rules a.rules).1 refl

template-exact : IsExact same_template
template-exact = exact_from same_template equal itself
  where
    equal : (a b : Template) → same_template a b ≡ true → a ≡ b
    equal a b e =
        let p = and_parts (eqb (restart_place a.restart) (restart_place b.restart)) _ e in
        let q = and_parts (pointwise same_text a.containers b.containers) _ p.1 in
        λ i. record {
          restart = restart-equal a.restart b.restart p.0 i;
          containers = (texts-exact a.containers b.containers).0 q.0 i;
          inits = (texts-exact a.inits b.inits).0 q.1 i;
        }

    itself : (a : Template) → same_template a a ≡ true
    itself a =
        and_from (eqb (restart_place a.restart) (restart_place a.restart)) _ (same_number (restart_place a.restart))
        (and_from (pointwise same_text a.containers a.containers) _ ((texts-exact a.containers a.containers).1 refl)
        ((texts-exact a.inits a.inits).1 refl))

-- ---- specifications

same_spec-equal : (a b : JobSpec) → same_spec a b ≡ true → a ≡ b
same_spec-equal a b e =
    let p = and_parts (same_limits a b) _ e in
    let l1 = and_parts (eqb a.parallelism b.parallelism) _ p.0 in
    let l2 = and_parts (same_option nat_eq a.completions b.completions) _ l1.1 in
    let l3 = and_parts (same_bool a.suspend b.suspend) _ l2.1 in
    let l4 = and_parts (same_option nat_eq a.deadline b.deadline) _ l3.1 in
    let k1 = and_parts (eqb (mode_place a.mode) (mode_place b.mode)) _ p.1 in
    let k2 = and_parts (eqb (replacement_place a.replacement) (replacement_place b.replacement)) _ k1.1 in
    let kx = and_parts (same_index_limits a b) _ k2.1 in
    let x = and_parts (same_option nat_eq a.per_index b.per_index) _ kx.0 in
    let k3 = and_parts (same_option same_failure a.failure b.failure) _ kx.1 in
    let k4 = and_parts (same_option same_success a.success b.success) _ k3.1 in
    λ i. record {
      parallelism = eqb-true a.parallelism b.parallelism l1.0 i;
      completions = (numbers-exact a.completions b.completions).0 l2.0 i;
      mode = mode-equal a.mode b.mode k1.0 i;
      suspend = (bool-exact a.suspend b.suspend).0 l3.0 i;
      backoff_limit = eqb-true a.backoff_limit b.backoff_limit l4.1 i;
      per_index = (numbers-exact a.per_index b.per_index).0 x.0 i;
      max_failed = (numbers-exact a.max_failed b.max_failed).0 x.1 i;
      deadline = (numbers-exact a.deadline b.deadline).0 l4.0 i;
      replacement = replacement-equal a.replacement b.replacement k2.0 i;
      failure = (option-exact same_failure failure-exact a.failure b.failure).0 k3.0 i;
      success = (option-exact same_success success-exact a.success b.success).0 k4.0 i;
      template = (template-exact a.template b.template).0 k4.1 i;
    }

same_limits-itself : (a : JobSpec) → same_limits a a ≡ true
same_limits-itself a =
    and_from (eqb a.parallelism a.parallelism) _ (same_number a.parallelism)
    (and_from (same_option nat_eq a.completions a.completions) _ ((numbers-exact a.completions a.completions).1 refl)
    (and_from (same_bool a.suspend a.suspend) _ ((bool-exact a.suspend a.suspend).1 refl)
    (and_from (same_option nat_eq a.deadline a.deadline) _ ((numbers-exact a.deadline a.deadline).1 refl)
    (same_number a.backoff_limit))))

same_kinds-itself : (a : JobSpec) → same_kinds a a ≡ true
same_kinds-itself a =
    and_from (eqb (mode_place a.mode) (mode_place a.mode)) _ (same_number (mode_place a.mode))
    (and_from (eqb (replacement_place a.replacement) (replacement_place a.replacement)) _ (same_number (replacement_place a.replacement))
    (and_from (same_index_limits a a) _
    (and_from (same_option nat_eq a.per_index a.per_index) _ ((numbers-exact a.per_index a.per_index).1 refl) ((numbers-exact a.max_failed a.max_failed).1 refl))
    (and_from (same_option same_failure a.failure a.failure) _ ((option-exact same_failure failure-exact a.failure a.failure).1 refl)
    (and_from (same_option same_success a.success a.success) _ ((option-exact same_success success-exact a.success a.success).1 refl)
    ((template-exact a.template a.template).1 refl)))))

pub spec-exact : IsExact same_spec
spec-exact =
    exact_from same_spec same_spec-equal
    (λ a. and_from (same_limits a a) _ (same_limits-itself a) (same_kinds-itself a))

-- ---- Jobs, pods, bases

pub job-exact : IsExact same_job
job-exact = exact_from same_job equal itself
  where
    equal : (a b : Job) → same_job a b ≡ true → a ≡ b
    equal a b e =
        let p1 = and_parts (same_key a.key b.key) _ e in
        let p2 = and_parts (same_uid a.uid b.uid) _ p1.1 in
        let p3 = and_parts (eqb a.version.0 b.version.0) _ p2.1 in
        let p4 = and_parts (eqb a.created b.created) _ p3.1 in
        let p5 = and_parts (same_spec a.spec b.spec) _ p4.1 in
        λ i. record {
          key = (key-exact a.key b.key).0 p1.0 i;
          uid = (uid-exact a.uid b.uid).0 p2.0 i;
          version = record { 0 = eqb-true a.version.0 b.version.0 p3.0 i };
          created = eqb-true a.created b.created p4.0 i;
          spec = (spec-exact a.spec b.spec).0 p5.0 i;
          status = (status-exact a.status b.status).0 p5.1 i;
        }

    itself : (a : Job) → same_job a a ≡ true
    itself a =
        and_from (same_key a.key a.key) _ ((key-exact a.key a.key).1 refl)
        (and_from (same_uid a.uid a.uid) _ ((uid-exact a.uid a.uid).1 refl)
        (and_from (eqb a.version.0 a.version.0) _ (same_number a.version.0)
        (and_from (eqb a.created a.created) _ (same_number a.created)
        (and_from (same_spec a.spec a.spec) _ ((spec-exact a.spec a.spec).1 refl)
        ((status-exact a.status a.status).1 refl)))))

same_pod-equal : (a b : Pod) → same_pod a b ≡ true → a ≡ b
same_pod-equal a b e =
    let p = and_parts (same_origin a b) _ e in
    let o1 = and_parts (same_uid a.uid b.uid) _ p.0 in
    let o2 = and_parts (same_key a.owner b.owner) _ o1.1 in
    let o3 = and_parts (same_uid a.owner_uid b.owner_uid) _ o2.1 in
    let o4 = and_parts (eqb a.serial b.serial) _ o3.1 in
    let o5 = and_parts (same_option nat_eq a.index b.index) _ o4.1 in
    let o6 = and_parts (eqb (restart_place a.restart) (restart_place b.restart)) _ o5.1 in
    let s1 = and_parts (eqb a.version.0 b.version.0) _ p.1 in
    let s2 = and_parts (eqb (phase_place a.phase) (phase_place b.phase)) _ s1.1 in
    let s3 = and_parts (pointwise same_container a.containers b.containers) _ s2.1 in
    let s4 = and_parts (pointwise same_pattern a.conditions b.conditions) _ s3.1 in
    let s5 = and_parts (same_option nat_eq a.marked b.marked) _ s4.1 in
    λ i. record {
      uid = (uid-exact a.uid b.uid).0 o1.0 i;
      version = record { 0 = eqb-true a.version.0 b.version.0 s1.0 i };
      owner = (key-exact a.owner b.owner).0 o2.0 i;
      owner_uid = (uid-exact a.owner_uid b.owner_uid).0 o3.0 i;
      serial = eqb-true a.serial b.serial o4.0 i;
      index = (numbers-exact a.index b.index).0 o5.0 i;
      restart = restart-equal a.restart b.restart o6.0 i;
      phase = phase-equal a.phase b.phase s2.0 i;
      containers = (containers-exact a.containers b.containers).0 s3.0 i;
      conditions = (patterns-exact a.conditions b.conditions).0 s4.0 i;
      marked = (numbers-exact a.marked b.marked).0 s5.0 i;
      tracked = (bool-exact a.tracked b.tracked).0 s5.1 i;
      created = eqb-true a.created b.created o6.1 i;
    }

same_pod-itself : (a : Pod) → same_pod a a ≡ true
same_pod-itself a =
    and_from (same_origin a a) _
    (and_from (same_uid a.uid a.uid) _ ((uid-exact a.uid a.uid).1 refl)
    (and_from (same_key a.owner a.owner) _ ((key-exact a.owner a.owner).1 refl)
    (and_from (same_uid a.owner_uid a.owner_uid) _ ((uid-exact a.owner_uid a.owner_uid).1 refl)
    (and_from (eqb a.serial a.serial) _ (same_number a.serial)
    (and_from (same_option nat_eq a.index a.index) _ ((numbers-exact a.index a.index).1 refl)
    (and_from (eqb (restart_place a.restart) (restart_place a.restart)) _ (same_number (restart_place a.restart))
    (same_number a.created)))))))
    (and_from (eqb a.version.0 a.version.0) _ (same_number a.version.0)
    (and_from (eqb (phase_place a.phase) (phase_place a.phase)) _ (same_number (phase_place a.phase))
    (and_from (pointwise same_container a.containers a.containers) _ ((containers-exact a.containers a.containers).1 refl)
    (and_from (pointwise same_pattern a.conditions a.conditions) _ ((patterns-exact a.conditions a.conditions).1 refl)
    (and_from (same_option nat_eq a.marked a.marked) _ ((numbers-exact a.marked a.marked).1 refl)
    ((bool-exact a.tracked a.tracked).1 refl))))))

pub pod-exact : IsExact same_pod
pod-exact = exact_from same_pod same_pod-equal same_pod-itself

pub backoff-exact : IsExact same_backoff
backoff-exact = exact_from same_backoff equal itself
  where
    equal : (a b : Backoff) → same_backoff a b ≡ true → a ≡ b
    equal a b e =
        let p = and_parts (eqb a.failures b.failures) _ e in
        λ i. record {
          failures = eqb-true a.failures b.failures p.0 i;
          last = (numbers-exact a.last b.last).0 p.1 i;
        }

    itself : (a : Backoff) → same_backoff a a ≡ true
    itself a = and_from (eqb a.failures a.failures) _ (same_number a.failures) ((numbers-exact a.last a.last).1 refl)
