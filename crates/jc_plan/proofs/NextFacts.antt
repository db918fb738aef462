-- The status that a plan leaves is the next status of its Job.
use Rattle.std.proofs.Common.{◌≡◌, ◌⊎◌, inl, inr, ◌↔◌, ℕ, ◌+◌, nat_le, Bool, true, false, cond, not, ◌&&◌, ◌||◌, List, [], map, filter, length, Option, Some, None, IsSome, is_some, unwrap_or, refl, sym, ap, ◌∙◌, subst, arith}
use Rattle.std.specs.Prelude.{IsTrue}
use Rattle.std.specs.List.{range_with_len, list_any}
use Rattle.std.proofs.lemmas.List.{nil_from_length}
use Rattle.std.proofs.lemmas.Bool.{and_parts}
use Rattle.jc_ranges.specs.Sets.{has}
use Rattle.jc_types.specs.declared.numbers.Uid.{Uid}
use Rattle.jc_types.specs.declared.objects.Job.{Job}
use Rattle.jc_types.specs.declared.objects.Pod.{Pod}
use Rattle.jc_types.specs.declared.specifications.Mode.{Mode}
use Rattle.jc_types.specs.declared.specifications.Mode.TheVariants.{NonIndexed, Indexed}
use Rattle.jc_types.specs.declared.statuses.CondKind.{CondKind}
use Rattle.jc_types.specs.declared.statuses.JobStatus.{JobStatus}
use Rattle.jc_types.specs.declared.statuses.Reason.{Reason}
use Rattle.jc_types.specs.declared.syncs.Backoff.{Backoff}
use Rattle.jc_states.specs.declared.bases.Basis.{Basis}
use Rattle.jc_types.specs.declared.syncs.CountIn.{CountIn}
use Rattle.jc_states.specs.Bases.{own_pods}
use Rattle.jc_states.specs.Conditions.{has_end, has_target}
use Rattle.jc_types.specs.Counts.{counts}
use Rattle.jc_states.specs.PodLists.{IsRising}
use Rattle.jc_states.specs.Pods.{is_open, ending_pods, tracked_active_pods}
use Rattle.jc_types.specs.Equality.{same_status}
use Rattle.jc_types.proofs.EqualityFacts.{same_from_exact, status-exact}
use Rattle.jc_account.specs.Accounts.{completed_in, counted_in, counted_out}
use Rattle.jc_account.specs.Judged.{newly}
use Rattle.jc_account.specs.Modes.{succeeded_after}
use Rattle.jc_account.proofs.AccountFacts.{empty-in, failed-all-out, failed-list-empty, failed-sum, failed-total, indexed-total, left-failed, left-succeeded, new-failed, succeeded-all-out, succeeded-list-empty, succeeded-sum, succeeded-total}
use Rattle.jc_failpol.specs.declared.outcomes.Outcome.TheVariants.{Succeeded}
use Rattle.jc_finish.proofs.DecisionFacts.{decided_same}
use Rattle.jc_finish.specs.Settled.{end_of, with_last}
use Rattle.jc_finish.proofs.SettledFacts.{settled-ends, settled-not_due}
use Rattle.jc_manage.specs.declared.results.Wants.{Wants}
use Rattle.jc_manage.specs.Backoffs.{failures_after, last_after, opening}
use Rattle.jc_manage.specs.Creations.{creates, holds, keepers, lacking, new_pods, next, wanted}
use Rattle.jc_manage.specs.LetGoes.{marks, seen, surplus}
use Rattle.jc_perindex.specs.Failures.{filled_counts}
use Rattle.jc_plan.specs.Next.{next_counted, next_decided, next_status, next_wants}
use Rattle.jc_plan.specs.PodNumbers.{active_after, ending_after, ready_after}
use Rattle.jc_plan.specs.Plans.{changed, planned, planned_for}
use Rattle.jc_plan.specs.Statuses.{accounted, completed_at, conditions_at, first_status_of, first_value, decided_in, is_first_due, is_none, is_over, is_second_due, is_end_decided, leaves_none, lists_none, second_value, wants_at, wants_in}
use Rattle.jc_plan.proofs.Targets.{IsTarget, target-kind}

and-true : (b : Bool) → (b && true) ≡ b
and-true true = refl
and-true false = refl

-- ---- what is wanted depends on what is counted by these numbers alone

module _ (now : ℕ) (backoff : Backoff) (job : Job) (own : List Pod) where
  abbrev backoff_by : ℕ → ℕ → Backoff
  backoff_by nf ns = record { failures = failures_after backoff.failures nf ns; last = last_after backoff.last now nf ns }

  abbrev wanted_by : ℕ → List ℕ → ℕ
  wanted_by s failing = wanted job.spec.parallelism job.spec.completions s (length failing) (length (tracked_active_pods own))

  abbrev made_by : Bool → ℕ → List ℕ → List ℕ → List (Option ℕ)
  made_by target s set failing =
      cond (target || job.spec.suspend) []
      (new_pods job.spec.mode (lacking job.spec.replacement (wanted_by s failing) (length (tracked_active_pods own)) (length (ending_pods own)))
      (filter (λ n. not (has n set || has n failing) && not (holds (keepers job.spec.replacement own) n)) (range_with_len 0 (unwrap_or job.spec.completions 0))))

  abbrev wants_by : Bool → ℕ → List ℕ → List ℕ → ℕ → ℕ → Wants
  wants_by target s set failing nf ns = record {
    creates = creates (opening (backoff_by nf ns)) now (made_by target s set failing);
    marks = marks target own;
    let_goes =
        map seen (cond target [] (cond job.spec.suspend (tracked_active_pods own)
        (surplus job.spec.mode (λ n. (has n set || has n failing) || nat_le (unwrap_or job.spec.completions 0) n) (wanted_by s failing) (tracked_active_pods own))));
    next = next (opening (backoff_by nf ns)) now (made_by target s set failing);
    backoff = backoff_by nf ns;
  }

  wants-by : (target : Bool) (counted : CountIn) → wants_at now backoff target job own counted ≡ wants_by target (counts counted).1 counted.completed counted.failed_indexes counted.new_failed counted.new_succeeded
  wants-by target counted = refl

-- ---- the counts agree

module _ (job : Job) (pods : List Pod) (rises : IsRising pods) (tidy : job.spec.mode ≡ Indexed → job.status.uncounted_succeeded ≡ []) where
  pub completed-is : (counted_in job pods).completed ≡ (next_counted job (own_pods job pods)).completed
  unfolding counted_in
  completed-is = refl

  -- The failed indexes, and the failures of each.
  pub failing-is : (filled_counts job (own_pods job pods) (counted_in job pods)).failed_indexes ≡ (next_counted job (own_pods job pods)).failed_indexes
  unfolding counted_in
  failing-is = refl

  pub failures-are : (filled_counts job (own_pods job pods) (counted_in job pods)).index_failures ≡ (next_counted job (own_pods job pods)).index_failures
  unfolding counted_in
  failures-are = refl

  pub gain-is : (counted_in job pods).new_succeeded ≡ (next_counted job (own_pods job pods)).new_succeeded
  unfolding counted_in
  gain-is = refl

  pub failed-is : (counts (counted_in job pods)).0 ≡ (counts (next_counted job (own_pods job pods))).0
  failed-is = omega (arith, failed-sum job pods rises, left-failed job pods)

  -- As many are left over.
  pub leaves-is : leaves_none (counted_in job pods) ≡ leaves_none (next_counted job (own_pods job pods))
  unfolding counted_in
  leaves-is = refl

  pub succeeded-is : (counts (counted_in job pods)).1 ≡ (counts (next_counted job (own_pods job pods))).1
  succeeded-is = by job.spec.mode refl
    where
      by : (mode : Mode) → job.spec.mode ≡ mode → (counts (counted_in job pods)).1 ≡ (counts (next_counted job (own_pods job pods))).1
      by NonIndexed at =
          omega (
            arith,
            succeeded-sum job pods at rises,
            left-succeeded job pods,
            ap (λ (m : Mode). succeeded_after m (job.status.succeeded + length job.status.uncounted_succeeded + length (newly job (own_pods job pods) Succeeded)) (completed_in job (own_pods job pods))) at,
          )
      by Indexed at =
          omega (
            arith,
            indexed-total job pods at,
            left-succeeded job pods,
            ap length (empty-in job pods at (tidy at)),
            ap length completed-is,
            ap (λ (m : Mode). succeeded_after m (job.status.succeeded + length job.status.uncounted_succeeded + length (newly job (own_pods job pods) Succeeded)) (completed_in job (own_pods job pods))) at,
          )

-- ---- the second status is the next

-- The end of the second status is due where the Job is over.
second-over : (over : Bool) (us uf : List Uid) → us ≡ [] → uf ≡ [] → (over && lists_none us uf) ≡ over
second-over over us uf e f =
    ap (λ (vs : List Uid). over && lists_none vs uf) e ∙ ap (λ (vs : List Uid). over && lists_none [] vs) f ∙ and-true over

module _ (job : Job) (basis : Basis) (rises : IsRising basis.pods) (tidy : job.spec.mode ≡ Indexed → job.status.uncounted_succeeded ≡ []) where
  target-is : decided_in job basis ≡ next_decided basis.now job (own_pods job basis.pods)
  target-is =
      decided_same (accounted job basis) (next_counted job (own_pods job basis.pods)) basis.now job (own_pods job basis.pods)
      (failed-is job basis.pods rises tidy) (succeeded-is job basis.pods rises tidy) (completed-is job basis.pods rises tidy) (failing-is job basis.pods rises tidy)

  wants-are : wants_in job basis ≡ next_wants basis.now basis.backoff job (own_pods job basis.pods)
  wants-are =
      λ i. wants_by basis.now basis.backoff job (own_pods job basis.pods) (is_end_decided job (target-is i))
      (succeeded-is job basis.pods rises tidy i) (completed-is job basis.pods rises tidy i)
      (failing-is job basis.pods rises tidy i) (new-failed job basis.pods i) (gain-is job basis.pods rises tidy i)

  pub second-next : second_value job basis ≡ next_status basis.now basis.backoff job (own_pods job basis.pods)
  unfolding second_value next_status counted_out
  second-next =
      let own = own_pods job basis.pods in
      let counted = accounted job basis in
      let first = first_status_of basis.now job own counted (decided_in job basis) (wants_in job basis) in
      let out = counted_out first counted.releases in
      let left_s : counted.left_succeeded ≡ (next_counted job own).left_succeeded = left-succeeded job basis.pods in
      let left_f : counted.left_failed ≡ (next_counted job own).left_failed = left-failed job basis.pods in
      let e_us : out.uncounted_succeeded ≡ [] = succeeded-list-empty job basis.pods first refl in
      let e_uf : out.uncounted_failed ≡ [] = failed-list-empty job basis.pods first refl in
      let e_s : out.succeeded ≡ (next_counted job own).succeeded =
      omega (arith, succeeded-all-out job basis.pods first refl, succeeded-is job basis.pods rises tidy, left_s) in
      let e_f : out.failed ≡ (next_counted job own).failed =
      omega (arith, failed-all-out job basis.pods first refl, failed-is job basis.pods rises tidy, left_f) in
      let e_due : is_second_due (is_end_decided job (decided_in job basis)) own counted out ≡ is_over (is_end_decided job (next_decided basis.now job own)) own (next_counted job own) =
      second-over (is_over (is_end_decided job (decided_in job basis)) own counted) out.uncounted_succeeded out.uncounted_failed e_us e_uf
      ∙ ap (λ (g : Option (CondKind × Reason)). is_over (is_end_decided job g) own counted) target-is
      ∙ ap (λ (b : Bool). is_end_decided job (next_decided basis.now job own) && (not (list_any is_open own) && b)) (leaves-is job basis.pods rises tidy) in
      λ i. record {
        active = active_after (wants-are i) own;
        ready = ready_after (wants-are i) own;
        terminating = ending_after (wants-are i) own;
        succeeded = e_s i;
        failed = e_f i;
        completed = completed-is job basis.pods rises tidy i;
        failed_indexes = failing-is job basis.pods rises tidy i;
        index_failures = failures-are job basis.pods rises tidy i;
        uncounted_succeeded = e_us i;
        uncounted_failed = e_uf i;
        start = first.start;
        completion = completed_at basis.now job.status (conditions_at basis.now job (target-is i) (e_due i));
        conditions = conditions_at basis.now job (target-is i) (e_due i);
      }

-- ---- the last status

pub changed-or : (old new : JobStatus) → unwrap_or (changed old new) old ≡ new
changed-or old new = by (same_status old new) refl
  where
    by : (b : Bool) → same_status old new ≡ b → unwrap_or (cond b None (Some new)) old ≡ new
    by true e = (status-exact old new).0 e
    by false e = refl

module _ (job : Job) (basis : Basis) (this : basis.job ≡ Some job) where
  -- The second status where it is written, else the first where it is, and else that of the Job: it is the second value.
  pub last-second : unwrap_or (planned basis).second (unwrap_or (planned basis).first job.status) ≡ second_value job basis
  unfolding planned
  last-second =
      subst (λ (o : Option Job). unwrap_or (planned_for basis o).second (unwrap_or (planned_for basis o).first job.status) ≡ second_value job basis) (sym this)
      (ap (λ (s : JobStatus). unwrap_or (changed (first_value job basis) (second_value job basis)) s) (changed-or job.status (first_value job basis))
      ∙ changed-or (first_value job basis) (second_value job basis))

-- ---- nothing is written just where the Job is there already

-- Where both statuses differ by their ends alone, and the second is that of the Job, the end stood.
same-conditions : (now : ℕ) (job : Job) (target : Option (CondKind × Reason)) (over d1 d2 : Bool)
    → IsTarget target
    → (over ≡ true → is_end_decided job target ≡ true)
    → d2 ≡ over
    → (d1 ≡ true → over ≡ true)
    → conditions_at now job target d2 ≡ job.status.conditions
    → conditions_at now job target d1 ≡ conditions_at now job target d2
same-conditions now job target over d1 d2 is_kind settles e imp stood = by d1 over refl refl
  where
    parts : is_end_decided job target ≡ true → (has_target job.status.conditions ≡ true) ⊎ IsSome target
    parts h = one (has_target job.status.conditions) refl h
      where
        one : (b : Bool) → has_target job.status.conditions ≡ b → (b || is_some target) ≡ true → (has_target job.status.conditions ≡ true) ⊎ IsSome target
        one true t g = inl t
        one false t g = inr g

    stood_ended : over ≡ true → conditions_at now job target true ≡ job.status.conditions → has_end job.status.conditions ≡ true
    stood_ended o s =
        sym (ap has_end s) ∙ settled-ends now job.spec.suspend target job.status.conditions is_kind (parts (settles o))

    idle : has_end job.status.conditions ≡ true → conditions_at now job target true ≡ conditions_at now job target false
    idle h =
        ap (λ (b : Bool). cond (true && not b) (with_last (end_of now (conditions_at now job target false)) (conditions_at now job target false)) (conditions_at now job target false))
        (settled-not_due now job.spec.suspend target job.status.conditions is_kind ∙ h)

    by : (a o : Bool) → d1 ≡ a → over ≡ o → conditions_at now job target d1 ≡ conditions_at now job target d2
    by true o f g = ap (conditions_at now job target) (f ∙ sym (e ∙ imp f))
    by false false f g = ap (conditions_at now job target) (f ∙ sym (e ∙ g))
    by false true f g =
        ap (conditions_at now job target) f
        ∙ sym (idle (stood_ended g (ap (conditions_at now job target) (sym (e ∙ g)) ∙ stood)))
        ∙ ap (conditions_at now job target) (sym (e ∙ g))

module _ (job : Job) (basis : Basis) (tidy : job.spec.mode ≡ Indexed → job.status.uncounted_succeeded ≡ []) (stays : second_value job basis ≡ job.status) where
  failed-none : (counted_in job basis.pods).uncounted_failed ≡ []
  unfolding second_value
  failed-none =
      nil_from_length (counted_in job basis.pods).uncounted_failed
      (omega (
        arith,
        failed-all-out job basis.pods (first_status_of basis.now job (own_pods job basis.pods) (accounted job basis) (decided_in job basis) (wants_in job basis)) refl,
        ap (λ (s : JobStatus). s.failed) stays,
        failed-total job basis.pods,
      ))

  succeeded-none : (counted_in job basis.pods).uncounted_succeeded ≡ []
  unfolding second_value
  succeeded-none = by job.spec.mode refl
    where
      by : (mode : Mode) → job.spec.mode ≡ mode → (counted_in job basis.pods).uncounted_succeeded ≡ []
      by Indexed at = empty-in job basis.pods at (tidy at)
      by NonIndexed at =
          nil_from_length (counted_in job basis.pods).uncounted_succeeded
          (omega (
            arith,
            succeeded-all-out job basis.pods (first_status_of basis.now job (own_pods job basis.pods) (accounted job basis) (decided_in job basis) (wants_in job basis)) refl,
            ap (λ (s : JobStatus). s.succeeded) stays,
            succeeded-total job basis.pods at,
          ))

  -- Then the first status is the second.
  pub first-stays : first_value job basis ≡ second_value job basis
  unfolding first_value second_value counted_out
  first-stays =
      let own = own_pods job basis.pods in
      let counted = accounted job basis in
      let target = decided_in job basis in
      let first = first_status_of basis.now job own counted target (wants_in job basis) in
      let out = counted_out first counted.releases in
      let over = is_over (is_end_decided job target) own counted in
      let e_us : out.uncounted_succeeded ≡ [] = succeeded-list-empty job basis.pods first refl in
      let e_uf : out.uncounted_failed ≡ [] = failed-list-empty job basis.pods first refl in
      let e_s : first.succeeded ≡ out.succeeded = omega (arith, succeeded-all-out job basis.pods first refl, ap length succeeded-none) in
      let e_f : first.failed ≡ out.failed = omega (arith, failed-all-out job basis.pods first refl, ap length failed-none) in
      let e_c : conditions_at basis.now job target (is_first_due (is_end_decided job target) own counted) ≡ conditions_at basis.now job target (is_second_due (is_end_decided job target) own counted out) =
      same-conditions basis.now job target over (is_first_due (is_end_decided job target) own counted) (is_second_due (is_end_decided job target) own counted out)
      (target-kind counted basis.now job own)
      (λ h. (and_parts (is_end_decided job target) (not (list_any is_open own) && leaves_none counted) h).0)
      (second-over over out.uncounted_succeeded out.uncounted_failed e_us e_uf)
      (λ h. (and_parts over (is_none counted.releases && lists_none counted.uncounted_succeeded counted.uncounted_failed) h).0)
      (ap (λ (s : JobStatus). s.conditions) stays) in
      λ i. record first {
        succeeded = e_s i;
        failed = e_f i;
        uncounted_succeeded = (succeeded-none ∙ sym e_us) i;
        uncounted_failed = (failed-none ∙ sym e_uf) i;
        completion = completed_at basis.now job.status (e_c i);
        conditions = e_c i;
      }

pub changed-none : (old new : JobStatus) → old ≡ new → changed old new ≡ None
changed-none old new e = ap (λ (b : Bool). cond b None (Some new)) ((status-exact old new).1 e)

pub changed-some : (old new : JobStatus) → (same : Bool) → IsTrue same ↔ (old ≡ new) → same ≡ false → Some new ≡ changed old new
changed-some old new same exact differs =
    ap (λ (b : Bool). cond b None (Some new)) (sym differs ∙ same_from_exact same_status status-exact same old new exact)

pub changed-same : (old new : JobStatus) → changed old new ≡ None → old ≡ new
changed-same old new e = sym (ap (λ (o : Option JobStatus). unwrap_or o old) e) ∙ changed-or old new

-- Neither status is written exactly where the next status is that of the Job.
pub unwritten : (job : Job) (basis : Basis) → basis.job ≡ Some job → IsRising basis.pods → (job.spec.mode ≡ Indexed → job.status.uncounted_succeeded ≡ [])
    → (((planned basis).first ≡ None) × ((planned basis).second ≡ None)) ↔ (next_status basis.now basis.backoff job (own_pods job basis.pods) ≡ job.status)
unfolding planned
unwritten job basis this rises tidy =
    subst (λ (o : Option Job). (((planned_for basis o).first ≡ None) × ((planned_for basis o).second ≡ None)) ↔ (next_status basis.now basis.backoff job (own_pods job basis.pods) ≡ job.status)) (sym this)
    (to, from)
  where
    to : ((changed job.status (first_value job basis) ≡ None) × (changed (first_value job basis) (second_value job basis) ≡ None)) → next_status basis.now basis.backoff job (own_pods job basis.pods) ≡ job.status
    to h =
        sym (second-next job basis rises tidy) ∙ sym (changed-same (first_value job basis) (second_value job basis) h.1) ∙ sym (changed-same job.status (first_value job basis) h.0)

    from : next_status basis.now basis.backoff job (own_pods job basis.pods) ≡ job.status → (changed job.status (first_value job basis) ≡ None) × (changed (first_value job basis) (second_value job basis) ≡ None)
    from e =
        let stays : second_value job basis ≡ job.status = second-next job basis rises tidy ∙ e in
        let same : first_value job basis ≡ second_value job basis = first-stays job basis tidy stays in
        (changed-none job.status (first_value job basis) (sym stays ∙ sym same), changed-none (first_value job basis) (second_value job basis) same)
