-- What the wrong histories of requests without a cause are refused by: worked out.
use Rattle.std.proofs.Common.{◌≡◌, ◌⊎◌, inl, inr, ℕ, nat_le, Bool, true, false, not, ◌&&◌, ◌||◌, ◌-◌, List, ◌∷◌, length, Option, Some, None, is_some, refl, sym, ap, ◌∙◌, subst, arith, true≢false}
use Rattle.std.specs.List.{Contains, list_any}
use Rattle.std.specs.Option.{option_map, option_map_or, unwrap_or}
use Rattle.std.proofs.lemmas.Bool.{and_parts, leb-true, or_left, or_right}
use Rattle.std.proofs.lemmas.List.Elements.{All-contains, All-from_recursion}
use Rattle.jc_log.specs.Acts as does
use Rattle.jc_types.specs.Equality.{same_status}
use Rattle.jc_types.specs.declared.numbers.Uid.{Uid}
use Rattle.jc_types.specs.declared.objects.Job.{Job}
use Rattle.jc_types.specs.declared.objects.Pod.{Pod}
use Rattle.jc_types.specs.declared.replies.Answer.{Answer}
use Rattle.jc_types.specs.declared.replies.Answer.TheVariants as answer
use Rattle.jc_types.specs.declared.replies.Reply.TheVariants as reply
use Rattle.jc_types.specs.declared.replies.Request.{Request}
use Rattle.jc_types.specs.declared.replies.Request.TheVariants as request
use Rattle.jc_types.specs.declared.specifications.Mode.TheVariants.{Indexed}
use Rattle.jc_runs.specs.Basis.{Basis}
use Rattle.jc_plan.specs.Accounts.{counted_in, counted_out}
use Rattle.jc_plan.specs.Backoffs.{pause}
use Rattle.jc_plan.specs.Failures.{failing_in, failures_in}
use Rattle.jc_plan.specs.Plans.{planned}
use Rattle.jc_plan.specs.Statuses.{accounted, first_value, second_value}
use Rattle.jc_plan.specs.Creations.{is_free, job_lacks, job_wants, keepers}
use Rattle.jc_plan.specs.LetGoes.{is_doubled, is_let_go, is_needless, is_one_of, is_spare}
use Rattle.jc_plan.specs.Releases.{due_uids, is_orphan, is_owed}
use Rattle.jc_runs.specs.Bases.{own_pods}
use Rattle.jc_runs.specs.Pods.{is_active, is_tracked}
use Rattle.jc_log.specs.Deeds.{Deed}
use Rattle.jc_history.specs.Registers.{made, register}
use Rattle.jc_history.specs.Replies.{diary, gives, log_given}
use Rattle.jc_history.specs.Samples.{pod_let_go, pod_made, pod_marked, pod_released, status_written, uid_of, usual_shape, version_at}
use Rattle.jc_runs.proofs.PodListFacts.{each-fails}
use Rattle.jc_causes.specs.Causes.{AreCaused, IsDoubled, IsOfNoUse, IsOfSuspended, IsTooMany, IsUnwanted, MayAsk, MayAskOf, MayLetGo, MayMake, MayMark, MayRelease, is_decided, made_by, tracked_in, wanted_successes}
use Rattle.jc_promise.specs.Wrong.{sync_steps}
use Rattle.jc_promise.specs.WrongCauses.{active_released, failed_before, failed_makes, index_before, index_made_twice, many_before, one_too_many, overdue_before, overdue_makes, same_status_written, suspended_before, suspended_makes}
use Rattle.jc_promise.specs.WrongCauses.{synced_again, wanted_let_go, wanted_marked}

-- A step whose request has no cause in what its sync saw is refused.
refused : (past : List Deed) (d : Deed) (asked : Request) (given : Answer) → d.act ≡ does.Step 0 0 → d.reply ≡ reply.Stepped asked given → (P : Basis → Bool)
    → ((basis : Basis) → P basis ≡ true → MayAsk basis (made 0 (diary usual_shape 0 past)) asked → ⊥) → option_map P (register 0 (diary usual_shape 0 past)) ≡ Some true → AreCaused usual_shape (d ∷ past) → ⊥
refused past d asked given act told P never is h = by (register 0 (diary usual_shape 0 past)) refl is
  where
    by : (o : Option Basis) → register 0 (diary usual_shape 0 past) ≡ o → option_map P o ≡ Some true → ⊥
    by None e q = true≢false (sym (ap is_some q))
    by (Some basis) e q = never basis (ap (λ o. unwrap_or o false) q) (h.0 0 0 asked given basis act told e)

-- It holds of the Job that the sync sees.
abbrev of_job : (Job → Basis → Bool) → Basis → Bool
of_job P basis = option_map_or (λ job. P job basis) basis.job false

-- An element passes no test where none is found to.
not-one : {X : Type 0} (test : X → Bool) (xs : List X) (x : X) → not (list_any test xs) ≡ true → Contains xs x → test x ≡ true → ⊥
not-one test xs x none there e = by (list_any test xs) refl none
  where
    by : (b : Bool) → list_any test xs ≡ b → not b ≡ true → ⊥
    by true p q = true≢false (sym q)
    by false p q = true≢false (sym e ∙ All-contains (λ x. test x ≡ false) xs x (All-from_recursion (λ x. test x ≡ false) xs (each-fails test xs p)) there)

-- ---- pods that are made

create-refused : (n : ℕ) (index : Option ℕ) (P : Job → Basis → Bool) → ((job : Job) (basis : Basis) → P job basis ≡ true → MayMake job basis n index → ⊥)
    → (basis : Basis) → of_job P basis ≡ true → MayAskOf basis.job basis n (request.CreatePod index) → ⊥
create-refused n index P never basis e h = by basis.job e h
  where
    by : (o : Option Job) → option_map_or (λ job. P job basis) o false ≡ true → MayAskOf o basis n (request.CreatePod index) → ⊥
    by None e h = h
    by (Some job) e h = never job basis e h

-- The Job is suspended.
suspended-is : option_map (of_job (λ job basis. job.spec.suspend)) (register 0 (diary usual_shape 0 suspended_before)) ≡ Some true
unfolding failing_in failures_in gives log_given planned first_value second_value counted_in counted_out pause
suspended-is = refl

pub suspended_makes-refused : AreCaused usual_shape suspended_makes → ⊥
suspended_makes-refused h =
    refused suspended_before (sync_steps (pod_made None 2 2) 2) (request.CreatePod None) (answer.Created (uid_of 2) (version_at 2)) refl refl (of_job (λ job basis. job.spec.suspend))
    (create-refused (made_by (made 0 (diary usual_shape 0 suspended_before))) None (λ job basis. job.spec.suspend) (λ job basis e m. true≢false (sym e ∙ m.resumed))) suspended-is h

-- How the Job ends is decided.
failed-is : option_map (of_job is_decided) (register 0 (diary usual_shape 0 failed_before)) ≡ Some true
unfolding failing_in failures_in gives log_given planned first_value second_value counted_in counted_out pause
failed-is = refl

pub failed_makes-refused : AreCaused usual_shape failed_makes → ⊥
failed_makes-refused h =
    refused failed_before (sync_steps (pod_made None 3 5) 5) (request.CreatePod None) (answer.Created (uid_of 3) (version_at 5)) refl refl (of_job is_decided)
    (create-refused (made_by (made 0 (diary usual_shape 0 failed_before))) None is_decided (λ job basis e m. true≢false (sym e ∙ m.undecided))) failed-is h

overdue-is : option_map (of_job is_decided) (register 0 (diary usual_shape 0 overdue_before)) ≡ Some true
unfolding failing_in failures_in gives log_given planned first_value second_value counted_in counted_out pause
overdue-is = refl

pub overdue_makes-refused : AreCaused usual_shape overdue_makes → ⊥
overdue_makes-refused h =
    refused overdue_before (sync_steps (pod_made None 3 5) 5) (request.CreatePod None) (answer.Created (uid_of 3) (version_at 5)) refl refl (of_job is_decided)
    (create-refused (made_by (made 0 (diary usual_shape 0 overdue_before))) None is_decided (λ job basis e m. true≢false (sym e ∙ m.undecided))) overdue-is h

-- One pod is lacking, and one is made.
abbrev lacks_one : Job → Basis → Bool
lacks_one job basis = nat_le (job_lacks job (own_pods job basis.pods) (accounted job basis)) 1

many-is : option_map (of_job lacks_one) (register 0 (diary usual_shape 0 many_before)) ≡ Some true
unfolding failing_in failures_in gives log_given planned first_value second_value counted_in counted_out pause
many-is = refl

many-made : made_by (made 0 (diary usual_shape 0 many_before)) ≡ 1
unfolding failing_in failures_in gives log_given planned first_value second_value counted_in counted_out pause
many-made = refl

pub one_too_many-refused : AreCaused usual_shape one_too_many → ⊥
one_too_many-refused h =
    refused many_before (sync_steps (pod_made None 3 3) 3) (request.CreatePod None) (answer.Created (uid_of 3) (version_at 3)) refl refl (of_job lacks_one)
    (create-refused (made_by (made 0 (diary usual_shape 0 many_before))) None lacks_one (λ job basis e m. few job basis e m)) many-is h
  where
    few : (job : Job) (basis : Basis) → lacks_one job basis ≡ true → MayMake job basis (made_by (made 0 (diary usual_shape 0 many_before))) None → ⊥
    few job basis e m =
        let most = leb-true (job_lacks job (own_pods job basis.pods) (accounted job basis)) 1 e in
        let more = m.lacking in
        let one = many-made in
        omega (arith, most, more, one)

-- Index 0 is not free.
abbrev holds_first : Job → Basis → Bool
holds_first job basis = not (is_free (accounted job basis) (keepers job.spec.replacement (own_pods job basis.pods)) 0)

index-is : option_map (of_job holds_first) (register 0 (diary usual_shape 0 index_before)) ≡ Some true
unfolding failing_in failures_in gives log_given planned first_value second_value counted_in counted_out pause
index-is = refl

pub index_made_twice-refused : AreCaused usual_shape index_made_twice → ⊥
index_made_twice-refused h =
    refused index_before (sync_steps (pod_made (Some 0) 3 3) 3) (request.CreatePod (Some 0)) (answer.Created (uid_of 3) (version_at 3)) refl refl (of_job holds_first)
    (create-refused (made_by (made 0 (diary usual_shape 0 index_before))) (Some 0) holds_first (λ job basis e m. true≢false (sym e ∙ ap not m.free.free))) index-is h

-- ---- pods that are stopped

-- The pod is not wanted, as a test.
abbrev is_unwanted : Job → Basis → Pod → Bool
is_unwanted job basis pod =
    job.spec.suspend
    || is_let_go job.spec.mode (is_needless (wanted_successes job) (accounted job basis)) (job_wants job (own_pods job basis.pods) (accounted job basis)) (tracked_in job basis) pod

spare-is : (job : Job) (basis : Basis) (pod : Pod) → job.spec.mode ≡ Indexed → is_spare Indexed (is_needless (wanted_successes job) (accounted job basis)) (tracked_in job basis) pod ≡ true → is_unwanted job basis pod ≡ true
spare-is job basis pod m e =
    or_right job.spec.suspend _
    (or_left (is_spare job.spec.mode (is_needless (wanted_successes job) (accounted job basis)) (tracked_in job basis) pod) _
    (subst (λ mode. is_spare mode (is_needless (wanted_successes job) (accounted job basis)) (tracked_in job basis) pod ≡ true) (sym m) e))

unwanted-is : (job : Job) (basis : Basis) (pod : Pod) → IsUnwanted job basis pod → is_unwanted job basis pod ≡ true
unwanted-is job basis pod (IsOfSuspended q) = ap (λ b. b || rest) q
  where
    rest : Bool
    rest = is_let_go job.spec.mode (is_needless (wanted_successes job) (accounted job basis)) (job_wants job (own_pods job basis.pods) (accounted job basis)) (tracked_in job basis) pod
unwanted-is job basis pod (IsOfNoUse m e) = spare-is job basis pod m (or_left (option_map_or (is_needless (wanted_successes job) (accounted job basis)) pod.index false) (is_doubled (tracked_in job basis) pod) e)
unwanted-is job basis pod (IsDoubled m e) = spare-is job basis pod m (or_right (option_map_or (is_needless (wanted_successes job) (accounted job basis)) pod.index false) (is_doubled (tracked_in job basis) pod) e)
unwanted-is job basis pod (IsTooMany rest is e) = or_right job.spec.suspend _
    (or_right (is_spare job.spec.mode (is_needless (wanted_successes job) (accounted job basis)) (tracked_in job basis)
    pod) _ (subst (λ pods. is_one_of (length pods - job_wants job (own_pods job basis.pods) (accounted job basis))
    job.spec.mode pods pod ≡ true) is e))

let-go-refused : (u : Uid) (job : Job) (basis : Basis) → not (list_any (is_unwanted job basis) (tracked_in job basis)) ≡ true → MayLetGo job basis u → ⊥
let-go-refused u job basis e m = not-one (is_unwanted job basis) (tracked_in job basis) m.pod e m.seen (unwanted-is job basis m.pod m.unwanted)

-- No pod is unwanted, and none is to be marked.
abbrev wants_all : Job → Basis → Bool
wants_all job basis =
    not (list_any (is_unwanted job basis) (tracked_in job basis))
    && (not (is_decided job basis) && not (list_any (λ pod. is_active pod && not (is_tracked pod)) (own_pods job basis.pods)))

again-is : option_map (of_job wants_all) (register 0 (diary usual_shape 0 synced_again)) ≡ Some true
unfolding failing_in failures_in gives log_given planned first_value second_value counted_in counted_out pause
again-is = refl

pub wanted_let_go-refused : AreCaused usual_shape wanted_let_go → ⊥
wanted_let_go-refused h =
    refused synced_again (sync_steps (pod_let_go 2 4) 4) (request.LetGo (uid_of 2)) (answer.Released (version_at 4)) refl refl (of_job wants_all) (λ basis e m. by basis basis.job e m) again-is h
  where
    by : (basis : Basis) (o : Option Job) → option_map_or (λ job. wants_all job basis) o false ≡ true → MayAskOf o basis (made_by (made 0 (diary usual_shape 0 synced_again))) (request.LetGo (uid_of 2)) → ⊥
    by basis None e m = m
    by basis (Some job) e m = let-go-refused (uid_of 2) job basis (and_parts (not (list_any (is_unwanted job basis) (tracked_in job basis))) _ e).0 m

pub wanted_marked-refused : AreCaused usual_shape wanted_marked → ⊥
wanted_marked-refused h =
    refused synced_again (sync_steps (pod_marked 2 4) 4) (request.MarkPod (uid_of 2)) (answer.Written (version_at 4)) refl refl (of_job wants_all) (λ basis e m. by basis basis.job e m) again-is h
  where
    mark : (job : Job) (basis : Basis) → wants_all job basis ≡ true → MayMark job basis (uid_of 2) → ⊥
    mark job basis e m = why m.cause
      where
        rest : (not (is_decided job basis) ≡ true) × (not (list_any (λ pod. is_active pod && not (is_tracked pod)) (own_pods job basis.pods)) ≡ true)
        rest = and_parts (not (is_decided job basis)) _ (and_parts (not (list_any (is_unwanted job basis) (tracked_in job basis))) _ e).1

        why : ((is_decided job basis ≡ true) ⊎ (is_tracked m.pod ≡ false)) → ⊥
        why (inl d) = true≢false (sym rest.0 ∙ ap not d)
        why (inr t) = not-one (λ pod. is_active pod && not (is_tracked pod)) (own_pods job basis.pods) m.pod rest.1 m.seen (λ i. m.active i && not (t i))

    by : (basis : Basis) (o : Option Job) → option_map_or (λ job. wants_all job basis) o false ≡ true → MayAskOf o basis (made_by (made 0 (diary usual_shape 0 synced_again))) (request.MarkPod (uid_of 2)) → ⊥
    by basis None e m = m
    by basis (Some job) e (inl m) = mark job basis e m
    by basis (Some job) e (inr m) = let-go-refused (uid_of 2) job basis (and_parts (not (list_any (is_unwanted job basis) (tracked_in job basis))) _ e).0 m

-- ---- releases, statuses

abbrev releases_none : Basis → Bool
releases_none basis = not (list_any (λ pod. is_owed (due_uids basis.job basis.pods) pod || is_orphan basis pod) basis.pods)

none-released : option_map releases_none (register 0 (diary usual_shape 0 synced_again)) ≡ Some true
unfolding failing_in failures_in gives log_given planned first_value second_value counted_in counted_out pause
none-released = refl

pub active_released-refused : AreCaused usual_shape active_released → ⊥
active_released-refused h =
    refused synced_again (sync_steps (pod_released 2 4) 4) (request.Release (uid_of 2)) (answer.Released (version_at 4)) refl refl releases_none (λ basis e m. by basis basis.job e m) none-released h
  where
    one : (basis : Basis) → releases_none basis ≡ true → MayRelease basis (uid_of 2) → ⊥
    one basis e m = not-one (λ pod. is_owed (due_uids basis.job basis.pods) pod || is_orphan basis pod) basis.pods m.pod e m.seen (why m.cause)
      where
        why : ((is_owed (due_uids basis.job basis.pods) m.pod ≡ true) ⊎ (is_orphan basis m.pod ≡ true)) → (is_owed (due_uids basis.job basis.pods) m.pod || is_orphan basis m.pod) ≡ true
        why (inl q) = or_left (is_owed (due_uids basis.job basis.pods) m.pod) (is_orphan basis m.pod) q
        why (inr q) = or_right (is_owed (due_uids basis.job basis.pods) m.pod) (is_orphan basis m.pod) q

    by : (basis : Basis) (o : Option Job) → releases_none basis ≡ true → MayAskOf o basis (made_by (made 0 (diary usual_shape 0 synced_again))) (request.Release (uid_of 2)) → ⊥
    by basis None e m = one basis e m
    by basis (Some job) e m = one basis e m

abbrev changes_none : Job → Basis → Bool
changes_none job basis = same_status job.status (first_value job basis) && same_status (first_value job basis) (second_value job basis)

none-changed : option_map (of_job changes_none) (register 0 (diary usual_shape 0 synced_again)) ≡ Some true
unfolding failing_in failures_in gives log_given planned first_value second_value counted_in counted_out pause
none-changed = refl

pub same_status_written-refused : AreCaused usual_shape same_status_written → ⊥
same_status_written-refused h =
    refused synced_again (sync_steps (status_written 4) 4) request.Status (answer.Written (version_at 4)) refl refl (of_job changes_none) (λ basis e m. by basis basis.job e m) none-changed h
  where
    by : (basis : Basis) (o : Option Job) → option_map_or (λ job. changes_none job basis) o false ≡ true → MayAskOf o basis (made_by (made 0 (diary usual_shape 0 synced_again))) request.Status → ⊥
    by basis None e m = m
    by basis (Some job) e m = true≢false (sym e ∙ m.changes)
