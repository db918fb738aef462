-- What the wrong histories of syncs, of ends and of commands are refused by: worked out.
use Rattle.std.proofs.Common.{◌≡◌, ℕ, ◌<◌, Bool, true, false, ◌&&◌, ◌||◌, List, [], ◌∷◌, drop, length, filter, map, Option, Some, None, is_some, option_and_then, refl, sym, ap, ◌∙◌, subst, arith, true≢false}
use Rattle.std.specs.List.{AllByRecursion as Each, Contains, list_any}
use Rattle.std.specs.Option.{option_map, unwrap_or}
use Rattle.jc_log.specs.Acts as does
use Rattle.jc_types.specs.declared.objects.Entry.{Entry}
use Rattle.jc_types.specs.declared.objects.Entry.TheVariants.{JobPut, PodPut}
use Rattle.jc_types.specs.declared.objects.Job.{Job}
use Rattle.jc_types.specs.declared.objects.Pod.{Pod}
use Rattle.jc_types.specs.declared.runs.Event.{Event}
use Rattle.jc_types.specs.declared.runs.Event.TheVariants as event
use Rattle.jc_types.specs.declared.runs.Past.{Past}
use Rattle.jc_types.specs.declared.runs.Shape.{Shape}
use Rattle.jc_runs.specs.Basis.{Basis}
use Rattle.jc_runs.specs.Pods.{is_final, is_tracked_active}
use Rattle.jc_plan.specs.Accounts.{counted_in, counted_out}
use Rattle.jc_plan.specs.Backoffs.{opening, pause}
use Rattle.jc_plan.specs.Failures.{failing_in, failures_in}
use Rattle.jc_plan.specs.Plans.{planned}
use Rattle.jc_plan.specs.Statuses.{first_value, second_value}
use Rattle.jc_log.specs.Acts.{Act}
use Rattle.jc_log.specs.Deeds.{Deed, deed}
use Rattle.jc_log.specs.Log.{job_in, life, pods_of}
use Rattle.jc_history.specs.Available.{available, is_quiescent}
use Rattle.jc_history.specs.Legal.{IsHistory}
use Rattle.jc_history.specs.Registers.{backoff, made, register}
use Rattle.jc_history.specs.Replies.{diary, gives, log_given}
use Rattle.jc_history.specs.Samples.{pi_key, pod_made, sample_spec, uid_of, usual_shape, version_at}
use Rattle.jc_types.specs.declared.replies.Request.TheVariants.{Status}
use Rattle.jc_runs.specs.Ask.TheVariants.{WriteFirst}
use Rattle.jc_runs.specs.Readings.{next_ask}
use Rattle.jc_runs.specs.Sends.{sends_of}
use Rattle.jc_runs.specs.Conflicts.{AreToldLater}
use Rattle.jc_bounds.specs.Fitting.{IsMade}
use Rattle.jc_bounds.specs.Histories.{HoldsBounds}
use Rattle.jc_bounds.specs.KeptEnds.{HasNothingOpen}
use Rattle.jc_lines.specs.Events.{event_lines}
use Rattle.jc_rest.specs.LetGo.{IsLetGoOnceEnded}
use Rattle.jc_rest.specs.Stuck.{HasEnded, HasPods, IsHalted, IsHeldBack, IsOpen, IsSuspended, IsWaiting, MayRunNone, is_sure}
use Rattle.jc_promise.specs.Promises.{IsToldAlone, RestsWell, WaitsWell}
use Rattle.jc_promise.specs.Wrong.{done, pi_job, pi_pod, sync_steps}
use Rattle.jc_promise.specs.WrongEnds.{early_end, failed_job, first_command, skipped_command, twice_script}
use Rattle.jc_promise.specs.WrongSyncs.{false_conflict, forgotten_pod, old_caches, stuck_job, two_syncs, two_workers}

-- ---- a second pod

-- The log when a second pod is made, where one may run.
abbrev one_pod_there : List Entry
one_pod_there = PodPut (pi_pod 2 None 2) ∷ JobPut (pi_job sample_spec) ∷ []

abbrev second_pod : Pod
second_pod = record (pi_pod 3 None 3) { serial = 1 }

abbrev job_of : Option Basis → Option Job
job_of o = option_and_then (λ (basis : Basis). basis.job) o

-- It fits no sync of the Job.
second-refused : (shape : Shape) (past : List Deed) (d : Deed) (w : ℕ) → d.act ≡ does.Step 0 w → log_given shape past ≡ one_pod_there → log_given shape (d ∷ past) ≡ PodPut second_pod ∷ log_given shape past
    → job_of (register w (diary shape 0 past)) ≡ Some (pi_job sample_spec) → HoldsBounds shape (d ∷ past) → ⊥
second-refused shape past d w step is more its h = omega (arith, few)
  where
    made : IsMade shape d.act (log_given shape past) (diary shape 0 past) second_pod
    made = (h [] past d refl).fits second_pod more (ap (life second_pod.uid) is)

    worker : Act → ℕ
    worker (does.Step c v) = v
    worker other = w

    job : pi_job sample_spec ≡ made.job
    job =
        ap (λ o. unwrap_or o (pi_job sample_spec))
        (sym its ∙ ap (λ act. job_of (register (worker act) (diary shape 0 past))) (sym step ∙ made.step) ∙ ap job_of made.begun ∙ made.there)

    few : 1 < 1
    few =
        subst (λ (j : Job). length (filter is_tracked_active (pods_of j.uid one_pod_there)) < j.spec.parallelism) (sym job)
        (subst (λ log. length (filter is_tracked_active (pods_of made.job.uid log)) < made.job.spec.parallelism) is made.active)

caches-before : log_given usual_shape (drop 1 old_caches) ≡ one_pod_there
unfolding failing_in failures_in gives log_given planned first_value second_value counted_in counted_out pause
caches-before = refl

caches-after : log_given usual_shape old_caches ≡ PodPut second_pod ∷ log_given usual_shape (drop 1 old_caches)
unfolding failing_in failures_in gives log_given planned first_value second_value counted_in counted_out pause
caches-after = refl

caches-job : job_of (register 0 (diary usual_shape 0 (drop 1 old_caches))) ≡ Some (pi_job sample_spec)
unfolding failing_in failures_in gives log_given planned first_value second_value counted_in counted_out pause
caches-job = refl

pub old_caches-refused : HoldsBounds usual_shape old_caches → ⊥
old_caches-refused h = second-refused usual_shape (drop 1 old_caches) (sync_steps (pod_made None 3 3) 3) 0 refl caches-before caches-after caches-job h

syncs-before : log_given two_workers (drop 1 two_syncs) ≡ one_pod_there
unfolding failing_in failures_in gives log_given planned first_value second_value counted_in counted_out pause
syncs-before = refl

syncs-after : log_given two_workers two_syncs ≡ PodPut second_pod ∷ log_given two_workers (drop 1 two_syncs)
unfolding failing_in failures_in gives log_given planned first_value second_value counted_in counted_out pause
syncs-after = refl

syncs-job : job_of (register 1 (diary two_workers 0 (drop 1 two_syncs))) ≡ Some (pi_job sample_spec)
unfolding failing_in failures_in gives log_given planned first_value second_value counted_in counted_out pause
syncs-job = refl

pub two_syncs-refused : HoldsBounds two_workers two_syncs → ⊥
two_syncs-refused h = second-refused two_workers (drop 1 two_syncs) (done (does.Step 0 1) (pod_made None 3 3) 3) 1 refl syncs-before syncs-after syncs-job h

-- ---- a conflict at the version that was sent

-- What its sync asks next, and the version that it sends.
false-ask : option_and_then (λ (basis : Basis). next_ask (planned basis) (made 0 (diary usual_shape 0 (drop 1 false_conflict)))) (register 0 (diary usual_shape 0 (drop 1 false_conflict))) ≡ Some WriteFirst
unfolding failing_in failures_in gives log_given planned first_value second_value counted_in counted_out pause
false-ask = refl

false-sends : option_map (λ (basis : Basis). (sends_of basis (made 0 (diary usual_shape 0 (drop 1 false_conflict)))).0) (register 0 (diary usual_shape 0 (drop 1 false_conflict))) ≡ Some 1
unfolding failing_in failures_in gives log_given planned first_value second_value counted_in counted_out pause
false-sends = refl

pub false_conflict-refused : AreToldLater usual_shape false_conflict → ⊥
false_conflict-refused h = by (register 0 (diary usual_shape 0 (drop 1 false_conflict))) refl false-ask false-sends
  where
    by : (o : Option Basis) → register 0 (diary usual_shape 0 (drop 1 false_conflict)) ≡ o
        → option_and_then (λ (basis : Basis). next_ask (planned basis) (made 0 (diary usual_shape 0 (drop 1 false_conflict)))) o ≡ Some WriteFirst
        → option_map (λ (basis : Basis). (sends_of basis (made 0 (diary usual_shape 0 (drop 1 false_conflict)))).0) o ≡ Some 1 → ⊥
    by None is next sends = true≢false (sym (ap is_some next))
    by (Some basis) is next sends =
        let later : (sends_of basis (made 0 (diary usual_shape 0 (drop 1 false_conflict)))).0 < 1 = h.0 0 0 Status (version_at 1) basis WriteFirst refl refl is next in
        let one : (sends_of basis (made 0 (diary usual_shape 0 (drop 1 false_conflict)))).0 ≡ 1 = ap (λ o. unwrap_or o 0) sends in
        omega (arith, later, one)

-- ---- a pod that is forgotten

-- A pod that has ended has its finalizer.
abbrev is_kept : Pod → Bool
is_kept pod = is_final pod.phase && pod.tracked

none-kept : (pods : List Pod) → Each IsLetGoOnceEnded pods → list_any is_kept pods ≡ true → ⊥
none-kept [] let-go kept = true≢false (sym kept)
none-kept (pod ∷ pods) let-go kept = by (is_final pod.phase) refl pod.tracked refl kept (none-kept pods let-go.1)
  where
    by : (f : Bool) → is_final pod.phase ≡ f → (t : Bool) → pod.tracked ≡ t → ((f && t) || list_any is_kept pods) ≡ true → (list_any is_kept pods ≡ true → ⊥) → ⊥
    by true e true g k more = true≢false (sym g ∙ let-go.0 e)
    by true e false g k more = more k
    by false e t g k more = more k

forgotten-rests : is_quiescent usual_shape forgotten_pod (log_given usual_shape forgotten_pod) ≡ true
unfolding failing_in failures_in gives log_given planned first_value second_value counted_in counted_out pause available
forgotten-rests = refl

forgotten-job : option_map (λ (job : Job). job.uid) (job_in pi_key (log_given usual_shape forgotten_pod)) ≡ Some (uid_of 1)
unfolding failing_in failures_in gives log_given planned first_value second_value counted_in counted_out pause
forgotten-job = refl

forgotten-kept : list_any is_kept (pods_of (uid_of 1) (log_given usual_shape forgotten_pod)) ≡ true
unfolding failing_in failures_in gives log_given planned first_value second_value counted_in counted_out pause
forgotten-kept = refl

pub forgotten_pod-refused : RestsWell usual_shape forgotten_pod (log_given usual_shape forgotten_pod) → ⊥
forgotten_pod-refused h = by (job_in pi_key (log_given usual_shape forgotten_pod)) refl forgotten-job
  where
    by : (o : Option Job) → job_in pi_key (log_given usual_shape forgotten_pod) ≡ o → option_map (λ (job : Job). job.uid) o ≡ Some (uid_of 1) → ⊥
    by None is uid = absurd (true≢false (sym (ap (λ o. elim o [ None ↦ false | Some u ↦ true ]) uid)))
    by (Some job) is uid =
        none-kept (pods_of job.uid (log_given usual_shape forgotten_pod)) (h forgotten-rests pi_key job is)
        (ap (λ o. list_any is_kept (pods_of (unwrap_or o job.uid) (log_given usual_shape forgotten_pod))) uid ∙ forgotten-kept)

-- ---- a Job that is stuck

stuck-rests : is_quiescent usual_shape stuck_job (log_given usual_shape stuck_job) ≡ true
unfolding failing_in failures_in gives log_given planned first_value second_value counted_in counted_out pause available
stuck-rests = refl

stuck-there : job_in pi_key (log_given usual_shape stuck_job) ≡ Some (pi_job sample_spec)
unfolding failing_in failures_in gives log_given planned first_value second_value counted_in counted_out pause
stuck-there = refl

stuck-sure : is_sure pi_key (diary usual_shape 0 stuck_job) ≡ true
unfolding failing_in failures_in gives log_given planned first_value second_value counted_in counted_out pause
stuck-sure = refl

stuck-podless : pods_of (uid_of 1) (log_given usual_shape stuck_job) ≡ []
unfolding failing_in failures_in gives log_given planned first_value second_value counted_in counted_out pause
stuck-podless = refl

-- No pod is delayed.
stuck-open : opening (backoff pi_key (diary usual_shape 0 stuck_job)) ≡ None
unfolding failing_in failures_in gives log_given planned first_value second_value counted_in counted_out pause
stuck-open = refl

pub stuck_job-refused : WaitsWell usual_shape stuck_job (log_given usual_shape stuck_job) → ⊥
stuck_job-refused h = by (h stuck-rests 0 (omega arith) pi_key (pi_job sample_spec) stuck-there stuck-sure)
  where
    none-in : (pods : List Pod) (pod : Pod) → pods ≡ [] → Contains pods pod → ⊥
    none-in [] pod e (i, lt, is) = omega (arith, lt)
    none-in (p ∷ pods) pod e there = true≢false (ap (λ (l : List Pod). elim l [ [] ↦ false | x ∷ xs ↦ true ]) e)

    halted : IsHalted stuck_job (backoff pi_key (diary usual_shape 0 stuck_job)) (log_given usual_shape stuck_job) (pi_job sample_spec) → ⊥
    halted (IsSuspended e) = true≢false (sym e)
    halted (MayRunNone e) = absurd (omega (arith, e))
    halted (HasPods enough pod there active endless) = none-in (pods_of (uid_of 1) (log_given usual_shape stuck_job)) pod stuck-podless there
    halted (IsHeldBack second opens past) = true≢false (sym (ap is_some opens) ∙ ap is_some stuck-open)

    by : IsWaiting stuck_job (backoff pi_key (diary usual_shape 0 stuck_job)) (log_given usual_shape stuck_job) (pi_job sample_spec) → ⊥
    by (HasEnded e) = true≢false (sym e)
    by (IsOpen unsettled h) = halted h

-- ---- an early end

pub early_end-refused : HasNothingOpen early_end.log failed_job → ⊥
early_end-refused h = true≢false h.closed.opens

-- ---- a command that is skipped

abbrev number-in : Event → ℕ
number-in (event.Command lane number) = number
number-in (event.System system) = 0

-- The number of the first command.
abbrev number-of : List Past → ℕ
number-of [] = 0
number-of (past ∷ later) = number-in past.event

first-legal : IsHistory twice_script usual_shape (first_command 0)
unfolding gives log_given
first-legal = record {
  few = omega arith;
  lanes = (refl, tt);
  legal = (record { within = tt; settled = tt; reply = refl; length = refl }, tt);
}

same-lines : event_lines 1 (map (deed twice_script) (first_command 0).events.items) ≡ event_lines 1 (map (deed twice_script) skipped_command.events.items)
same-lines = refl

pub skipped_command-refused : IsToldAlone twice_script usual_shape skipped_command → ⊥
skipped_command-refused h =
    let e : 0 ≡ 1 = ap number-of (h (first_command 0) first-legal (omega arith, tt) (omega arith, tt) same-lines) in omega (arith, e)
