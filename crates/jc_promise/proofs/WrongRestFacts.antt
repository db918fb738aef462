-- What the histories are refused by that leave something undone for ever: worked out.
use Rattle.std.proofs.Common.{◌≡◌, ℕ, true, false, List, [], ◌∷◌, drop, take, Option, None, refl, sym, ap, ◌∙◌, arith, true≢false}
use Rattle.std.specs.Option.{option_map, unwrap_or}
use Rattle.jc_types.specs.declared.objects.Job.{Job}
use Rattle.jc_types.specs.declared.replies.Reply.TheVariants as reply
use Rattle.jc_types.specs.declared.statuses.JobStatus.{JobStatus}
use Rattle.jc_causes.specs.Conditions.{has_end, has_target}
use Rattle.jc_log.specs.Deeds.{Deed}
use Rattle.jc_plan.specs.Accounts.{counted_in, counted_out}
use Rattle.jc_plan.specs.Backoffs.{pause}
use Rattle.jc_plan.specs.Failures.{failing_in, failures_in}
use Rattle.jc_plan.specs.Next.{next_status}
use Rattle.jc_plan.specs.Plans.{planned}
use Rattle.jc_plan.specs.Statuses.{first_value, second_value}
use Rattle.jc_types.specs.declared.syncs.Backoff.{Backoff}
use Rattle.jc_types.specs.declared.objects.Entry.{Entry}
use Rattle.jc_history.specs.Available.{available, is_quiescent}
use Rattle.jc_history.specs.Diaries.{notes}
use Rattle.jc_history.specs.Samples.{pi_key, sample_spec, usual_shape, version_at}
use Rattle.jc_rest.specs.Orphans.{is_sure_of, last_about}
use Rattle.jc_rest.specs.Stuck.{HasEnded, IsOpen, IsWaiting, is_sure}
use Rattle.jc_promise.specs.Promises.{ReleasesWell, WaitsWell}
use Rattle.jc_promise.specs.QuietEnds.{RunsQuietly, SyncsWell}
use Rattle.jc_promise.specs.Wrong.{job_is_made, pi_job, pi_pod, sync_begins, sync_steps}
use Rattle.jc_promise.specs.WrongEnds.{minute_spec}
use Rattle.jc_promise.specs.WrongRests.{asleep, begun_status, both_list, doomed_status, kept_orphan, over_limit, unmarked_pod, unwritten_end, wrong_status}

-- ---- a Job whose end is decided

-- It has not ended, and a target stands; so nothing excuses it.
no-excuse : (deeds : List Deed) (backoff : Backoff) (log : List Entry) (job : Job) → has_end job.status.conditions ≡ false → has_target job.status.conditions ≡ true → IsWaiting deeds backoff log job → ⊥
no-excuse deeds backoff log job unended target (HasEnded e) = true≢false (sym e ∙ unended)
no-excuse deeds backoff log job unended target (IsOpen unsettled halted) = true≢false (sym target ∙ unsettled)

unmarked-rests : is_quiescent usual_shape unmarked_pod.deeds unmarked_pod.log ≡ true
unfolding failing_in failures_in planned first_value second_value counted_in counted_out pause available
unmarked-rests = refl

unmarked-sure : is_sure pi_key (notes usual_shape 0 unmarked_pod.deeds unmarked_pod.log) ≡ true
unfolding failing_in failures_in planned first_value second_value counted_in counted_out pause
unmarked-sure = refl

pub unmarked_pod-refused : WaitsWell usual_shape unmarked_pod.deeds unmarked_pod.log → ⊥
unmarked_pod-refused h =
    no-excuse unmarked_pod.deeds _ unmarked_pod.log (record (pi_job minute_spec) { status = doomed_status; version = version_at 4 }) refl refl
    (h unmarked-rests 0 (omega arith) pi_key (record (pi_job minute_spec) { status = doomed_status; version = version_at 4 }) refl unmarked-sure)

unwritten-rests : is_quiescent usual_shape unwritten_end.deeds unwritten_end.log ≡ true
unfolding failing_in failures_in planned first_value second_value counted_in counted_out pause available
unwritten-rests = refl

unwritten-sure : is_sure pi_key (notes usual_shape 0 unwritten_end.deeds unwritten_end.log) ≡ true
unfolding failing_in failures_in planned first_value second_value counted_in counted_out pause
unwritten-sure = refl

pub unwritten_end-refused : WaitsWell usual_shape unwritten_end.deeds unwritten_end.log → ⊥
unwritten_end-refused h =
    no-excuse unwritten_end.deeds _ unwritten_end.log ended_not refl refl (h unwritten-rests 0 (omega arith) pi_key ended_not refl unwritten-sure)
  where
    ended_not : Job
    ended_not = asleep 8 (record begun_status { active = 0; failed = 1; conditions = over_limit ∷ [] })

-- ---- an orphan

orphan-rests : is_quiescent usual_shape kept_orphan.deeds kept_orphan.log ≡ true
unfolding failing_in failures_in planned first_value second_value counted_in counted_out pause available
orphan-rests = refl

orphan-sure : is_sure_of (pi_pod 2 None 2) (last_about (pi_pod 2 None 2) kept_orphan.log) (notes usual_shape 0 kept_orphan.deeds kept_orphan.log) ≡ true
unfolding failing_in failures_in planned first_value second_value counted_in counted_out pause
orphan-sure = refl

pub kept_orphan-refused : ReleasesWell usual_shape kept_orphan.deeds kept_orphan.log → ⊥
kept_orphan-refused h = true≢false (h orphan-rests 0 (omega arith) (pi_pod 2 None 2) refl refl orphan-sure)

-- ---- a status

-- What came before the begin of the sync, and the steps of it but the last.
abbrev before_sync : List Deed
before_sync = both_list 1 (job_is_made sample_spec ∷ [])

abbrev its_steps : List Deed
its_steps = drop 1 (take 3 wrong_status.deeds)

quiet : RunsQuietly usual_shape wrong_status.log 0 0 (sync_begins 1 1 1) before_sync pi_key (pi_job sample_spec) (sync_steps reply.Ended 3) its_steps
quiet = record {
  begins = refl;
  current = refl;
  there = refl;
  no_fault = refl;
  steps = (refl, (refl, (refl, tt)));
  goes_on = (refl, (refl, tt));
  over = tt;
}

wrong-active : SyncsWell usual_shape wrong_status.deeds wrong_status.log → ◌≡◌ {A = ℕ} 2 1
unfolding next_status failing_in failures_in planned first_value second_value counted_in counted_out pause
wrong-active h =
    let next = (h 0 0 (sync_begins 1 1 1) before_sync pi_key (pi_job sample_spec) (sync_steps reply.Ended 3) its_steps [] refl quiet).next in
    ap (λ (o : Option Job). unwrap_or (option_map (λ (job : Job). job.status.active) o) 2) next.there ∙ ap (λ (s : JobStatus). s.active) next.status

pub wrong_status-refused : SyncsWell usual_shape wrong_status.deeds wrong_status.log → ⊥
wrong_status-refused h = let e : ◌≡◌ {A = ℕ} 2 1 = wrong-active h in omega (arith, e)
