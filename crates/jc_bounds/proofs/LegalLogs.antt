-- The log of a legal history of one controller is legal, and its Jobs have index totals.
use Rattle.std.proofs.Common.{◌≡◌, ℕ, zero, suc, ◌+◌, ◌-◌, ◌==◌, nat_lt, Bool, true, false, cond, not, ◌&&◌, List, [], ◌∷◌, length, map, Option, Some, None, IfSome, is_some, refl, sym, ap, ◌∙◌, subst, true≢false, arith}
use Rattle.jc_log.specs.Acts as does
use Rattle.jc_plan.specs.Accounts.{counted_in, counted_out, released_of}
use Rattle.jc_plan.proofs.AccountFacts.{empty-in, indexed-total}
use Rattle.jc_log.proofs.HasJobFacts.{put_upto, there_put}
use Rattle.jc_ledger.specs.Flights.{IsBasisOf}
use Rattle.jc_plan.specs.Failures.{failing_by, failing_in, failures_by, failures_in, newly_failed}
use Rattle.jc_plan.proofs.Raised.{raised-ascends}
use Rattle.jc_plan.specs.Plans.{planned}
use Rattle.jc_plan.specs.Statuses.{first_value, second_value}
use Rattle.jc_plan.proofs.ValueFacts.{first-completed, first-failed_indexes, first-index_failures, first-succeeded, first-succeeded_list, second-completed, second-failed_indexes, second-index_failures, second-lists_none, second-succeeded}
use Rattle.jc_log.specs.StoredAnswers.{StaysStored}
use Rattle.jc_log.proofs.RequestFacts.{create_job-stored, create_pod-stored, delete_job-stored, let_go-stored, mark_pod-stored, release-stored, report_phase-stored, update_spec-stored, write_status-stored}
use Rattle.jc_ranges.specs.Sets.{IsIncreasing}
use Rattle.jc_types.specs.declared.actions.Fault.{Fault}
use Rattle.jc_types.specs.declared.actions.Fault.TheVariants.{Drop, Lose}
use Rattle.jc_types.specs.declared.actions.PhaseChange.{PhaseChange}
use Rattle.jc_types.specs.declared.numbers.Uid.{Uid}
use Rattle.jc_types.specs.declared.numbers.Version.{Version}
use Rattle.jc_types.specs.declared.objects.Entry.{Entry}
use Rattle.jc_types.specs.declared.objects.Entry.TheVariants.{JobPut, JobGone, PodPut, PodGone}
use Rattle.jc_types.specs.declared.objects.Job.{Job}
use Rattle.jc_types.specs.declared.objects.Pod.{Pod}
use Rattle.jc_types.specs.declared.replies.Answer.{Answer}
use Rattle.jc_types.specs.declared.replies.Reply.TheVariants as reply
use Rattle.jc_types.specs.declared.replies.Request.{Request}
use Rattle.jc_types.specs.declared.runs.Shape.{Shape}
use Rattle.jc_types.specs.declared.specifications.Mode.TheVariants.{Indexed}
use Rattle.jc_types.specs.declared.statuses.IndexCount.{IndexCount}
use Rattle.jc_types.specs.declared.statuses.JobStatus.{JobStatus}
use Rattle.jc_states.specs.declared.bases.Basis.{Basis}
use Rattle.jc_states.specs.Bases.{own_pods}
use Rattle.jc_log.specs.Requests.{Answered, create_job_gives, delete_job_gives, empty_status, grown, mark_pod_gives, refused, release_gives, report_phase_gives, update_spec_gives, with_status}
use Rattle.jc_log.specs.Acts.{Act}
use Rattle.jc_log.specs.Deeds.{Deed}
use Rattle.jc_types.specs.declared.objects.KeyNames.{KeyNames as Key}
use Rattle.jc_types.specs.Keys.{same_key, same_uid}
use Rattle.jc_log.specs.Log.{has_job, is_never, job_in, life, pod_in, upto}
use Rattle.jc_types.specs.Equality.{same_status}
use Rattle.jc_log.specs.Writes.{Allowed, CanJob, Legal, Stored, Writes}
use Rattle.jc_log.proofs.BirthFacts.{KeptJob, job_kept_to}
use Rattle.jc_types.proofs.KeyFacts.{same_key-itself, same_uid-itself}
use Rattle.jc_log.proofs.LogFacts.{upto-all}
use Rattle.jc_types.proofs.EqualityFacts.{status-exact}
use Rattle.jc_log.proofs.WriteFacts.{Stored-from_legal}
use Rattle.jc_moment.specs.Range.{end_of_moments}
use Rattle.jc_asks.specs.declared.asks.Ask.{Ask}
use Rattle.jc_asks.specs.declared.asks.Ask.TheVariants.{MakePod, MarkPod, LetPodGo, WriteFirst, ReleasePod, WriteSecond}
use Rattle.jc_asks.specs.Steps.{make_gives, status_gives, stepped_at, written_gives}
use Rattle.jc_history.specs.SoFar.{so_far}
use Rattle.jc_bounds.specs.RequestKinds.{ask_gives}
use Rattle.jc_history.specs.Diaries.{moment, notes}
use Rattle.jc_history.specs.Fresh.{begin as begin_of}
use Rattle.jc_history.specs.Legal.{IsLegal, IsOfShape}
use Rattle.jc_history.specs.Nodes.{NodeAct, change_by, fate, finish_change, node_step}
use Rattle.jc_history.specs.Notes.{Note}
use Rattle.jc_history.specs.Numbers.{number}
use Rattle.jc_history.specs.Registers.{made, pending, register}
use Rattle.jc_history.specs.Replies.{begin_gives, clock_gives, deliver_gives, finish_gives, gives, log_given, node_gives, step_done, step_gives}
use Rattle.jc_bounds.specs.Bounded.{IsBounded}
use Rattle.jc_bounds.specs.Final.{AlwaysHaveIndexTotals}
use Rattle.jc_plan.specs.Finishes.{HasIndexTotals}
use Rattle.jc_bounds.specs.Work.{has_new_status}
use Rattle.jc_bounds.proofs.Appends.{Appends, First, Idly, IsStatus, Makes, Second, appends}
use Rattle.jc_bounds.proofs.BoundFacts.{legal-bounded}
use Rattle.jc_bounds.proofs.EndFacts.{changed-is, plan-first, plan-second, seen-key}
use Rattle.jc_bounds.proofs.Turns.{IsIdleEntry, Quiet, create-quiet, delete-quiet, mark-quiet, release-quiet, report-quiet, update-quiet}
use Rattle.std.proofs.lemmas.Option.{same_Some as some_is}
use Rattle.std.proofs.lemmas.Bool.{not-false}

-- ---- one entry

abbrev pub IsNeatEntry : Entry → Type 0
IsNeatEntry (JobPut job) = HasIndexTotals job
IsNeatEntry other = Unit {0}

-- The failures of each index stand in ascending index.
abbrev Climbs : List IndexCount → Type 0
Climbs counts = IsIncreasing (map (λ (count : IndexCount). count.index) counts)

-- Index totals by mode, limit and status.
same-neat : (old new : Job) → new.spec.mode ≡ old.spec.mode → new.spec.per_index ≡ old.spec.per_index → new.status ≡ old.status → HasIndexTotals old → HasIndexTotals new
same-neat old new mode limit status h = record {
  none = λ m. ap (λ (s : JobStatus). s.uncounted_succeeded) status ∙ h.none (sym mode ∙ m);
  size = λ m. ap (λ (s : JobStatus). s.succeeded) status ∙ h.size (sym mode ∙ m) ∙ ap (λ (s : JobStatus). length s.completed) (sym status);
  failing = λ n. let f = h.failing (sym limit ∙ n) in (ap (λ (s : JobStatus). s.failed_indexes) status ∙ f.0, ap (λ (s : JobStatus). s.index_failures) status ∙ f.1);
  ascending = subst (λ (s : JobStatus). Climbs s.index_failures) (sym status) h.ascending;
}

empty-neat : (job : Job) → job.status ≡ empty_status → HasIndexTotals job
empty-neat job e = record {
  none = λ m. ap (λ (s : JobStatus). s.uncounted_succeeded) e;
  size = λ m. ap (λ (s : JobStatus). s.succeeded) e ∙ ap (λ (s : JobStatus). length s.completed) (sym e);
  failing = λ n. (ap (λ (s : JobStatus). s.failed_indexes) e, ap (λ (s : JobStatus). s.index_failures) e);
  ascending = subst (λ (s : JobStatus). Climbs s.index_failures) (sym e) tt;
}

-- ---- what a sync says of failed indexes

no-limit : (job : Job) (completed : List ℕ) (own : List Pod) (uids : List Uid) → job.spec.per_index ≡ None → (failing_in job completed own uids ≡ []) × (failures_in job own uids ≡ [])
unfolding failing_in failures_in
no-limit job completed own uids none =
    (ap (λ limit. failing_by limit job completed (newly_failed own uids)) none, ap (λ limit. failures_by limit job (newly_failed own uids)) none)

failures-climb : (job : Job) (own : List Pod) (uids : List Uid) → Climbs job.status.index_failures → Climbs (failures_in job own uids)
unfolding failures_in
failures-climb job own uids up = by job.spec.per_index
  where
    by : (limit : Option ℕ) → Climbs (failures_by limit job (newly_failed own uids))
    by None = tt
    by (Some limit) = raised-ascends job.spec.failure job.status.index_failures up (newly_failed own uids)

-- ---- the statuses of a sync

-- The Job with the status.
abbrev given_status : Job → JobStatus → Job
given_status job status = record job { status = status }

first-neat : (job : Job) (b : Basis) → HasIndexTotals job → HasIndexTotals (given_status job (first_value job b))
first-neat job b h = record {
  none = λ m. first-succeeded_list job b ∙ empty-in job b.pods m (h.none m);
  size = λ m. first-succeeded job b ∙ indexed-total job b.pods m ∙ ap length (sym (first-completed job b));
  failing = λ n.
      let none = no-limit job (counted_in job b.pods).completed (own_pods job b.pods) (counted_in job b.pods).judged_failed n in
      (first-failed_indexes job b ∙ none.0, first-index_failures job b ∙ none.1);
  ascending = subst Climbs (sym (first-index_failures job b)) (failures-climb job (own_pods job b.pods) (counted_in job b.pods).judged_failed h.ascending);
}

second-size : (job : Job) (b : Basis) → HasIndexTotals job → job.spec.mode ≡ Indexed → (second_value job b).succeeded ≡ length (second_value job b).completed
unfolding counted_out
second-size job b h m =
    let f = first-neat job b h in
    let none : released_of (counted_in job b.pods).releases (first_value job b).uncounted_succeeded ≡ 0 = ap (released_of (counted_in job b.pods).releases) (f.none m) in
    let out : (second_value job b).succeeded ≡ (first_value job b).succeeded + released_of (counted_in job b.pods).releases (first_value job b).uncounted_succeeded = second-succeeded job b in
    let same = ap length (first-completed job b ∙ sym (second-completed job b)) in
    let size = f.size m in
    omega (arith, none, out, same, size)

second-neat : (job : Job) (b : Basis) → HasIndexTotals job → HasIndexTotals (given_status job (second_value job b))
second-neat job b h =
    let f = first-neat job b h in
    record {
      none = λ m. (second-lists_none job b).1;
      size = second-size job b h;
      failing = λ n.
          let none = f.failing n in
          (second-failed_indexes job b ∙ sym (first-failed_indexes job b) ∙ none.0, second-index_failures job b ∙ sym (first-index_failures job b) ∙ none.1);
      ascending = subst Climbs (first-index_failures job b ∙ sym (second-index_failures job b)) f.ascending;
    }

module _ (log : List Entry) (legal : Legal log) (neat : AlwaysHaveIndexTotals log) where
  stored : Stored log
  stored = Stored-from_legal log legal

  neat-now : (k : Key) (job : Job) → job_in k log ≡ Some job → HasIndexTotals job
  neat-now k job is = neat (length log) k job (ap (job_in k) (upto-all (length log) log (omega arith)) ∙ is)

  abbrev pub IsGood : Entry → Type 0
  IsGood e = Allowed log e × IsNeatEntry e

  -- What is no work.
  idle-good : (e : Entry) → Writes log e → IsIdleEntry log e → Allowed log e × IsNeatEntry e
  idle-good (JobGone job) w idle = (record { writes = w; owned = tt }, tt)
  idle-good (PodGone pod) w idle = (record { writes = w; owned = tt }, tt)
  idle-good (PodPut pod) w idle = (record { writes = w; owned = λ born. absurd (true≢false (sym (ap (λ t. t && is_never (life pod.uid log)) (same_key-itself pod.owner) ∙ ap is_never born) ∙ idle pod.owner)) }, tt)
  idle-good (JobPut job) w idle = (record { writes = w; owned = tt }, by (job_in job.key log) refl w.can still)
    where
      still : has_new_status job (job_in job.key log) ≡ false
      still = sym (ap (λ t. t && has_new_status job (job_in job.key log)) (same_key-itself job.key)) ∙ idle job.key

      by : (o : Option Job) → job_in job.key log ≡ o → CanJob log o job → has_new_status job o ≡ false → HasIndexTotals job
      by None is can s = empty-neat job (sym ((status-exact empty_status job.status).0 (not-false (same_status empty_status job.status) s)))
      by (Some old) is can s = same-neat old job can.mode can.per_index (sym ((status-exact old.status job.status).0 (not-false (same_status old.status job.status) s))) (neat-now job.key old is)

  quiet-good : (a : Answered) → StaysStored log a → Quiet log a → IfSome a.entry (λ e. Allowed log e × IsNeatEntry e)
  quiet-good a s q = by a.entry s q
    where
      by : (o : Option Entry) → Stored (grown log o) → IfSome o (IsIdleEntry log) → IfSome o (λ e. Allowed log e × IsNeatEntry e)
      by None s q = tt
      by (Some e) s q = idle-good e s.0 q

  -- A request of a sync.
  module _ (now : ℕ) (b : Basis) (some : List (Request × Answer)) (is : IsBasisOf log b) where
    written-stored : (o : Option JobStatus) → Stored (grown log (written_gives log (so_far b some).flight o).entry)
    written-stored None = stored
    written-stored (Some status) = by b.job
      where
        by : (o : Option Job) → Stored (grown log (status_gives log (so_far b some).flight status o).entry)
        by None = stored
        by (Some job) = write_status-stored log stored b.key job.uid (so_far b some).flight.sends status

    ask-stored : (ask : Ask) → Stored (grown log (ask_gives log now b some ask).entry)
    ask-stored (MakePod index) = by b.job
      where
        by : (o : Option Job) → Stored (grown log (make_gives log index now o).entry)
        by None = stored
        by (Some job) = create_pod-stored log stored job index now
    ask-stored (MarkPod pod) = mark_pod-stored log stored pod now
    ask-stored (LetPodGo pod version) = let_go-stored log stored pod version
    ask-stored (ReleasePod pod) = release-stored log stored pod
    ask-stored WriteFirst = written-stored (planned b).first
    ask-stored WriteSecond = written-stored (planned b).second

    -- The Job that is written has the mode and the limit of the one that was seen.
    abbrev Kept : Job → Job → Type 0
    Kept seen current = (current.spec.mode ≡ seen.spec.mode) × (current.spec.per_index ≡ seen.spec.per_index)

    same-spec : (seen : Job) → b.job ≡ Some seen → (current : Job) → job_in seen.key log ≡ Some current → current.uid ≡ seen.uid → Kept seen current
    same-spec seen there current cur uid =
        let whole = upto-all (length log) log (omega arith) in
        let kept = job_kept_to (Kept seen) (λ old new step e. (step.mode ∙ e.0, step.per_index ∙ e.1)) b.key b.jobs_at.0 (length log) log stored is.jobs_at seen (sym is.job ∙ there) (refl, refl) in
        subst (KeptJob seen.uid (Kept seen)) (ap (job_in b.key) whole ∙ ap (λ k. job_in k log) (sym (seen-key log b is seen there)) ∙ cur) kept (ap (λ u. same_uid u seen.uid) uid ∙ same_uid-itself seen.uid)

    seen-neat : (seen : Job) → b.job ≡ Some seen → HasIndexTotals seen
    seen-neat seen there = neat b.jobs_at.0 b.key seen (sym is.job ∙ there)

    status-good : (seen : Job) → b.job ≡ Some seen → (status : JobStatus) (e : Entry) → Writes log e → IsStatus log seen status e → HasIndexTotals (given_status seen status) → Allowed log e × IsNeatEntry e
    status-good seen there status e w s good = subst (λ x. Writes log x → Allowed log x × IsNeatEntry x) (sym s.is)
        (λ w. let kept = same-spec seen there s.current s.there s.uid in (record { writes = w; owned = tt }, same-neat (given_status seen status) (with_status log s.current status) kept.0 kept.1 refl good)) w

    ask-good : (ask : Ask) → IfSome (ask_gives log now b some ask).entry (λ e. Allowed log e × IsNeatEntry e)
    ask-good ask = by (ask_gives log now b some ask).entry (ask-stored ask) (appends log now b some (seen-key log b is) ask)
      where
        one : (e : Entry) → Writes log e → Appends log (planned b) b.job ask e → Allowed log e × IsNeatEntry e
        one e w (Idly q idle) = idle-good e w idle
        one e w (Makes seen pod index a there s owner uid) = subst (λ x. Writes log x → Allowed log x × IsNeatEntry x) (sym s)
            (λ w. (
              record {
                writes = w;
                owned = λ born.
                    ap (λ u. has_job u pod.owner log) uid ∙ ap (λ k. has_job seen.uid k log) (owner ∙ seen-key log b is seen there)
                    ∙ put_upto seen.uid b.key b.jobs_at.0 log (there_put seen.uid b.key (upto b.jobs_at.0 log) seen (sym is.job ∙ there) (same_uid-itself seen.uid));
              },
              tt,
            )) w
        one e w (First seen status a there first s) =
            status-good seen there status e w s (let v = changed-is seen.status (first_value seen b) status (sym (plan-first b seen there) ∙ first) in subst (λ x. HasIndexTotals (given_status seen x)) v (first-neat seen b (seen-neat seen there)))
        one e w (Second seen status a there second s) =
            status-good seen there status e w s (let v = changed-is (first_value seen b) (second_value seen b) status
            (sym (plan-second b seen there) ∙ second) in
            subst (λ x. HasIndexTotals (given_status seen x)) v (second-neat seen b (seen-neat seen there)))

        by : (o : Option Entry) → Stored (grown log o) → IfSome o (Appends log (planned b) b.job ask) → IfSome o (λ e. Allowed log e × IsNeatEntry e)
        by None s h = tt
        by (Some e) s h = one e s.0 h

  -- ---- each act

  finish-good : (uid : Uid) (given : Pod → PhaseChange) → (o : Option Pod) → IfSome (finish_gives log o (λ pod. report_phase_gives log uid (given pod))).entry (λ e. Allowed log e × IsNeatEntry e)
  finish-good uid given None = tt
  finish-good uid given (Some pod) = quiet-good (report_phase_gives log uid (given pod)) (report_phase-stored log stored uid (given pod)) (report-quiet log uid (given pod))

  node-good : (o : Option (Pod × NodeAct)) → IfSome (node_gives log o).entry (λ e. Allowed log e × IsNeatEntry e)
  node-good None = tt
  node-good (Some step) = quiet-good (report_phase_gives log step.0.uid (change_by step.0 step.1)) (report_phase-stored log stored step.0.uid (change_by step.0 step.1)) (report-quiet log step.0.uid (change_by step.0 step.1))

  clock-good : (m : ℕ) → IfSome (clock_gives m).entry (λ e. Allowed log e × IsNeatEntry e)
  clock-good m = by (nat_lt m end_of_moments)
    where
      by : (b : Bool) → IfSome (cond b (refused (reply.Now m)) (refused reply.ClockEnd)).entry (λ e. Allowed log e × IsNeatEntry e)
      by true = tt
      by false = tt

  deliver-good : (window : ℕ) (o : Option Version) → IfSome (deliver_gives log window o).entry (λ e. Allowed log e × IsNeatEntry e)
  deliver-good window None = tt
  deliver-good window (Some version) = by (nat_lt version.0 (length log - window)) (version.0 == length log)
    where
      by : (b e : Bool) → IfSome (cond {A = Answered} b (refused (reply.Expired (record { 0 = length log - window })))
          (cond e (refused reply.UpToDate) (refused (reply.Delivered (record { 0 = version.0 + 1 }))))).entry
          (λ e. Allowed log e × IsNeatEntry e)
      by true e = tt
      by false true = tt
      by false false = tt

  step-good : (now : ℕ) (old : List Note) → IsBounded log old → (w : ℕ) (fault : Option Fault) (o : Option Basis) → register w old ≡ o → IfSome (step_gives log now (made w old) fault o).entry (λ e. Allowed log e × IsNeatEntry e)
  step-good now old bounded w fault None r = tt
  step-good now old bounded w fault (Some b) r = by fault (so_far b (made w old)).left
    where
      by : (fault : Option Fault) (left : List Ask) → IfSome (step_done (stepped_at now fault log (so_far b (made w old)).flight left)).entry (λ e. Allowed log e × IsNeatEntry e)
      by fault [] = tt
      by (Some Drop) (ask ∷ left) = tt
      by (Some Lose) (ask ∷ left) = ask-good now b (made w old) (bounded.flights w b r).basis ask
      by None (ask ∷ left) = ask-good now b (made w old) (bounded.flights w b r).basis ask

act-good : (shape : Shape) (past : List Deed) → shape.controllers ≡ 1 → (act : Act) → IsOfShape shape act → Legal (log_given shape past) → AlwaysHaveIndexTotals (log_given shape past) → IsBounded
    (log_given shape past) (notes shape 0 past (log_given shape past))
    → IfSome (gives shape past (log_given shape past) act).entry (λ e. Allowed (log_given shape past) e × IsNeatEntry e)
unfolding gives
act-good shape past one (does.Create key spec) w l n b = let log = log_given shape past in
    quiet-good log l n (create_job_gives log key spec (moment shape past))
    (create_job-stored log (Stored-from_legal log l) key spec (moment shape past))
    (create-quiet log key spec (moment shape past))
act-good shape past one (does.Update key version given) w l n b = let log = log_given shape past in
    quiet-good log l n (update_spec_gives log key version given)
    (update_spec-stored log (Stored-from_legal log l) key version given) (update-quiet log key version given)
act-good shape past one (does.Delete key) w l n b = let log = log_given shape past in quiet-good log l n (delete_job_gives log key) (delete_job-stored log (Stored-from_legal log l) key) (delete-quiet log key)
act-good shape past one (does.Mark pod) w l n b = let log = log_given shape past in
    quiet-good log l n (mark_pod_gives log pod (moment shape past))
    (mark_pod-stored log (Stored-from_legal log l) pod (moment shape past)) (mark-quiet log pod (moment shape past))
act-good shape past one (does.Strip pod) w l n b = let log = log_given shape past in quiet-good log l n (release_gives log pod) (release-stored log (Stored-from_legal log l) pod) (release-quiet log pod)
act-good shape past one (does.Finish uid exit) w l n b = finish-good (log_given shape past) l n uid (λ pod. finish_change pod exit) (pod_in uid (log_given shape past))
act-good shape past one (does.Report pod given) w l n b = let log = log_given shape past in quiet-good log l n (report_phase_gives log pod given) (report_phase-stored log (Stored-from_legal log l) pod given) (report-quiet log pod given)
act-good shape past one (does.Fate key ends) w l n b = tt
act-good shape past one (does.Clock add) w l n b = clock-good (log_given shape past) l n (moment shape past + add)
act-good shape past one (does.List c kind) w l n b = tt
act-good shape past one (does.Deliver c kind) w l n b = deliver-good (log_given shape past) l n shape.window (number kind (notes shape c past (log_given shape past)))
act-good shape past one (does.Begin c v) w l n b = by (register v (notes shape c past (log_given shape past)))
  where
    by : (o : Option Basis) → IfSome (begin_gives o (begin_of (notes shape c past (log_given shape past)) (log_given shape past) (moment shape past))).entry (λ e. Allowed (log_given shape past) e × IsNeatEntry e)
    by None = tt
    by (Some basis) = tt
act-good shape past one (does.Step zero v) w l n b = step-good (log_given shape past) l n (moment shape past)
    (notes shape 0 past (log_given shape past)) b v (pending v (notes shape 0 past (log_given shape past)))
    (register v (notes shape 0 past (log_given shape past))) refl
act-good shape past one (does.Step (suc c) v) w l n b = let lt = w.0 in absurd (omega (arith, one, lt))
act-good shape past one does.Node w l n b = node-good (log_given shape past) l n (node_step (log_given shape past) (fate past))
act-good shape past one (does.Restart c) w l n b = tt
act-good shape past one (does.PutFault c v fault) w l n b = tt
act-good shape past one does.Settle w l n b = tt
act-good shape past one does.Unknown w l n b = tt

-- ---- every legal history

neat-more : (e : Entry) (log : List Entry) → AlwaysHaveIndexTotals log → IsNeatEntry e → AlwaysHaveIndexTotals (e ∷ log)
neat-more e log h good = λ n k job is. by n k job (nat_lt (length log) n) is
  where
    now : (e : Entry) → IsNeatEntry e → (k : Key) (job : Job) → job_in k (e ∷ log) ≡ Some job → HasIndexTotals job
    now (JobPut put) good k job is = at (same_key put.key k) is
      where
        at : (t : Bool) → cond t (Some put) (job_in k log) ≡ Some job → HasIndexTotals job
        at true e = subst HasIndexTotals (some_is put job e) good
        at false e = h (length log) k job (ap (job_in k) (upto-all (length log) log (omega arith)) ∙ e)
    now (JobGone gone) good k job is = at (same_key gone.key k) is
      where
        at : (t : Bool) → cond t None (job_in k log) ≡ Some job → HasIndexTotals job
        at true e = absurd (true≢false (sym (ap is_some e)))
        at false e = h (length log) k job (ap (job_in k) (upto-all (length log) log (omega arith)) ∙ e)
    now (PodPut pod) good k job is = h (length log) k job (ap (job_in k) (upto-all (length log) log (omega arith)) ∙ is)
    now (PodGone pod) good k job is = h (length log) k job (ap (job_in k) (upto-all (length log) log (omega arith)) ∙ is)

    by : (n : ℕ) (k : Key) (job : Job) (t : Bool) → job_in k (cond t (e ∷ log) (upto n log)) ≡ Some job → HasIndexTotals job
    by n k job true is = now e good k job is
    by n k job false is = h n k job is

pub legal-log : (shape : Shape) (deeds : List Deed) → shape.controllers ≡ 1 → IsLegal shape deeds → Legal (log_given shape deeds) × AlwaysHaveIndexTotals (log_given shape deeds)
unfolding log_given
legal-log shape [] one h = (tt, λ n k job is. absurd (true≢false (sym (ap is_some is))))
legal-log shape (d ∷ past) one h =
    let before = legal-log shape past one h.1 in
    by before (gives shape past (log_given shape past) d.act).entry (act-good shape past one d.act h.0.within before.0 before.1 (legal-bounded shape past one h.1 (Stored-from_legal (log_given shape past) before.0)))
  where
    by : Legal (log_given shape past) × AlwaysHaveIndexTotals (log_given shape past) → (o : Option Entry) → IfSome o (λ e. Allowed (log_given shape past) e × IsNeatEntry e) → Legal
        (grown (log_given shape past) o) × AlwaysHaveIndexTotals (grown (log_given shape past) o)
    by before None good = before
    by before (Some e) good = ((good.0, before.0), neat-more e (log_given shape past) before.1 good.1)
