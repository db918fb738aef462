-- What one deed of a legal history does to the log and to the notes of the one controller: a few cases in place of the
-- eighteen acts.
use Rattle.std.proofs.Common.{◌≡◌, ℕ, zero, suc, ◌+◌, ◌-◌, ◌≤◌, ◌==◌, nat_lt, Bool, true, false, cond, not, ◌&&◌, List, [], ◌∷◌, ◌++◌, length, find, Option, Some, None, IfSome, refl, sym, ap, ◌∙◌, subst, arith, ◌⊎◌, inl, inr}
use Rattle.std.specs.Option.{option_map, option_to_list}
use Rattle.jc_log.specs.Acts as does
use Rattle.jc_control.specs.declared.begins.Lag.{Lag}
use Rattle.jc_control.specs.declared.ends.SyncEnd.{SyncEnd}
use Rattle.jc_control.specs.declared.ends.SyncEnd.TheVariants as how
use Rattle.jc_control.specs.ControllerCalls.{forgets_caches}
use Rattle.jc_moment.specs.Range.{end_of_moments}
use Rattle.jc_plan.specs.Plans.{planned}
use Rattle.jc_types.specs.declared.actions.ContainerChange.{ContainerChange}
use Rattle.jc_types.specs.declared.actions.Fault.{Fault}
use Rattle.jc_types.specs.declared.actions.Fault.TheVariants.{Drop, Lose}
use Rattle.jc_types.specs.declared.actions.PhaseChange.{PhaseChange}
use Rattle.jc_types.specs.declared.actions.SpecChange.{SpecChange}
use Rattle.jc_types.specs.declared.numbers.Uid.{Uid}
use Rattle.jc_types.specs.declared.numbers.Version.{Version}
use Rattle.jc_types.specs.declared.objects.Entry.{Entry}
use Rattle.jc_types.specs.declared.objects.Entry.TheVariants.{JobPut, PodPut, PodGone}
use Rattle.jc_types.specs.declared.objects.Job.{Job}
use Rattle.jc_types.specs.declared.objects.Kind.{Kind}
use Rattle.jc_types.specs.declared.objects.Kind.TheVariants.{Jobs, Pods}
use Rattle.jc_types.specs.declared.objects.Phase.TheVariants.{Pending, Running}
use Rattle.jc_types.specs.declared.objects.Pod.{Pod}
use Rattle.jc_types.specs.declared.replies.Answer.{Answer}
use Rattle.jc_types.specs.declared.replies.Answer.TheVariants as answer
use Rattle.jc_types.specs.declared.replies.Reply.{Reply}
use Rattle.jc_types.specs.declared.replies.Reply.TheVariants as reply
use Rattle.jc_types.specs.declared.runs.Shape.{Shape}
use Rattle.jc_types.specs.declared.specifications.JobSpec.{JobSpec}
use Rattle.jc_states.specs.declared.bases.Basis.{Basis}
use Rattle.jc_log.specs.Requests.{Answered, accepted, changed_spec, create_job_at, create_job_gives, delete_job_at, delete_job_gives, empty_status, grown, is_other, is_unnamed, let_go_at, let_go_gives, made_job, mark_pod_at, mark_pod_gives}
use Rattle.jc_log.specs.Requests.{pod_entry, refused, release_at, release_gives, released, report_phase_at, report_phase_gives, report_unless, same_course_of, update_refusal, update_spec_at, update_spec_gives, update_unless, with_mark}
use Rattle.jc_log.specs.Requests.{with_report, with_spec, without_finalizer}
use Rattle.jc_log.specs.Acts.{Act}
use Rattle.jc_log.specs.Deeds.{Deed}
use Rattle.jc_types.specs.declared.objects.KeyNames.{KeyNames as Key}
use Rattle.jc_types.specs.Keys.{same_key}
use Rattle.jc_log.specs.Log.{Live, is_never, job_in, life, next_version, pod_in}
use Rattle.jc_states.specs.Pods.{goes, is_final, is_marked}
use Rattle.jc_types.specs.Equality.{same_limits, same_phase}
use Rattle.jc_types.proofs.KeyFacts.{same_key-eq}
use Rattle.jc_log.proofs.PodFacts.{living-live}
use Rattle.jc_types.proofs.EqualityFacts.{status-exact}
use Rattle.jc_log.proofs.WriteFacts.{job_in-key, life-uid}
use Rattle.jc_asks.specs.declared.asks.Ask.{Ask}
use Rattle.jc_asks.specs.Asks.{as_request}
use Rattle.jc_history.specs.SoFar.{so_far}
use Rattle.jc_bounds.proofs.RequestFacts.{next-is}
use Rattle.jc_bounds.specs.RequestKinds.{next_by_kind, ask_gives}
use Rattle.jc_history.specs.Diaries.{end_by, moment, notes_taken, notes, on_begin, on_clock, on_delivery, on_step, restarts, on_lag}
use Rattle.jc_history.specs.Fresh.{basis, begin as begin_of, begin_at, begin_first, begin_unless, cache_lag}
use Rattle.jc_history.specs.Legal.{IsLegal, IsOfShape}
use Rattle.jc_history.specs.Lines.{line}
use Rattle.jc_history.specs.Nodes.{NodeAct, change_by, fate, finish_change, node_step}
use Rattle.jc_history.specs.Notes.{Note, Listed, Told, Expired, SentBack, Asked, Ended, Faulted, Ticked, Began as BeganNote}
use Rattle.jc_history.specs.Numbers.{number}
use Rattle.jc_history.specs.Registers.{asks_status, made, pending, register}
use Rattle.jc_asks.specs.Steps.{as_answer, stepped_at}
use Rattle.jc_history.specs.Replies.{begin_gives, clock_gives, deliver_gives, finish_gives, gives, log_after, log_given, node_done, node_gives, reply_of_begin, reply_given, step_done, step_gives}
use Rattle.jc_history.proofs.LegalFacts.{notes-next}
use Rattle.jc_bounds.specs.Work.{has_new_status, is_work}

-- ---- what others append is no work of a sync

abbrev pub IsIdleEntry : List Entry → Entry → Type 0
IsIdleEntry log e = (k : Key) → is_work k e log ≡ false

abbrev pub Quiet : List Entry → Answered → Type 0
Quiet log a = IfSome a.entry (IsIdleEntry log)

and-false : (b : Bool) → (b && false) ≡ false
and-false true = refl
and-false false = refl

module _ (log : List Entry) where
  put-idle : (key : Key) (o : Option Job) (job : Job) → job_in key log ≡ o → job.key ≡ key → has_new_status job o ≡ false → IsIdleEntry log (JobPut job)
  put-idle key o job is own still k = by (same_key job.key k) refl
    where
      by : (b : Bool) → same_key job.key k ≡ b → (b && has_new_status job (job_in k log)) ≡ false
      by true t = ap (λ q. has_new_status job (job_in q log)) (sym (same_key-eq job.key k t) ∙ own) ∙ ap (has_new_status job) is ∙ still
      by false t = refl

  old-status : (old new : Job) → new.status ≡ old.status → has_new_status new (Some old) ≡ false
  old-status old new e = ap not ((status-exact old.status new.status).1 (sym e))

  pod-idle : (u : Uid) (old new : Pod) → pod_in u log ≡ Some old → new.uid ≡ old.uid → IsIdleEntry log (pod_entry new)
  pod-idle u old new is same k = by (goes new)
    where
      lives : life new.uid log ≡ Live old
      lives = ap (λ v. life v log) (same ∙ life-uid u log old (living-live (life u log) old is)) ∙ living-live (life u log) old is

      by : (b : Bool) → is_work k (cond b (PodGone new) (PodPut new)) log ≡ false
      by true = refl
      by false = ap (λ l. same_key new.owner k && is_never l) lives ∙ and-false (same_key new.owner k)

  pub create-quiet : (key : Key) (spec : JobSpec) (now : ℕ) → Quiet log (create_job_gives log key spec now)
  create-quiet key spec now = by (job_in key log) refl
    where
      by : (o : Option Job) → job_in key log ≡ o → Quiet log (create_job_at log key spec now o)
      by None is = put-idle key None (made_job log key spec now) is refl (ap not ((status-exact empty_status empty_status).1 refl))
      by (Some job) is = tt

  pub update-quiet : (key : Key) (version : Option Version) (given : SpecChange) → Quiet log (update_spec_gives log key version given)
  update-quiet key version given = by (job_in key log) refl
    where
      changed : (job : Job) → job_in key log ≡ Some job → (b : Bool) → Quiet log (cond b (refused (reply.Unchanged job.version)) (accepted (reply.Written (next_version log)) (JobPut (with_spec log job (changed_spec job.spec given)))))
      changed job is true = tt
      changed job is false = put-idle key (Some job) (with_spec log job (changed_spec job.spec given)) is (job_in-key key log job is) (old-status job (with_spec log job (changed_spec job.spec given)) refl)

      unless : (job : Job) → job_in key log ≡ Some job → (o : Option Reply) → Quiet log (update_unless log job given o)
      unless job is None = changed job is (same_limits job.spec (changed_spec job.spec given))
      unless job is (Some r) = tt

      other : (job : Job) → job_in key log ≡ Some job → (b : Bool) → Quiet log (cond b (refused (reply.Conflict job.version)) (update_unless log job given (update_refusal job.spec given)))
      other job is true = tt
      other job is false = unless job is (update_refusal job.spec given)

      by : (o : Option Job) → job_in key log ≡ o → Quiet log (update_spec_at log version given o)
      by None is = tt
      by (Some job) is = other job is (is_other version job.version)

  pub delete-quiet : (key : Key) → Quiet log (delete_job_gives log key)
  delete-quiet key = by (job_in key log)
    where
      by : (o : Option Job) → Quiet log (delete_job_at log o)
      by None = tt
      by (Some job) = λ k. refl

  pub mark-quiet : (u : Uid) (now : ℕ) → Quiet log (mark_pod_gives log u now)
  mark-quiet u now = by (pod_in u log) refl
    where
      marked : (old : Pod) → pod_in u log ≡ Some old → (b : Bool) → Quiet log (cond b (refused (reply.Unchanged old.version)) (accepted (reply.Written (next_version log)) (pod_entry (with_mark log old now))))
      marked old is true = tt
      marked old is false = pod-idle u old (with_mark log old now) is refl

      by : (o : Option Pod) → pod_in u log ≡ o → Quiet log (mark_pod_at log now o)
      by None is = tt
      by (Some old) is = marked old is (is_marked old)

  taken : (u : Uid) (old : Pod) → pod_in u log ≡ Some old → (b : Bool) → Quiet log (cond b (released log old) (refused reply.NotTracked))
  taken u old is true = pod-idle u old (without_finalizer log old) is refl
  taken u old is false = tt

  pub release-quiet : (u : Uid) → Quiet log (release_gives log u)
  release-quiet u = by (pod_in u log) refl
    where
      by : (o : Option Pod) → pod_in u log ≡ o → Quiet log (release_at log o)
      by None is = tt
      by (Some old) is = taken u old is old.tracked

  pub let_go-quiet : (u : Uid) (version : Version) → Quiet log (let_go_gives log u version)
  let_go-quiet u version = by (pod_in u log) refl
    where
      other : (old : Pod) → pod_in u log ≡ Some old → (b : Bool) → Quiet log (cond b (refused (reply.Conflict old.version)) (cond old.tracked (released log old) (refused reply.NotTracked)))
      other old is true = tt
      other old is false = taken u old is old.tracked

      by : (o : Option Pod) → pod_in u log ≡ o → Quiet log (let_go_at log version o)
      by None is = tt
      by (Some old) is = other old is (not (old.version.0 == version.0))

  pub report-quiet : (u : Uid) (given : PhaseChange) → Quiet log (report_phase_gives log u given)
  report-quiet u given = by (pod_in u log) refl
    where
      course : (old : Pod) → pod_in u log ≡ Some old → (b : Bool) → Quiet log (cond b (refused (reply.Unchanged old.version)) (accepted (reply.Written (next_version log)) (pod_entry (with_report log old given))))
      course old is true = tt
      course old is false = pod-idle u old (with_report log old given) is refl

      unless : (old : Pod) → pod_in u log ≡ Some old → (o : Option ContainerChange) → Quiet log (report_unless log old given o)
      unless old is (Some unnamed) = tt
      unless old is None = course old is (same_course_of old (with_report log old given))

      final : (old : Pod) → pod_in u log ≡ Some old → (a b : Bool) → Quiet log (cond a (refused (reply.Final old.phase)) (cond b (refused (reply.BadStep Running Pending)) (report_unless log old given (find (is_unnamed old) given.containers))))
      final old is true b = tt
      final old is false true = tt
      final old is false false = unless old is (find (is_unnamed old) given.containers)

      by : (o : Option Pod) → pod_in u log ≡ o → Quiet log (report_phase_at log given o)
      by None is = tt
      by (Some old) is = final old is (is_final old.phase) (same_phase old.phase Running && same_phase given.phase Pending)

-- ---- the cases

abbrev pub IsBefore : Option Version → Version → Type 0
IsBefore None version = ⊥
IsBefore (Some old) version = old.0 ≤ version.0

-- A note that tells of no sync: a list is at the end of the log, and a delivery is past the cache's number.
abbrev pub IsNews : ℕ → List Note → Note → Type 0
IsNews n older (Listed kind at keys) = at.0 ≡ n
IsNews n older (Told kind version key) = IsBefore (number kind older) version
IsNews n older (Expired kind) = Unit {0}
IsNews n older (SentBack key) = Unit {0}
IsNews n older (Faulted worker fault) = Unit {0}
IsNews n older (Ticked now) = Unit {0}
IsNews n older other = ⊥

pub data Turn (now : ℕ) (log : List Entry) (old : List Note) (log' : List Entry) (new : List Note) : Type 0 where
  Still : log' ≡ log → new ≡ old → Turn now log old log' new
  Restarted : log' ≡ log → new ≡ [] → Turn now log old log' new
  Noted : (note : Note) → log' ≡ log → new ≡ note ∷ old → IsNews (length log) old note → Turn now log old log' new
  Wrote : (e : Entry) → log' ≡ e ∷ log → new ≡ old → IsIdleEntry log e → Turn now log old log' new
  Began : (w : ℕ) (k : Key) (j p : Version) → number Jobs old ≡ Some j → number Pods old ≡ Some p → cache_lag old log k j p ≡ None → register w old ≡ None
      → log' ≡ log → new ≡ BeganNote w (basis old log now k j p) ∷ old → Turn now log old log' new
  Stepped : (w : ℕ) (b : Basis) (ask : Ask) (given : Answer) (o : Option Entry) → register w old ≡ Some b → next_by_kind (planned b) (made w old) ≡ Some ask
      → given ≡ as_answer (ask_gives log now b (made w old) ask).reply → o ≡ (ask_gives log now b (made w old) ask).entry
      → log' ≡ grown log o → new ≡ Asked w b (as_request ask) given ∷ old → Turn now log old log' new
  Stopped : (w : ℕ) (b : Basis) (ask : Ask) (given : Answer) (o : Option Entry) (end : SyncEnd) → register w old ≡ Some b → next_by_kind (planned b) (made w old) ≡ Some ask
      → (o ≡ None) ⊎ (o ≡ (ask_gives log now b (made w old) ask).entry)
      → (forgets_caches end ≡ true) ⊎ ((given ≡ as_answer (ask_gives log now b (made w old) ask).reply) × (o ≡ (ask_gives log now b (made w old) ask).entry))
      → log' ≡ grown log o → new ≡ Ended w b end now ∷ Asked w b (as_request ask) given ∷ old → Turn now log old log' new
  Finished : (w : ℕ) (b : Basis) → register w old ≡ Some b → log' ≡ log → new ≡ Ended w b (how.Ended (planned b).next) now ∷ old → Turn now log old log' new

module _ (now : ℕ) (log : List Entry) (old : List Note) where
  by-other : (a : Answered) → Quiet log a → Turn now log old (grown log a.entry) old
  by-other a q = by a.entry q
    where
      by : (o : Option Entry) → IfSome o (IsIdleEntry log) → Turn now log old (grown log o) old
      by None q = Still refl refl
      by (Some e) q = Wrote e refl refl q

  by-finish : (uid : Uid) (given : Pod → PhaseChange) → Turn now log old (grown log (finish_gives log (pod_in uid log) (λ pod. report_phase_gives log uid (given pod))).entry) old
  by-finish uid given = by (pod_in uid log)
    where
      by : (o : Option Pod) → Turn now log old (grown log (finish_gives log o (λ pod. report_phase_gives log uid (given pod))).entry) old
      by None = Still refl refl
      by (Some pod) = by-other (report_phase_gives log uid (given pod)) (report-quiet log uid (given pod))

  by-node : (o : Option (Pod × NodeAct)) → Turn now log old (grown log (node_gives log o).entry) old
  by-node None = Still refl refl
  by-node (Some step) = by-other (node_done step.0 step.1 (report_phase_gives log step.0.uid (change_by step.0 step.1))) (report-quiet log step.0.uid (change_by step.0 step.1))

  by-clock : (m : ℕ) → Turn now log old (grown log (clock_gives m).entry) (on_clock (clock_gives m).reply ++ old)
  by-clock m = by (nat_lt m end_of_moments)
    where
      by : (b : Bool) → Turn now log old (grown log (cond b (refused (reply.Now m)) (refused reply.ClockEnd)).entry) (on_clock (cond b (refused (reply.Now m)) (refused reply.ClockEnd)).reply ++ old)
      by true = Noted (Ticked m) refl refl tt
      by false = Still refl refl

  by-delivery : (kind : Kind) (window : ℕ) (o : Option Version) → number kind old ≡ o
      → Turn now log old (grown log (deliver_gives log window o).entry)
      (on_delivery kind (grown log (deliver_gives log window o).entry) (deliver_gives log window o).reply ++ old)
  by-delivery kind window None is = Still refl refl
  by-delivery kind window (Some version) is = by (nat_lt version.0 (length log - window)) (version.0 == length log)
    where
      answer : Bool → Bool → Answered
      answer b e = cond b (refused (reply.Expired (record { 0 = length log - window }))) (cond e (refused reply.UpToDate) (refused (reply.Delivered (record { 0 = version.0 + 1 }))))

      by : (b e : Bool) → Turn now log old (grown log (answer b e).entry) (on_delivery kind (grown log (answer b e).entry) (answer b e).reply ++ old)
      by true e = Noted (Expired kind) refl refl tt
      by false true = Still refl refl
      by false false = Noted _ refl refl (subst (λ o. IsBefore o (record { 0 = version.0 + 1 })) (sym is) (omega arith))

  by-begin : (w : ℕ) (o : Option Basis) → register w old ≡ o
      → Turn now log old (grown log (begin_gives o (begin_of old log now)).entry)
      (on_begin w now (grown log (begin_gives o (begin_of old log now)).entry) old
      (begin_gives o (begin_of old log now)).reply ++ old)
  by-begin w (Some b) is = Still refl refl
  by-begin w None is = at_numbers (number Jobs old) refl (number Pods old) refl
    where
      unless : (j p : Version) (k : Key) → number Jobs old ≡ Some j → number Pods old ≡ Some p → (o : Option Lag)
          → cache_lag old log k j p ≡ o → Turn now log old log
          (on_begin w now log old (reply_of_begin (begin_unless (basis old log now k j p) o)) ++ old)
      unless j p k a b None l = Began w k j p a b l is refl refl
      unless j p k a b (Some behind) l = back (line old)
        where
          back : (some : List Key) → Turn now log old log (on_lag some ++ old)
          back [] = Still refl refl
          back (first ∷ rest) = Noted (SentBack first) refl refl tt

      by : (j p : Version) → number Jobs old ≡ Some j → number Pods old ≡ Some p → (some : List Key) → Turn now log old log (on_begin w now log old (reply_of_begin (begin_first old log now j p some)) ++ old)
      by j p a b [] = Still refl refl
      by j p a b (k ∷ rest) = unless j p k a b (cache_lag old log k j p) refl

      at_numbers : (a : Option Version) → number Jobs old ≡ a → (b : Option Version) → number Pods old ≡ b → Turn now log old log (on_begin w now log old (reply_of_begin (begin_at old log now a b)) ++ old)
      at_numbers None e b f = Still refl refl
      at_numbers (Some j) e None f = Still refl refl
      at_numbers (Some j) e (Some p) f = by j p e f (line old)

  by-step : (w : ℕ) (fault : Option Fault) (o : Option Basis) → register w old ≡ o → Turn now log old (grown log (step_gives log now (made w old) fault o).entry) (on_step w now o (step_gives log now (made w old) fault o).reply ++ old)
  by-step w fault None is = Still refl refl
  by-step w fault (Some b) is = by fault (so_far b (made w old)).left refl
    where
      by : (fault : Option Fault) (left : List Ask) → (so_far b (made w old)).left ≡ left
          → Turn now log old (grown log (step_done
          (stepped_at now fault log (so_far b (made w old)).flight left)).entry)
          (on_step w now (Some b) (step_done (stepped_at now fault log (so_far b (made w old)).flight left)).reply
          ++ old)
      by fault [] e = Finished w b is refl refl
      by (Some Drop) (ask ∷ left) e = Stopped w b ask answer.Unavailable None how.Unavailable is (next-is (planned b) (made w old) ask left e) (inl refl) (inl refl) refl refl
      by (Some Lose) (ask ∷ left) e = Stopped w b ask answer.Unavailable (ask_gives log now b (made w old) ask).entry how.Unavailable is (next-is (planned b) (made w old) ask left e) (inr refl) (inl refl) refl refl
      by None (ask ∷ left) e = at_end (end_by (asks_status (as_request ask)) (as_answer (ask_gives log now b (made w old) ask).reply))
        where
          given : Answer
          given = as_answer (ask_gives log now b (made w old) ask).reply

          at_end : (o : Option SyncEnd) → Turn now log old (grown log (ask_gives log now b (made w old) ask).entry)
              ((option_to_list (option_map (λ end. Ended w b end now) o) ++ Asked w b (as_request ask) (as_answer (ask_gives log now b (made w old) ask).reply) ∷ []) ++ old)
          at_end None = Stepped w b ask given (ask_gives log now b (made w old) ask).entry is (next-is (planned b) (made w old) ask left e) refl refl refl refl
          at_end (Some end) = Stopped w b ask given (ask_gives log now b (made w old) ask).entry end is (next-is (planned b) (made w old) ask left e) (inr refl) (inr (refl, refl)) refl refl

-- Each act is one of these.
turn_of : (shape : Shape) (past : List Deed) → shape.controllers ≡ 1 → (act : Act) → IsOfShape shape act → let log = log_given shape past in let old = notes shape 0 past log in
    Turn (moment shape past) log old (log_after shape past log act) (cond (restarts 0 act) [] (notes_taken 0 act (reply_given shape past log act) (moment shape past) (log_after shape past log act) old ++ old))
unfolding gives
turn_of shape past one (does.Create key spec) w = by-other _ _ _ (create_job_gives (log_given shape past) key spec (moment shape past)) (create-quiet (log_given shape past) key spec (moment shape past))
turn_of shape past one (does.Update key version given) w = by-other _ _ _ (update_spec_gives (log_given shape past) key version given) (update-quiet (log_given shape past) key version given)
turn_of shape past one (does.Delete key) w = by-other _ _ _ (delete_job_gives (log_given shape past) key) (delete-quiet (log_given shape past) key)
turn_of shape past one (does.Mark pod) w = by-other _ _ _ (mark_pod_gives (log_given shape past) pod (moment shape past)) (mark-quiet (log_given shape past) pod (moment shape past))
turn_of shape past one (does.Strip pod) w = by-other _ _ _ (release_gives (log_given shape past) pod) (release-quiet (log_given shape past) pod)
turn_of shape past one (does.Finish uid exit) w = by-finish (moment shape past) (log_given shape past) (notes shape 0 past (log_given shape past)) uid (λ pod. finish_change pod exit)
turn_of shape past one (does.Report pod given) w = by-other _ _ _ (report_phase_gives (log_given shape past) pod given) (report-quiet (log_given shape past) pod given)
turn_of shape past one (does.Fate key ends) w = Still refl refl
turn_of shape past one (does.Clock add) w = by-clock (moment shape past) (log_given shape past) (notes shape 0 past (log_given shape past)) (moment shape past + add)
turn_of shape past one (does.List zero kind) w = Noted _ refl refl refl
turn_of shape past one (does.List (suc c) kind) w = absurd (omega (arith, one, w))
turn_of shape past one (does.Deliver zero kind) w = by-delivery (moment shape past) (log_given shape past) (notes shape 0 past (log_given shape past)) kind shape.window (number kind (notes shape 0 past (log_given shape past))) refl
turn_of shape past one (does.Deliver (suc c) kind) w = absurd (omega (arith, one, w))
turn_of shape past one (does.Begin zero v) w = by-begin (moment shape past) (log_given shape past) (notes shape 0 past (log_given shape past)) v (register v (notes shape 0 past (log_given shape past))) refl
turn_of shape past one (does.Begin (suc c) v) w = let lt = w.0 in absurd (omega (arith, one, lt))
turn_of shape past one (does.Step zero v) w = by-step (moment shape past) (log_given shape past)
    (notes shape 0 past (log_given shape past)) v (pending v (notes shape 0 past (log_given shape past)))
    (register v (notes shape 0 past (log_given shape past))) refl
turn_of shape past one (does.Step (suc c) v) w = let lt = w.0 in absurd (omega (arith, one, lt))
turn_of shape past one does.Node w = by-node (moment shape past) (log_given shape past) (notes shape 0 past (log_given shape past)) (node_step (log_given shape past) (fate past))
turn_of shape past one (does.Restart zero) w = Restarted refl refl
turn_of shape past one (does.Restart (suc c)) w = absurd (omega (arith, one, w))
turn_of shape past one (does.PutFault zero v fault) w = Noted (Faulted v fault) refl refl tt
turn_of shape past one (does.PutFault (suc c) v fault) w = let lt = w.0 in absurd (omega (arith, one, lt))
turn_of shape past one does.Settle w = Still refl refl
turn_of shape past one does.Unknown w = Still refl refl

-- So is each deed of a legal history.
pub turn : (shape : Shape) (past : List Deed) (d : Deed) → shape.controllers ≡ 1 → IsLegal shape (d ∷ past)
    → Turn (moment shape past) (log_given shape past) (notes shape 0 past (log_given shape past)) (log_given shape (d ∷ past)) (notes shape 0 (d ∷ past) (log_given shape (d ∷ past)))
unfolding log_given
turn shape past d one h =
    subst (Turn (moment shape past) (log_given shape past) (notes shape 0 past (log_given shape past)) (log_given shape (d ∷ past)))
    (ap (λ r. cond (restarts 0 d.act) [] (notes_taken 0 d.act r (moment shape past) (log_given shape (d ∷ past))
    (notes shape 0 past (log_given shape past)) ++ notes shape 0 past (log_given shape past))) (sym h.0.reply)
    ∙ sym (notes-next shape 0 past d h.1))
    (turn_of shape past one d.act h.0.within)
