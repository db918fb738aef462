-- Steps: the store, the controller and the register together.
use Rattle.std.proofs.Common.{◌≡◌, ℕ, ◌==◌, ◌&&◌, Bool, true, false, not, cond, List, [], ◌∷◌, ◌++◌, set, slice_get, Option, Some, None, refl, sym, ap, ◌∙◌, subst, true≢false, eq-eqb, ne_eqb, ◌⊎◌, inl, inr}
use Rattle.std.specs.Option.{option_map, option_or, option_to_list, unwrap_or}
use Rattle.jc_log.specs.Acts as does
use Rattle.jc_control.specs.Schedules.{Schedule}
use Rattle.jc_control.specs.ControllerCalls.{ended, forgets_caches, kept_backoff}
use Rattle.jc_control.specs.declared.ends.SyncEnd.{SyncEnd}
use Rattle.jc_control.specs.declared.ends.SyncEnd.TheVariants as how
use Rattle.jc_plan.specs.Plans.{planned}
use Rattle.jc_control.specs.Queued.{has_key, Queued}
use Rattle.jc_types.specs.declared.actions.Fault.{Fault}
use Rattle.jc_types.specs.declared.actions.Fault.TheVariants.{Drop, Lose}
use Rattle.jc_types.specs.declared.numbers.Version.{Version}
use Rattle.jc_types.specs.declared.objects.Entry.{Entry}
use Rattle.jc_types.specs.declared.replies.Answer.{Answer}
use Rattle.jc_types.specs.declared.replies.Answer.TheVariants as answer
use Rattle.jc_types.specs.declared.replies.Reply.{Reply}
use Rattle.jc_types.specs.declared.replies.Reply.TheVariants as reply
use Rattle.jc_types.specs.declared.replies.Request.{Request}
use Rattle.jc_types.specs.declared.runs.Shape.{Shape}
use Rattle.jc_states.specs.declared.bases.Basis.{Basis}
use Rattle.jc_log.specs.Requests.{Answered, let_go_at, mark_pod_at, release_at, write_status_at}
use Rattle.jc_types.specs.declared.numbers.Uid.{Uid}
use Rattle.jc_types.specs.declared.objects.Job.{Job}
use Rattle.jc_types.specs.declared.objects.Pod.{Pod}
use Rattle.jc_types.specs.declared.statuses.JobStatus.{JobStatus}
use Rattle.jc_types.specs.declared.syncs.Backoff.{Backoff}
use Rattle.jc_types.specs.declared.objects.KeyNames.{KeyNames as Key}
use Rattle.jc_types.specs.Keys.{same_uid}
use Rattle.jc_log.specs.Log.{job_in, pod_in}
use Rattle.jc_states.specs.Pods.{is_marked}
use Rattle.jc_types.specs.Equality.{same_status}
use Rattle.jc_ledger.specs.declared.flights.Flight.{Flight}
use Rattle.jc_log.specs.Deeds.{Deed}
use Rattle.jc_history.specs.Agrees.{IsScheduleOf}
use Rattle.jc_history.specs.Diaries.{end_by, moment, notes, on_step}
use Rattle.jc_history.specs.Legal.{IsLegal}
use Rattle.jc_history.specs.Notes.{Note, Asked, Ended, newest}
use Rattle.jc_history.specs.SoFar.{is_write_first}
use Rattle.jc_types.specs.declared.replies.Request.TheVariants as request
use Rattle.jc_history.specs.Registers.{fault_told, is_first, asks_status, tells_written, made, pending, register, register_told}
use Rattle.jc_asks.specs.Steps.{floor_given, Sync, as_answer, answered_to, end_given, flight_after, make_gives, status_gives, written_gives, next_unless, stepped_at}
use Rattle.jc_history.specs.Replies.{log_given}
use Rattle.jc_history.proofs.DeedSteps as deed
use Rattle.jc_history.proofs.HeldSteps as schedule
use Rattle.jc_history.proofs.LegalFacts.{legal-fit}
use Rattle.jc_history.proofs.RegisterFacts.{fit-apart}
use Rattle.jc_asks.specs.declared.asks.Ask.{Ask}
use Rattle.jc_asks.specs.declared.asks.Ask.TheVariants.{MakePod, MarkPod, LetPodGo, WriteFirst, ReleasePod, WriteSecond}
use Rattle.jc_asks.specs.Asks.{asks_after, as_request}
use Rattle.jc_asks.specs.Readings.{next_ask}
use Rattle.jc_sync.specs.AllRegisters.{register_of}
use Rattle.jc_runs.specs.Machines.{AreWorkers}
use Rattle.jc_runs.specs.Teams.{answered_if, end_of_next, ended_if, fault_left, is_first_written, noted_answer, noted_told}
use Rattle.jc_runs.proofs.NoteFacts.{after_own}
use Rattle.jc_history.proofs.DeedSteps.{own}
use Rattle.jc_history.proofs.FollowFacts.{set-cases}
use Rattle.jc_sync.proofs.StepFacts.{after_basis}

-- ---- what is noted of an answer

-- The version of an answer, in both words for it.
same_version : (given : Answer) → floor_given given ≡ floor_given given
same_version (answer.Created u v) = refl
same_version (answer.Written v) = refl
same_version (answer.Unchanged v) = refl
same_version (answer.Released v) = refl
same_version other = refl

module _ (older : List Note) (h0 : Schedule) (w : ℕ) (basis : Basis) (ask : Ask) (given : Answer) (h : IsScheduleOf older h0) (next : next_ask (planned basis) (made w older) ≡ Some ask) where
  abbrev kept : Bool
  kept = asks_status (as_request ask) && tells_written given && is_first w basis older

  unkept : kept ≡ false → IsScheduleOf (Asked w basis (as_request ask) given ∷ older) (answered_if h0 basis.key (floor_given given))
  unkept k = by (floor_given given) refl
    where
      by : (o : Option Version) → floor_given given ≡ o → IsScheduleOf (Asked w basis (as_request ask) given ∷ older) (answered_if h0 basis.key o)
      by None e = schedule.held-unversioned older h0 w basis (as_request ask) given h e k
      by (Some v) e = schedule.held-answered older h0 w basis (as_request ask) given h v e k

-- What the code notes of an answer is what the note of it says.
pub asked_held : (older : List Note) (h0 : Schedule) (w : ℕ) (basis : Basis) (ask : Ask) (given : Answer) → IsScheduleOf older h0 → next_ask (planned basis) (made w older) ≡ Some ask
    → IsScheduleOf (Asked w basis (as_request ask) given ∷ older) (noted_answer h0 basis.key ask given (planned basis).backoff)
asked_held older h0 w basis ask given h next =
    subst (λ o. IsScheduleOf (Asked w basis (as_request ask) given ∷ older) (cond (is_first_written ask given) (kept_backoff (answered_if h0 basis.key o) basis.key (planned basis).backoff) (answered_if h0 basis.key o))) (sym (same_version given))
    (by ask given next)
  where
    first_is : (ask : Ask) → next_ask (planned basis) (made w older) ≡ Some ask → is_first w basis older ≡ is_write_first (Some ask)
    first_is ask e = ap is_write_first e

    off : (b : Bool) → (b && false) ≡ false
    off true = refl
    off false = refl

    by : (ask : Ask) (given : Answer) → next_ask (planned basis) (made w older) ≡ Some ask
        → IsScheduleOf (Asked w basis (as_request ask) given ∷ older) (cond (is_first_written ask given) (kept_backoff (answered_if h0 basis.key (floor_given given)) basis.key (planned basis).backoff) (answered_if h0 basis.key (floor_given given)))
    by WriteFirst (answer.Written v) e = schedule.held-first older h0 w basis request.Status (answer.Written v) h v refl (first_is WriteFirst e)
    by WriteFirst other e = unkept older h0 w basis WriteFirst other h e refl
    by WriteSecond given e = unkept older h0 w basis WriteSecond given h e (ap (λ f. tells_written given && f) (first_is WriteSecond e) ∙ off (tells_written given))
    by (MakePod index) given e = unkept older h0 w basis (MakePod index) given h e refl
    by (MarkPod u) given e = unkept older h0 w basis (MarkPod u) given h e refl
    by (LetPodGo u v) given e = unkept older h0 w basis (LetPodGo u v) given h e refl
    by (ReleasePod u) given e = unkept older h0 w basis (ReleasePod u) given h e refl

-- ---- how an answer ends a sync

pub is_lost_answer : Answer → Bool
is_lost_answer answer.Unavailable = true
is_lost_answer other = false

-- An answer of the store ends the sync as the notes say.
pub same_end : (ask : Ask) (given : Answer) → is_lost_answer given ≡ false → end_by (asks_status (as_request ask)) given ≡ end_given ask given
unfolding is_lost_answer
same_end ask answer.Unavailable e = absurd (true≢false e)
same_end WriteFirst (answer.Conflict v) e = refl
same_end WriteFirst answer.NotFound e = refl
same_end WriteFirst other e = refl
same_end WriteSecond (answer.Conflict v) e = refl
same_end WriteSecond answer.NotFound e = refl
same_end WriteSecond other e = refl
same_end (MakePod index) other e = refl
same_end (MarkPod u) other e = refl
same_end (LetPodGo u v) other e = refl
same_end (ReleasePod u) other e = refl

-- The store answers each request of a sync.
abbrev pub IsAnswer : Answered → Type 0
IsAnswer a = is_lost_answer (as_answer a.reply) ≡ false

either : (b : Bool) (x y : Answered) → IsAnswer x → IsAnswer y → IsAnswer (cond b x y)
either true x y p q = p
either false x y p q = q

module _ (log : List Entry) (now : ℕ) (flight : Flight) where
  make_answers : (index : Option ℕ) (o : Option Job) → IsAnswer (make_gives log index now o)
  unfolding is_lost_answer
  make_answers index None = refl
  make_answers index (Some job) = refl

  mark_answers : (o : Option Pod) → IsAnswer (mark_pod_at log now o)
  unfolding is_lost_answer
  mark_answers None = refl
  mark_answers (Some pod) = either (is_marked pod) _ _ refl refl

  let_go_answers : (v : Version) (o : Option Pod) → IsAnswer (let_go_at log v o)
  unfolding is_lost_answer
  let_go_answers v None = refl
  let_go_answers v (Some pod) = either (not (pod.version.0 == v.0)) _ _ refl (either pod.tracked _ _ refl refl)

  release_answers : (o : Option Pod) → IsAnswer (release_at log o)
  unfolding is_lost_answer
  release_answers None = refl
  release_answers (Some pod) = either pod.tracked _ _ refl refl

  write_answers : (uid : Uid) (v : Version) (status : JobStatus) (o : Option Job) → IsAnswer (write_status_at log uid v status o)
  unfolding is_lost_answer
  write_answers uid v status None = refl
  write_answers uid v status (Some job) = either (not (same_uid job.uid uid)) _ _ refl (either (not (job.version.0 == v.0)) _ _ refl (either (same_status job.status status) _ _ refl refl))

  status_answers : (status : JobStatus) (o : Option Job) → IsAnswer (status_gives log flight status o)
  unfolding is_lost_answer
  status_answers status None = refl
  status_answers status (Some job) = write_answers job.uid flight.sends status (job_in flight.basis.key log)

  written_answers : (o : Option JobStatus) → IsAnswer (written_gives log flight o)
  unfolding is_lost_answer
  written_answers None = refl
  written_answers (Some status) = status_answers status flight.basis.job

  pub store_answers : (ask : Ask) → IsAnswer (answered_to log now flight ask)
  store_answers (MakePod index) = make_answers index flight.basis.job
  store_answers (MarkPod u) = mark_answers (pod_in u log)
  store_answers (LetPodGo u v) = let_go_answers v (pod_in u log)
  store_answers WriteFirst = written_answers (planned flight.basis).first
  store_answers (ReleasePod u) = release_answers (pod_in u log)
  store_answers WriteSecond = written_answers (planned flight.basis).second

-- ---- the workers

-- After an end: the worker's register is free, and its fault is used up where the answer was lost.
workers_ended : (older : List Note) (rs : List (Option Sync)) (fs : List (Option Fault)) (w : ℕ) (b : Basis) (end : SyncEnd) (now : ℕ) (fault : Option Fault) → slice_get fs w ≡ Some fault
    → AreWorkers older rs fs → AreWorkers (Ended w b end now ∷ older) (set rs w None) (set fs w (fault_left (Some end) fault))
workers_ended older rs fs w b end now fault at a = record {
  syncs = λ v sync e. by v sync (set-cases rs w v None sync e);
  faults = λ v f e. by_fault v f (set-cases fs w v (fault_left (Some end) fault) f e);
}
  where
    by : (v : ℕ) (sync : Option Sync) → ((v ≡ w) × (sync ≡ None)) ⊎ ((v ≡ w → ⊥) × (slice_get rs v ≡ Some sync)) → register v (Ended w b end now ∷ older) ≡ option_map (λ (s : Sync). s.flight.basis) sync
    by v sync (inl h) =
        ap (λ b. unwrap_or (option_or (cond b (Some None) None) (newest (register_told v) older)) None) (eq-eqb w v (sym h.0))
        ∙ ap (option_map (λ (s : Sync). s.flight.basis)) (sym h.1)
    by v sync (inr h) =
        ap (λ b. unwrap_or (option_or (cond b (Some None) None) (newest (register_told v) older)) None) (ne_eqb w v (λ e. h.0 (sym e)))
        ∙ a.syncs v sync h.1

    lost : (v : ℕ) → pending v older ≡ fault → (l : Bool) → unwrap_or (option_or (cond (true && l) (Some None) None) (newest (fault_told v) older)) None ≡ cond l None fault
    lost v e true = refl
    lost v e false = e

    kept : (v : ℕ) (l : Bool) → unwrap_or (option_or (cond (false && l) (Some None) None) (newest (fault_told v) older)) None ≡ pending v older
    kept v l = refl

    by_fault : (v : ℕ) (f : Option Fault) → ((v ≡ w) × (f ≡ fault_left (Some end) fault)) ⊎ ((v ≡ w → ⊥) × (slice_get fs v ≡ Some f)) → pending v (Ended w b end now ∷ older) ≡ f
    by_fault v f (inl h) =
        ap (λ x. unwrap_or (option_or (cond (x && forgets_caches end) (Some None) None) (newest (fault_told v) older)) None) (eq-eqb w v (sym h.0))
        ∙ lost v (a.faults v fault (ap (slice_get fs) h.0 ∙ at)) (forgets_caches end) ∙ sym h.1
    by_fault v f (inr h) =
        ap (λ x. unwrap_or (option_or (cond (x && forgets_caches end) (Some None) None) (newest (fault_told v) older)) None) (ne_eqb w v (λ e. h.0 (sym e)))
        ∙ a.faults v f h.1

-- The sync goes on with the same basis.
workers_go_on : (older : List Note) (rs : List (Option Sync)) (fs : List (Option Fault)) (w : ℕ) (old new : Sync) (fault : Option Fault) → slice_get rs w ≡ Some (Some old) → slice_get fs w ≡ Some fault → new.flight.basis ≡ old.flight.basis
    → AreWorkers older rs fs → AreWorkers older (set rs w (Some new)) (set fs w fault)
workers_go_on older rs fs w old new fault there at same a = record {
  syncs = λ v sync e. by v sync (set-cases rs w v (Some new) sync e);
  faults = λ v f e. by_fault v f (set-cases fs w v fault f e);
}
  where
    by : (v : ℕ) (sync : Option Sync) → ((v ≡ w) × (sync ≡ Some new)) ⊎ ((v ≡ w → ⊥) × (slice_get rs v ≡ Some sync)) → register v older ≡ option_map (λ (s : Sync). s.flight.basis) sync
    by v sync (inl h) =
        a.syncs v (Some old) (ap (slice_get rs) h.0 ∙ there) ∙ ap (λ b. Some b) (sym same) ∙ ap (option_map (λ (s : Sync). s.flight.basis)) (sym h.1)
    by v sync (inr h) = a.syncs v sync h.1

    by_fault : (v : ℕ) (f : Option Fault) → ((v ≡ w) × (f ≡ fault)) ⊎ ((v ≡ w → ⊥) × (slice_get fs v ≡ Some f)) → pending v older ≡ f
    by_fault v f (inl h) = a.faults v fault (ap (slice_get fs) h.0 ∙ at) ∙ sym h.1
    by_fault v f (inr h) = a.faults v f h.1

-- ---- the controller and its workers after a step

-- What is noted of an answer leaves the queue.
noted_queue : (h : Schedule) (k : Key) (ask : Ask) (given : Answer) (backoff : Backoff) → (noted_answer h k ask given backoff).queue ≡ h.queue
noted_queue h k ask given backoff = by (is_first_written ask given) (floor_given given)
  where
    by : (b : Bool) (o : Option Version) → (cond {A = Schedule} b (kept_backoff (answered_if h k o) k backoff) (answered_if h k o)).queue ≡ h.queue
    by true None = refl
    by true (Some v) = refl
    by false None = refl
    by false (Some v) = refl

pub record Shown (notes : List Note) (h : Schedule) (rs : List (Option Sync)) (fs : List (Option Fault)) : Type 0 where
  pub schedule : IsScheduleOf notes h
  pub workers : AreWorkers notes rs fs

module _ (shape : Shape) (i w : ℕ) (past : List Deed) (d : Deed) (legal : IsLegal shape past) (log : List Entry)
    (h : Schedule) (rs : List (Option Sync)) (fs : List (Option Fault)) (sync : Sync) (fault : Option Fault)
    (act : d.act ≡ does.Step i w) where
  abbrev older : List Note
  older = notes shape i past (log_given shape past)

  abbrev newer : List Note
  newer = notes shape i (d ∷ past) (log_given shape (d ∷ past))

  abbrev m : ℕ
  m = moment shape past

  module _ (g : IsScheduleOf older h) (workers : AreWorkers older rs fs) (there : slice_get rs w ≡ Some (Some sync)) (at : slice_get fs w ≡ Some fault) (next : next_ask (planned sync.flight.basis) (made w older) ≡ slice_get sync.left 0) where
    mine : register w older ≡ Some sync.flight.basis
    mine = workers.syncs w (Some sync) there

    busy : has_key sync.flight.basis.key h.queue.processing ≡ true
    busy = g.queued.processing_is sync.flight.basis.key ∙ (fit-apart older (legal-fit shape i past legal)).busy w sync.flight.basis mine

    notes_are : (r : Reply) → d.reply ≡ r → newer ≡ on_step w m (Some sync.flight.basis) r ++ older
    notes_are r e = after_own shape i past d legal (does.Step i w) r act e refl ∙ own i _ older ∙ ap (λ o. on_step w m o r ++ older) mine

    -- It has no request left.
    no_more : d.reply ≡ reply.Ended → Shown newer (ended h sync.flight.basis.key (how.Ended (planned sync.flight.basis).next) m) (set rs w None) (set fs w fault)
    no_more e = record {
      schedule = deed.finished shape i past d legal h w sync.flight.basis act e mine g;
      workers = subst (λ notes. AreWorkers notes (set rs w None) (set fs w fault)) (sym (notes_are reply.Ended e)) (workers_ended older rs fs w sync.flight.basis (how.Ended (planned sync.flight.basis).next) m fault at workers);
    }

    same_asked : (asked : Request) (given : Answer) → AreWorkers (Asked w sync.flight.basis asked given ∷ older) rs fs
    same_asked asked given = record { syncs = workers.syncs; faults = workers.faults }

    answered_notes : (asked : Request) (given : Answer) (o : Option SyncEnd) → d.reply ≡ reply.Stepped asked given → end_by (asks_status asked) given ≡ o
        → newer ≡ (option_to_list (option_map (λ end. Ended w sync.flight.basis end m) o) ++ Asked w sync.flight.basis asked given ∷ []) ++ older
    answered_notes asked given o e is = notes_are (reply.Stepped asked given) e ∙ ap (λ o. (option_to_list (option_map (λ end. Ended w sync.flight.basis end m) o) ++ Asked w sync.flight.basis asked given ∷ []) ++ older) is

    -- An answer after which the sync goes on.
    on_and_on : (ask : Ask) (given : Answer) (new : Sync) → slice_get sync.left 0 ≡ Some ask → d.reply ≡ reply.Stepped (as_request ask) given → end_by (asks_status (as_request ask)) given ≡ None → new.flight.basis ≡ sync.flight.basis
        → Shown newer (noted_answer h sync.flight.basis.key ask given (planned sync.flight.basis).backoff) (set rs w (Some new)) (set fs w fault)
    on_and_on ask given new first e none same = record {
      schedule = deed.goes_on shape i past d legal _ w sync.flight.basis (as_request ask) given act e mine none (asked_held older h w sync.flight.basis ask given g (next ∙ first));
      workers =
          subst (λ notes. AreWorkers notes (set rs w (Some new)) (set fs w fault)) (sym (answered_notes (as_request ask) given None e none))
          (workers_go_on (Asked w sync.flight.basis (as_request ask) given ∷ older) rs fs w sync new fault there at same (same_asked (as_request ask) given));
    }

    -- One that ends it.
    breaks : (ask : Ask) (given : Answer) (end : SyncEnd) → slice_get sync.left 0 ≡ Some ask → d.reply ≡ reply.Stepped (as_request ask) given → end_by (asks_status (as_request ask)) given ≡ Some end
        → Shown newer (ended (noted_answer h sync.flight.basis.key ask given (planned sync.flight.basis).backoff) sync.flight.basis.key end m) (set rs w None) (set fs w (fault_left (Some end) fault))
    breaks ask given end first e some = record {
      schedule =
          deed.breaks_off shape i past d legal _ w sync.flight.basis (as_request ask) given end act e mine some (asked_held older h w sync.flight.basis ask given g (next ∙ first))
          (ap (λ (q : Queued). has_key sync.flight.basis.key q.processing) (noted_queue h sync.flight.basis.key ask given (planned sync.flight.basis).backoff) ∙ busy);
      workers =
          subst (λ notes. AreWorkers notes (set rs w None) (set fs w (fault_left (Some end) fault))) (sym (answered_notes (as_request ask) given (Some end) e some))
          (workers_ended (Asked w sync.flight.basis (as_request ask) given ∷ older) rs fs w sync.flight.basis end m fault at (same_asked (as_request ask) given));
    }

    lost_end : (b : Bool) → end_by b answer.Unavailable ≡ Some how.Unavailable
    lost_end true = refl
    lost_end false = refl

    -- All steps.
    pub strides : (left : List Ask) → sync.left ≡ left → (pending : Option Fault) → fault ≡ pending → d.reply ≡ (stepped_at m pending log sync.flight left).reply
        → Shown newer (ended_if (noted_told h sync.flight.basis.key (slice_get left 0)
        (stepped_at m pending log sync.flight left).reply (planned sync.flight.basis).backoff) sync.flight.basis.key
        (end_of_next (stepped_at m pending log sync.flight left).next) m)
        (set rs w (register_of (stepped_at m pending log sync.flight left).next)) (set fs w (fault_left (end_of_next (stepped_at m pending log sync.flight left).next) fault))
    strides [] l pending f e = no_more e
    strides (ask ∷ left) l None f e = by (end_given ask given) refl
      where
        given : Answer
        given = as_answer (answered_to log m sync.flight ask).reply

        new : Sync
        new = record { flight = flight_after ask given sync.flight; left = asks_after ask given left }

        ends : end_by (asks_status (as_request ask)) given ≡ end_given ask given
        ends = same_end ask given (store_answers log m sync.flight ask)

        by : (o : Option SyncEnd) → end_given ask given ≡ o
            → Shown newer (ended_if (noted_answer h sync.flight.basis.key ask given (planned sync.flight.basis).backoff) sync.flight.basis.key (end_of_next (next_unless o new)) m)
            (set rs w (register_of (next_unless o new))) (set fs w (fault_left (end_of_next (next_unless o new)) fault))
        by None is = on_and_on ask given new (ap (λ l. slice_get l 0) l) e (ends ∙ is) (after_basis ask given sync.flight)
        by (Some end) is = breaks ask given end (ap (λ l. slice_get l 0) l) e (ends ∙ is)
    strides (ask ∷ left) l (Some Drop) f e = breaks ask answer.Unavailable how.Unavailable (ap (λ l. slice_get l 0) l) e (lost_end (asks_status (as_request ask)))
    strides (ask ∷ left) l (Some Lose) f e = breaks ask answer.Unavailable how.Unavailable (ap (λ l. slice_get l 0) l) e (lost_end (asks_status (as_request ask)))
