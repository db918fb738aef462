-- What a controller has goes over from deed to deed of a legal history.
use Rattle.std.proofs.Common.{◌≡◌, ℕ, ◌==◌, true, false, cond, List, [], ◌∷◌, ◌++◌, length, map, Some, None, refl, sym, ap, ◌∙◌, subst, eq-eqb, arith}
use Rattle.std.specs.Option.{option_and_then, option_map, option_to_list}
use Rattle.jc_log.specs.Acts as does
use Rattle.jc_control.specs.declared.ends.SyncEnd.{SyncEnd}
use Rattle.jc_control.specs.declared.ends.SyncEnd.TheVariants as how
use Rattle.jc_control.specs.Schedules.{ControllerView, Schedule, MirrorsLog, log_end, idle}
use Rattle.jc_control.specs.ControllerCalls.{begun, clocked, delivered, ended, forgot, listed_jobs, listed_pods, told}
use Rattle.jc_plan.specs.Plans.{planned}
use Rattle.jc_types.specs.declared.numbers.Version.{Version}
use Rattle.jc_types.specs.declared.objects.Entry.{Entry}
use Rattle.jc_types.specs.declared.objects.Kind.{Kind}
use Rattle.jc_types.specs.declared.objects.Kind.TheVariants.{Jobs, Pods}
use Rattle.jc_types.specs.declared.replies.Answer.{Answer}
use Rattle.jc_types.specs.declared.replies.Reply.{Reply}
use Rattle.jc_types.specs.declared.replies.Reply.TheVariants as reply
use Rattle.jc_types.specs.declared.replies.Request.{Request}
use Rattle.jc_types.specs.declared.runs.Shape.{Shape}
use Rattle.jc_states.specs.declared.bases.Basis.{Basis}
use Rattle.jc_log.specs.Acts.{Act}
use Rattle.jc_log.specs.Deeds.{Deed}
use Rattle.jc_log.specs.Log.{entry_at, jobs_in, pods_in, upto}
use Rattle.jc_log.proofs.LogFacts.{upto-all}
use Rattle.jc_queue.specs.Queued.{has_key}
use Rattle.jc_history.specs.Agrees.{IsScheduleOf}
use Rattle.jc_history.specs.Diaries.{end_by, listed_keys, moment, notes_taken, notes, on_begin, on_step, restarts}
use Rattle.jc_history.specs.Fresh.{begin as begin_of}
use Rattle.jc_history.specs.Legal.{IsLegal}
use Rattle.jc_history.specs.Notes.{Note, Listed, Told, Expired, Asked, Ended, Ticked}
use Rattle.jc_history.specs.Registers.{asks_status, register}
use Rattle.jc_history.specs.Replies.{log_given, reply_of_begin}
use Rattle.jc_history.proofs.BeginSteps.{begun-held_is}
use Rattle.jc_history.proofs.HeldSteps.{held-ended, held-expired, held-idle, held-listed_jobs, held-listed_pods, held-ticked, held-told}
use Rattle.jc_history.proofs.LegalFacts.{legal-fit, notes-next}
use Rattle.jc_history.proofs.RegisterFacts.{fit-apart}

pub own : (c : ℕ) (new older : List Note) → cond (c == c) new [] ++ older ≡ new ++ older
own c new older = ap (λ b. cond b new [] ++ older) (eq-eqb c c refl)

module _ (shape : Shape) (c : ℕ) (past : List Deed) (d : Deed) (h : IsLegal shape past) where
  abbrev pub before : List Note
  before = notes shape c past (log_given shape past)

  abbrev pub after : List Note
  after = notes shape c (d ∷ past) (log_given shape (d ∷ past))

  abbrev pub told_now : List Note
  told_now = notes_taken c d.act d.reply (moment shape past) (log_given shape (d ∷ past)) before

  -- Where the controller does not restart, its notes are those of the deed and those from before.
  after_is : restarts c d.act ≡ false → after ≡ told_now ++ before
  after_is r = notes-next shape c past d h ∙ ap (λ b. cond b [] (told_now ++ before)) r

  pub held-next : (schedule : Schedule) (new : List Note) → restarts c d.act ≡ false → told_now ++ before ≡ new ++ before → IsScheduleOf (new ++ before) schedule → IsScheduleOf after schedule
  held-next schedule new r e g = subst (λ some. IsScheduleOf some schedule) (sym (after_is r ∙ e)) g

  -- A deed that is not the controller's.
  pub untouched : (schedule : Schedule) → restarts c d.act ≡ false → told_now ≡ [] → IsScheduleOf before schedule → IsScheduleOf after schedule
  untouched schedule r e g = held-next schedule [] r (ap (λ new. new ++ before) e) g

  pub restarted : d.act ≡ does.Restart c → IsScheduleOf after idle
  restarted a = subst (λ some. IsScheduleOf some idle)
      (sym (notes-next shape c past d h ∙ ap (λ act. cond (restarts c act) []
      (notes_taken c act d.reply (moment shape past) (log_given shape (d ∷ past)) before ++ before)) a
      ∙ ap (λ b. cond b [] (notes_taken c (does.Restart c) d.reply (moment shape past) (log_given shape (d ∷ past))
      before ++ before)) (eq-eqb c c refl))) held-idle

  noted_is : (act : Act) (r : Reply) → d.act ≡ act → d.reply ≡ r → told_now ≡ notes_taken c act r (moment shape past) (log_given shape (d ∷ past)) before
  noted_is act r a e = λ i. notes_taken c (a i) (e i) (moment shape past) (log_given shape (d ∷ past)) before

  not_restart : (act : Act) → d.act ≡ act → restarts c act ≡ false → restarts c d.act ≡ false
  not_restart act a r = ap (restarts c) a ∙ r

  -- What the whole log has, where it did not grow.
  all-of : log_given shape (d ∷ past) ≡ log_given shape past → upto (length (log_given shape past)) (log_given shape (d ∷ past)) ≡ log_given shape past
  all-of still = ap (upto (length (log_given shape past))) still ∙ upto-all (length (log_given shape past)) (log_given shape past) (omega arith)

  list-next : (kind : Kind) (schedule new : Schedule) → d.act ≡ does.List c kind → d.reply ≡ reply.Listed (log_end (log_given shape past)) → log_given shape (d ∷ past) ≡ log_given shape past
      → IsScheduleOf (Listed kind (log_end (log_given shape past)) (listed_keys kind (log_given shape past)) ∷ before) new → IsScheduleOf after new
  list-next kind schedule new a e still g =
      held-next new (Listed kind (log_end (log_given shape past)) (listed_keys kind (log_given shape past)) ∷ []) (not_restart (does.List c kind) a refl)
      (ap (λ some. some ++ before) (noted_is (does.List c kind) (reply.Listed (log_end (log_given shape past))) a e) ∙ own c _ before
      ∙ ap (λ log. Listed kind (log_end (log_given shape past)) (listed_keys kind log) ∷ before) (all-of still)) g

  -- The job cache, or the pod cache, is listed.
  pub listed-jobs : (schedule : Schedule) → d.act ≡ does.List c Jobs → d.reply ≡ reply.Listed (log_end (log_given shape past)) → log_given shape (d ∷ past) ≡ log_given shape past → IsScheduleOf before schedule
      → IsScheduleOf after (listed_jobs schedule (map (λ row. row.1) (jobs_in (log_given shape past))) (log_end (log_given shape past)))
  listed-jobs schedule a e still g = list-next Jobs schedule _ a e still (held-listed_jobs before schedule (map (λ row. row.1) (jobs_in (log_given shape past))) (log_end (log_given shape past)) g)

  pub listed-pods : (schedule : Schedule) → d.act ≡ does.List c Pods → d.reply ≡ reply.Listed (log_end (log_given shape past)) → log_given shape (d ∷ past) ≡ log_given shape past → IsScheduleOf before schedule
      → IsScheduleOf after (listed_pods schedule (pods_in (log_given shape past)) (log_end (log_given shape past)))
  listed-pods schedule a e still g = list-next Pods schedule _ a e still (held-listed_pods before schedule (pods_in (log_given shape past)) (log_end (log_given shape past)) g)

  -- A cache is told of the next entry, or has fallen out of the window.
  pub told-entry : (schedule : Schedule) (kind : Kind) (version : Version) (entry : Entry) → d.act ≡ does.Deliver c kind → d.reply ≡ reply.Delivered version → entry_at version.0 (log_given shape (d ∷ past)) ≡ Some entry → IsScheduleOf before schedule
      → IsScheduleOf after (delivered schedule kind entry version)
  told-entry schedule kind version entry a e there g =
      held-next _ (Told kind version (told kind entry) ∷ []) (not_restart (does.Deliver c kind) a refl)
      (ap (λ some. some ++ before) (noted_is (does.Deliver c kind) (reply.Delivered version) a e) ∙ own c _ before ∙ ap (λ o. Told kind version (option_and_then (told kind) o) ∷ before) there)
      (held-told before schedule kind entry version g)

  pub expired : (schedule : Schedule) (kind : Kind) (floor : Version) → d.act ≡ does.Deliver c kind → d.reply ≡ reply.Expired floor → IsScheduleOf before schedule → IsScheduleOf after (forgot schedule kind)
  expired schedule kind floor a e g =
      held-next _ (Expired kind ∷ []) (not_restart (does.Deliver c kind) a refl)
      (ap (λ some. some ++ before) (noted_is (does.Deliver c kind) (reply.Expired floor) a e) ∙ own c _ before) (held-expired before schedule kind g)

  -- A begin of a free worker.
  pub began : (con : ControllerView) (worker : ℕ) → d.act ≡ does.Begin c worker → d.reply ≡ reply_of_begin (begin_of before (log_given shape past) (moment shape past)) → log_given shape (d ∷ past)
      ≡ log_given shape past → IsScheduleOf before con.schedule
      → MirrorsLog (log_given shape past) con → IsScheduleOf after (begun (moment shape past) con).schedule
  began con worker a e still g holds =
      held-next _ (on_begin worker (moment shape past) (log_given shape past) before (reply_of_begin (begin_of before (log_given shape past) (moment shape past)))) (not_restart (does.Begin c worker) a refl)
      (ap (λ some. some ++ before) (noted_is (does.Begin c worker) (reply_of_begin (begin_of before (log_given shape past) (moment shape past))) a e) ∙ own c _ before
      ∙ ap (λ log. on_begin worker (moment shape past) log before (reply_of_begin (begin_of before (log_given shape past) (moment shape past))) ++ before) still)
      (begun-held_is before (log_given shape past) (moment shape past) con worker g holds)

  -- The clock.
  pub ticked : (schedule : Schedule) (add now : ℕ) → d.act ≡ does.Clock add → d.reply ≡ reply.Now now → IsScheduleOf before schedule → IsScheduleOf after (clocked schedule now)
  ticked schedule add now a e g =
      held-next _ (Ticked now ∷ []) (not_restart (does.Clock add) a refl) (ap (λ some. some ++ before) (noted_is (does.Clock add) (reply.Now now) a e)) (held-ticked before schedule now g)

  -- A step of a sync.
  step-next : (new : Schedule) (worker : ℕ) (basis : Basis) (r : Reply) → d.act ≡ does.Step c worker → d.reply ≡ r → register worker before ≡ Some basis → IsScheduleOf
      (on_step worker (moment shape past) (Some basis) r ++ before) new → IsScheduleOf after new
  step-next new worker basis r a e mine g =
      held-next new (on_step worker (moment shape past) (Some basis) r) (not_restart (does.Step c worker) a refl)
      (ap (λ some. some ++ before) (noted_is (does.Step c worker) r a e) ∙ own c _ before ∙ ap (λ o. on_step worker (moment shape past) o r ++ before) mine) g

  -- The key of a sync that goes on is processing.
  busy : (schedule : Schedule) (worker : ℕ) (basis : Basis) → register worker before ≡ Some basis → IsScheduleOf before schedule → has_key basis.key schedule.queue.processing ≡ true
  busy schedule worker basis mine g = g.queued.processing_is basis.key ∙ (fit-apart before (legal-fit shape c past h)).busy worker basis mine

  -- It has no request left.
  pub finished : (schedule : Schedule) (worker : ℕ) (basis : Basis) → d.act ≡ does.Step c worker → d.reply ≡ reply.Ended
      → register worker before ≡ Some basis → IsScheduleOf before schedule
      → IsScheduleOf after (ended schedule basis.key (how.Ended (planned basis).next) (moment shape past))
  finished schedule worker basis a e mine g =
      step-next _ worker basis reply.Ended a e mine (held-ended before schedule worker basis (how.Ended (planned basis).next) (moment shape past) g (busy schedule worker basis mine g))

  -- A request was answered, and the sync goes on.
  pub goes_on : (schedule : Schedule) (worker : ℕ) (basis : Basis) (asked : Request) (given : Answer) → d.act ≡ does.Step c worker → d.reply ≡ reply.Stepped asked given → register worker before ≡ Some basis → end_by (asks_status asked) given ≡ None
      → IsScheduleOf (Asked worker basis asked given ∷ before) schedule → IsScheduleOf after schedule
  goes_on schedule worker basis asked given a e mine none g =
      step-next schedule worker basis (reply.Stepped asked given) a e mine
      (subst (λ o. IsScheduleOf ((option_to_list (option_map (λ end. Ended worker basis end (moment shape past)) o) ++ Asked worker basis asked given ∷ []) ++ before) schedule) (sym none) g)

  -- Or its answer ends the sync.
  pub breaks_off : (schedule : Schedule) (worker : ℕ) (basis : Basis) (asked : Request) (given : Answer) (end : SyncEnd)
      → d.act ≡ does.Step c worker → d.reply ≡ reply.Stepped asked given → register worker before ≡ Some basis
      → end_by (asks_status asked) given ≡ Some end
      → IsScheduleOf (Asked worker basis asked given ∷ before) schedule → has_key basis.key schedule.queue.processing ≡ true → IsScheduleOf after (ended schedule basis.key end (moment shape past))
  breaks_off schedule worker basis asked given end a e mine some g processing =
      step-next _ worker basis (reply.Stepped asked given) a e mine
      (subst (λ o. IsScheduleOf ((option_to_list (option_map (λ end. Ended worker basis end (moment shape past)) o) ++ Asked worker basis asked given ∷ []) ++ before) (ended schedule basis.key end (moment shape past))) (sym some)
      (held-ended (Asked worker basis asked given ∷ before) schedule worker basis end (moment shape past) g processing))
