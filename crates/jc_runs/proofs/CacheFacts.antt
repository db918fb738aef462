-- Events of one controller that append nothing: caches.
use Rattle.std.proofs.Common.{◌≡◌, ℕ, suc, reverse, ◌+◌, ◌-◌, ◌≤◌, ◌<◌, ◌==◌, nat_lt, Bool, true, false, cond, List, [], ◌∷◌, ◌++◌, length, set, slice_get, Option, Some, None, IfSome, refl, sym, ap, ◌∙◌, subst, arith}
use Rattle.std.proofs.lemmas.Bool.{eqb-false}
use Rattle.jc_log.specs.Acts as does
use Rattle.std.proofs.lemmas.List.{length-reverse}
use Rattle.jc_log.proofs.LogFacts.{entry_at-taken}
use Rattle.jc_control.specs.Caches.{IsNext, pods_at, owned_after}
use Rattle.jc_control.specs.Schedules.{ControllerView, Schedule, MirrorsLog, MirrorsJobs, MirrorsPods, log_end, number_of}
use Rattle.jc_control.specs.ControllerCalls.{delivered, forgot, jobs_delivered, listed_pods, pods_delivered}
use Rattle.jc_types.specs.declared.numbers.Version.{Version}
use Rattle.jc_types.specs.declared.objects.Entry.{Entry}
use Rattle.jc_types.specs.declared.objects.Job.{Job}
use Rattle.jc_types.specs.declared.objects.KeyNames.{KeyNames as Key}
use Rattle.jc_types.specs.declared.objects.Kind.{Kind}
use Rattle.jc_types.specs.declared.objects.Kind.TheVariants.{Jobs, Pods}
use Rattle.jc_types.specs.declared.objects.Pod.{Pod}
use Rattle.jc_types.specs.declared.replies.Reply.{Reply}
use Rattle.jc_types.specs.declared.replies.Reply.TheVariants as reply
use Rattle.jc_types.specs.declared.runs.Shape.{Shape}
use Rattle.jc_log.specs.Requests.{Answered, grown, refused}
use Rattle.jc_history.specs.Notes.{Note}
use Rattle.jc_log.specs.Acts.{Act}
use Rattle.jc_log.specs.Deeds.{Deed}
use Rattle.jc_log.specs.Log.{entry_at, pods_in}
use Rattle.jc_log.specs.Writes.{Stored}
use Rattle.jc_ledger.specs.Syncs.{began_of}
use Rattle.jc_ledger.specs.Tied.{StandsWithin}
use Rattle.jc_asks.specs.Readings.{told_step}
use Rattle.jc_sync.proofs.RegisterFacts.{quiet_syncs}
use Rattle.jc_sync.specs.AllRegisters.{HasSyncs}
use Rattle.jc_history.specs.Agrees.{IsScheduleOf}
use Rattle.jc_history.specs.Available.{is_quiescent}
use Rattle.jc_history.specs.Diaries.{notes, on_delivery}
use Rattle.jc_history.specs.Legal.{IsOfShape as IsInShape, MaySettle}
use Rattle.jc_history.specs.Numbers.{number}
use Rattle.jc_history.specs.Replies.{deliver_gives, gives, log_given}
use Rattle.jc_history.proofs.DeedSteps as deed
use Rattle.jc_runs.specs.Fates.{Fates}
use Rattle.jc_runs.specs.Machines.{AreWorkers, IsMachine, IsTeam}
use Rattle.jc_runs.specs.Teams.{Team, delivered_at, listed, registers_of, told_of}
use Rattle.jc_runs.proofs.ListFacts.{missing, registers_stay}
use Rattle.jc_runs.proofs.NoteFacts.{IsOf, SameWorkers, after_own, silent-delivery, silent-list, workers_same}
use Rattle.jc_runs.proofs.RunFacts.{IsDone, next_is, run_one, team_before}
use Rattle.jc_history.proofs.DeedSteps.{own}

-- Each version up to the log's length has an entry.
pub entry_there : (log : List Entry) (i : ℕ) → i < length log → entry_at (i + 1) log ≡ None → ⊥
entry_there log i within none =
    let place : suc i ≡ i + 1 = omega arith in
    let long = length-reverse log in
    missing (reverse log) i (omega (arith, within, long)) (sym (entry_at-taken i log) ∙ ap (λ n. entry_at n log) place ∙ none)

-- ---- the tables of the caches

same_jobs : (log : List Entry) (old new : ControllerView) → new.schedule.jobs_at ≡ old.schedule.jobs_at → new.jobs ≡ old.jobs → MirrorsJobs log old.schedule.jobs_at old.jobs → MirrorsJobs log new.schedule.jobs_at new.jobs
same_jobs log old new n j h = subst (λ o. MirrorsJobs log o new.jobs) (sym n) (subst (MirrorsJobs log old.schedule.jobs_at) (sym j) h)

same_rows : (log : List Entry) (number : Option Version) (rows new : List (Key × List Pod)) → ((k : Key) → pods_at k new ≡ pods_at k rows) → MirrorsPods log number rows → MirrorsPods log number new
same_rows log None rows new e h = λ k. e k ∙ h k
same_rows log (Some n) rows new e h = (h.0, λ k. e k ∙ h.1 k)

pub pods_listed : (log : List Entry) (old new : ControllerView) (pods : List Pod) (at : Version)
    → pods ≡ pods_in log → at ≡ log_end log → new.schedule ≡ listed_pods old.schedule pods at → new.jobs ≡ old.jobs → MirrorsPods log (Some (log_end log)) new.rows → MirrorsLog log old → MirrorsLog log new
pods_listed log old new pods at all a h j law holds = record {
  jobs = same_jobs log old new (ap (λ (h : Schedule). h.jobs_at) h) j holds.jobs;
  pods = subst (λ o. MirrorsPods log o new.rows) (sym (ap (λ (h : Schedule). h.pods_at) h ∙ ap (λ v. Some v) a)) law;
}

pub told_holds : (log : List Entry) (old new : ControllerView) (kind : Kind) (entry : Entry) (version : Version)
    → ((log : List Entry) (number : Option Version) (version : Version) (e : Entry) (jobs : List (Key × Job))
    → MirrorsJobs log number jobs → IsNext number version → entry_at version.0 log ≡ Some e
    → MirrorsJobs log (Some version) (jobs_delivered Jobs e jobs))
    → ((log : List Entry) (number : Option Version) (version : Version) (e : Entry) (rows new : List (Key × List Pod))
    → Stored log → MirrorsPods log number rows → IsNext number version → entry_at version.0 log ≡ Some e
    → ((k : Key) → pods_at k new ≡ owned_after k e (pods_at k rows)) → MirrorsPods log (Some version) new)
    → Stored log → IsNext (number_of kind old.schedule) version → entry_at version.0 log ≡ Some entry → new.schedule ≡ delivered old.schedule kind entry version → new.jobs ≡ jobs_delivered kind entry old.jobs
    → ((k : Key) → pods_at k new.rows ≡ pods_delivered kind k entry (pods_at k old.rows)) → MirrorsLog log old → MirrorsLog log new
told_holds log old new Jobs entry version jobs_law pods_law stored next there h j r holds = record {
  jobs =
      subst (λ o. MirrorsJobs log o new.jobs) (sym (ap (λ (h : Schedule). h.jobs_at) h))
      (subst (MirrorsJobs log (Some version)) (sym j) (jobs_law log old.schedule.jobs_at version entry old.jobs holds.jobs next there));
  pods = subst (λ o. MirrorsPods log o new.rows) (sym (ap (λ (h : Schedule). h.pods_at) h)) (same_rows log old.schedule.pods_at old.rows new.rows r holds.pods);
}
told_holds log old new Pods entry version jobs_law pods_law stored next there h j r holds = record {
  jobs = same_jobs log old new (ap (λ (h : Schedule). h.jobs_at) h) j holds.jobs;
  pods =
      subst (λ o. MirrorsPods log o new.rows) (sym (ap (λ (h : Schedule). h.pods_at) h))
      (pods_law log old.schedule.pods_at version entry old.rows new.rows stored holds.pods next there r);
}

-- ---- the table of events

pub gives_list : (shape : Shape) (past : List Deed) (log : List Entry) (i : ℕ) (kind : Kind) → gives shape past log (does.List i kind) ≡ refused (reply.Listed (log_end log))
unfolding gives
gives_list shape past log i kind = refl

pub gives_deliver : (shape : Shape) (past : List Deed) (log : List Entry) (i : ℕ) (kind : Kind) → gives shape past log (does.Deliver i kind) ≡ deliver_gives log shape.window (number kind (notes shape i past log))
unfolding gives
gives_deliver shape past log i kind = refl

-- A delivery appends nothing.
pub deliver_nothing : (log : List Entry) (window : ℕ) (o : Option Version) → (deliver_gives log window o).entry ≡ None
deliver_nothing log window None = refl
deliver_nothing log window (Some v) = choose (nat_lt v.0 (length log - window)) (v.0 == length log)
  where
    choose : (a b : Bool) → (cond {A = Answered} a (refused (reply.Expired (record { 0 = length log - window }))) (cond b (refused reply.UpToDate) (refused (reply.Delivered (record { 0 = v.0 + 1 }))))).entry ≡ None
    choose true b = refl
    choose false true = refl
    choose false false = refl

-- ---- one controller, and nothing is appended

module _ (shape : Shape) (past : List Deed) (log : List Entry) (teams : List Team) (fates : Fates) (now : ℕ) (run : IsMachine shape past log teams fates now) (d : Deed) (i : ℕ) (old new : Team) (there : slice_get teams i ≡ Some old) where
  abbrev before : List Note
  before = notes shape i past (log_given shape past)

  abbrev after : List Note
  after = notes shape i (d ∷ past) (log_given shape (d ∷ past))

  -- The controller's syncs and faults stay.
  pub run_quiet : IsDone shape past log log d → IsOf i d.act → began_of d.reply ≡ None → told_step d.reply ≡ None → IsScheduleOf (notes shape i (d ∷ past) (log_given shape (d ∷ past))) new.con.schedule → MirrorsLog log new.con
      → SameWorkers (notes shape i (d ∷ past) (log_given shape (d ∷ past))) (notes shape i past (log_given shape past)) → new.registers ≡ old.registers → new.faults ≡ old.faults → IsMachine shape (d ∷ past) log (set teams i new) fates now
  run_quiet done of none untold schedule holds same r f =
      run_one shape past log teams fates now run log d done i old new of (record {
        schedule = schedule;
        holds = subst (λ log. MirrorsLog log new.con) (next_is shape past log teams fates now run log d done) holds;
        workers =
            subst (λ rs. AreWorkers after rs new.faults) (sym r) (subst (λ fs. AreWorkers after old.registers fs) (sym f) (workers_same after before old.registers old.faults same team.workers));
        count = ap (λ rs. length rs) r ∙ team.count;
        faults = ap (λ fs. length fs) f ∙ team.faults;
      })
      (subst (HasSyncs (d ∷ past) log) (registers_stay teams i old new there r)
      (quiet_syncs d past log (registers_of teams) run.syncs (record { still = done.length; within = subst (λ o. IfSome o (StandsWithin (length log))) (sym none) tt }) none untold))
      run.plannable
    where
      team : IsTeam shape past (log_given shape past) i old
      team = team_before shape past log teams fates now run log d done i old there

  -- What the code shows of such a deed.
  pub done_still : (act : Act) (a : Answered) → d.act ≡ act → gives shape past log act ≡ a → a.entry ≡ None → d.reply
      ≡ a.reply → d.length.0 ≡ length log → IsInShape shape act
      → MaySettle d.act (is_quiescent shape past (log_given shape past)) → IsDone shape past log log d
  done_still act a e g none told_step long within settled = record {
    reply = told_step ∙ sym (ap (λ (a : Answered). a.reply) (ap (gives shape past log) e ∙ g));
    grown = sym (ap (λ (a : Answered). grown log a.entry) (ap (gives shape past log) e ∙ g) ∙ ap (grown log) none);
    length = long;
    within = subst (IsInShape shape) (sym e) within;
    settled = settled;
  }

  pub still : IsDone shape past log log d → log_given shape (d ∷ past) ≡ log_given shape past
  still done = sym (next_is shape past log teams fates now run log d done) ∙ run.log_is

  pub list_run : (kind : Kind) → i < shape.controllers → d.act ≡ does.List i kind → d.reply ≡ reply.Listed (log_end log) → d.length.0 ≡ length log → new.con.schedule ≡ listed old.con.schedule kind log
      → (MirrorsLog log old.con → MirrorsLog log new.con) → new.registers ≡ old.registers → new.faults ≡ old.faults → IsMachine shape (d ∷ past) log (set teams i new) fates now
  list_run kind within act told_is long schedule holds r f =
      run_quiet done (subst (IsOf i) (sym act) refl) (ap began_of told_is) (ap told_step told_is) (subst (IsScheduleOf after) (sym (schedule ∙ ap (listed old.con.schedule kind) run.log_is)) (by kind act)) (holds (run.each i old there).holds)
      (subst (λ notes. SameWorkers notes before) (sym (after_own shape i past d run.legal (does.List i kind) _ act refl refl ∙ own i _ before)) (silent-list kind _ before d.reply)) r f
    where
      done : IsDone shape past log log d
      done = done_still (does.List i kind) (refused (reply.Listed (log_end log))) act (gives_list shape past log i kind) refl told_is long within (subst (λ act. MaySettle act (is_quiescent shape past (log_given shape past))) (sym act) tt)

      was : IsScheduleOf before old.con.schedule
      was = (team_before shape past log teams fates now run log d done i old there).schedule

      told_then : d.reply ≡ reply.Listed (log_end (log_given shape past))
      told_then = told_is ∙ ap (λ log. reply.Listed (log_end log)) run.log_is

      by : (kind : Kind) → d.act ≡ does.List i kind → IsScheduleOf after (listed old.con.schedule kind (log_given shape past))
      by Jobs act = deed.listed-jobs shape i past d run.legal old.con.schedule act told_then (still done) was
      by Pods act = deed.listed-pods shape i past d run.legal old.con.schedule act told_then (still done) was

  -- A cache is told of the next entry, or has fallen out of the window.
  pub deliver_run : (kind : Kind) → i < shape.controllers → d.act ≡ does.Deliver i kind → d.reply ≡ (deliver_gives log shape.window (number_of kind old.con.schedule)).reply → d.length.0 ≡ length log
      → new.con.schedule ≡ delivered_at log shape.window old.con.schedule kind (number_of kind old.con.schedule)
      → MirrorsLog log new.con → new.registers ≡ old.registers → new.faults ≡ old.faults
      → IsMachine shape (d ∷ past) log (set teams i new) fates now
  deliver_run kind within act told_is long schedule holds r f =
      run_quiet done (subst (IsOf i) (sym act) refl) (ap began_of told_is ∙ none_began (number_of kind old.con.schedule)) (ap told_step told_is ∙ none_told (number_of kind old.con.schedule))
      (subst (IsScheduleOf after) (sym schedule) (by (number_of kind old.con.schedule) refl told_is)) holds
      (subst (λ notes. SameWorkers notes before) (sym (after_own shape i past d run.legal (does.Deliver i kind) _ act refl refl ∙ own i _ before)) (silent-delivery kind _ before d.reply)) r f
    where
      none_began : (o : Option Version) → began_of (deliver_gives log shape.window o).reply ≡ None
      none_began None = refl
      none_began (Some v) = choose (nat_lt v.0 (length log - shape.window)) (v.0 == length log)
        where
          choose : (a b : Bool) → began_of (cond {A = Answered} a (refused (reply.Expired (record { 0 = length log - shape.window }))) (cond b (refused reply.UpToDate) (refused (reply.Delivered (record { 0 = v.0 + 1 }))))).reply ≡ None
          choose true b = refl
          choose false true = refl
          choose false false = refl

      none_told : (o : Option Version) → told_step (deliver_gives log shape.window o).reply ≡ None
      none_told None = refl
      none_told (Some v) = choose (nat_lt v.0 (length log - shape.window)) (v.0 == length log)
        where
          choose : (a b : Bool) → told_step (cond {A = Answered} a (refused (reply.Expired (record { 0 = length log - shape.window }))) (cond b (refused reply.UpToDate) (refused (reply.Delivered (record { 0 = v.0 + 1 }))))).reply ≡ None
          choose true b = refl
          choose false true = refl
          choose false false = refl

      done : IsDone shape past log log d
      done =
          done_still (does.Deliver i kind) (deliver_gives log shape.window (number_of kind old.con.schedule)) act
          (gives_deliver shape past log i kind ∙ ap (deliver_gives log shape.window)
          (sym ((run.each i old there).schedule.number_is kind)))
          (deliver_nothing log shape.window (number_of kind old.con.schedule)) told_is long within
          (subst (λ act. MaySettle act (is_quiescent shape past (log_given shape past))) (sym act) tt)

      was : IsScheduleOf before old.con.schedule
      was = (team_before shape past log teams fates now run log d done i old there).schedule

      -- A reply of which no note is taken.
      unnoted : (r : Reply) → d.reply ≡ r → on_delivery kind (log_given shape (d ∷ past)) r ≡ [] → IsScheduleOf after old.con.schedule
      unnoted r e none = subst (λ notes. IsScheduleOf notes old.con.schedule) (sym (after_own shape i past d run.legal (does.Deliver i kind) r act e refl ∙ own i _ before ∙ ap (λ new. new ++ before) none)) was

      within_log : (kind : Kind) (v : Version) → number_of kind old.con.schedule ≡ Some v → v.0 ≤ length log
      within_log Jobs v e = (subst (λ o. MirrorsJobs log o old.con.jobs) e (run.each i old there).holds.jobs).0
      within_log Pods v e = (subst (λ o. MirrorsPods log o old.con.rows) e (run.each i old there).holds.pods).0

      by_entry : (v : Version) → number_of kind old.con.schedule ≡ Some v → (v.0 ≡ length log → ⊥) → d.reply
          ≡ reply.Delivered (record { 0 = v.0 + 1 }) → (o : Option Entry) → entry_at (v.0 + 1) log ≡ o
          → IsScheduleOf after (told_of old.con.schedule kind (record { 0 = v.0 + 1 }) o)
      by_entry v n apart e None gone = absurd (let place = within_log kind v n in entry_there log v.0 (omega (arith, place, apart)) gone)
      by_entry v n apart e (Some entry) found =
          deed.told-entry shape i past d run.legal old.con.schedule kind (record { 0 = v.0 + 1 }) entry act e (ap (entry_at (v.0 + 1)) (sym (next_is shape past log teams fates now run log d done)) ∙ found) was

      choose : (v : Version) → number_of kind old.con.schedule ≡ Some v → (a b : Bool) → (v.0 == length log) ≡ b
          → d.reply ≡ (cond {A = Answered} a (refused (reply.Expired (record { 0 = length log - shape.window }))) (cond b (refused reply.UpToDate) (refused (reply.Delivered (record { 0 = v.0 + 1 }))))).reply
          → IsScheduleOf after (cond a (forgot old.con.schedule kind) (cond b old.con.schedule (told_of old.con.schedule kind (record { 0 = v.0 + 1 }) (entry_at (v.0 + 1) log))))
      choose v n true b t e = deed.expired shape i past d run.legal old.con.schedule kind _ act e was
      choose v n false true t e = unnoted reply.UpToDate e refl
      choose v n false false t e = by_entry v n (eqb-false v.0 (length log) t) e (entry_at (v.0 + 1) log) refl

      by : (o : Option Version) → number_of kind old.con.schedule ≡ o → d.reply ≡ (deliver_gives log shape.window o).reply → IsScheduleOf after (delivered_at log shape.window old.con.schedule kind o)
      by None n e = unnoted reply.NotSynced e refl
      by (Some v) n e = choose v n (nat_lt v.0 (length log - shape.window)) (v.0 == length log) refl e
