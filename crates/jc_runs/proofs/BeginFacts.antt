-- Begins.
use Rattle.std.proofs.Common.{◌≡◌, ℕ, ◌<◌, Bool, true, false, cond, List, [], ◌∷◌, ◌++◌, length, set, slice_get, Option, Some, None, refl, sym, ap, ◌∙◌, subst, arith, true≢false, eq-eqb, ne_eqb, ◌⊎◌, inl, inr}
use Rattle.std.specs.Option.{option_map, option_or, unwrap_or}
use Rattle.std.proofs.lemmas.List.{length-set}
use Rattle.jc_log.specs.Acts as does
use Rattle.jc_control.specs.declared.begins.Begin.{Begin}
use Rattle.jc_control.specs.declared.begins.Begin.TheVariants.{NotSynced, NoKey, Behind, Begun}
use Rattle.jc_control.specs.declared.begins.Lag.{Lag}
use Rattle.jc_control.specs.Schedules.{ControllerView, Schedule, MirrorsLog, MirrorsJobs, MirrorsPods}
use Rattle.jc_control.specs.ControllerCalls.{begun, begun_at, begun_first, begun_unless, lag}
use Rattle.jc_types.specs.declared.actions.Fault.{Fault}
use Rattle.jc_types.specs.declared.numbers.Version.{Version}
use Rattle.jc_types.specs.declared.objects.Entry.{Entry}
use Rattle.jc_types.specs.declared.objects.Kind.TheVariants.{Jobs, Pods}
use Rattle.jc_types.specs.declared.objects.KeyNames.{KeyNames as Key}
use Rattle.jc_types.specs.declared.replies.Reply.{Reply}
use Rattle.jc_types.specs.declared.replies.Reply.TheVariants as reply
use Rattle.jc_types.specs.declared.runs.Shape.{Shape}
use Rattle.jc_states.specs.declared.bases.Basis.{Basis}
use Rattle.jc_log.specs.Requests.{refused}
use Rattle.jc_log.specs.Deeds.{Deed}
use Rattle.jc_history.specs.Agrees.{IsScheduleOf}
use Rattle.jc_history.specs.Available.{is_quiescent}
use Rattle.jc_history.specs.Diaries.{moment, notes, on_begin}
use Rattle.jc_history.specs.Fresh.{basis as basis_at, begin, begin_at, begin_first, begin_unless, cache_lag as lag_at}
use Rattle.jc_history.specs.Legal.{MaySettle}
use Rattle.jc_history.specs.Lines.{line}
use Rattle.jc_history.specs.Notes.{Note, Began, newest}
use Rattle.jc_history.specs.Numbers.{number}
use Rattle.jc_history.specs.Registers.{register, register_told}
use Rattle.jc_history.specs.Replies.{begin_gives, gives, log_given, reply_of_begin}
use Rattle.jc_history.proofs.BeginSteps.{begun-answer_is}
use Rattle.jc_history.proofs.DeedSteps as deed
use Rattle.jc_ledger.specs.Syncs.{began_of}
use Rattle.jc_asks.specs.Readings.{told_step}
use Rattle.jc_sync.specs.AllRegisters.{HasSyncs}
use Rattle.jc_asks.specs.Sends.{new_sync}
use Rattle.jc_asks.specs.Steps.{Sync}
use Rattle.jc_sync.proofs.BeginFacts.{begun_syncs}
use Rattle.jc_runs.specs.Fates.{Fates}
use Rattle.jc_runs.specs.Machines.{AreWorkers, IsMachine, IsTeam}
use Rattle.jc_runs.specs.Teams.{Team, begin_held, begin_registers, begin_reply, registers_of, with_begun}
use Rattle.jc_runs.proofs.CacheFacts.{done_still, run_quiet, still}
use Rattle.jc_runs.proofs.ListFacts.{missing, register_there, registers_put}
use Rattle.jc_runs.proofs.NoteFacts.{IsOf, SameWorkers, after_own, nothing_new, silent-back}
use Rattle.jc_runs.proofs.RunFacts.{IsDone, next_is, run_one, team_before}
use Rattle.jc_history.proofs.DeedSteps.{own}
use Rattle.jc_history.proofs.FollowFacts.{set-cases}

-- ---- what a begin leaves of the caches

-- Their numbers.
begun_jobs : (now : ℕ) (c : ControllerView) → (begun now c).schedule.jobs_at ≡ c.schedule.jobs_at
begun_jobs now c = by c.schedule.jobs_at c.schedule.pods_at
  where
    unless : (j p : Version) (k : Key) (o : Option Lag) → (begun_unless now c j p k o).schedule.jobs_at ≡ c.schedule.jobs_at
    unless j p k None = refl
    unless j p k (Some l) = refl

    first : (j p : Version) (keys : List Key) → (begun_first now c j p keys).schedule.jobs_at ≡ c.schedule.jobs_at
    first j p [] = refl
    first j p (k ∷ keys) = unless j p k (lag k c j p)

    by : (j p : Option Version) → (begun_at now c j p).schedule.jobs_at ≡ c.schedule.jobs_at
    by None p = refl
    by (Some j) None = refl
    by (Some j) (Some p) = first j p c.schedule.queue.line

begun_pods : (now : ℕ) (c : ControllerView) → (begun now c).schedule.pods_at ≡ c.schedule.pods_at
begun_pods now c = by c.schedule.jobs_at c.schedule.pods_at
  where
    unless : (j p : Version) (k : Key) (o : Option Lag) → (begun_unless now c j p k o).schedule.pods_at ≡ c.schedule.pods_at
    unless j p k None = refl
    unless j p k (Some l) = refl

    first : (j p : Version) (keys : List Key) → (begun_first now c j p keys).schedule.pods_at ≡ c.schedule.pods_at
    first j p [] = refl
    first j p (k ∷ keys) = unless j p k (lag k c j p)

    by : (j p : Option Version) → (begun_at now c j p).schedule.pods_at ≡ c.schedule.pods_at
    by None p = refl
    by (Some j) None = refl
    by (Some j) (Some p) = first j p c.schedule.queue.line

-- Caches that hold go on to hold where their numbers and tables stay.
pub holds_same : (log : List Entry) (old new : ControllerView) → new.schedule.jobs_at ≡ old.schedule.jobs_at → new.schedule.pods_at ≡ old.schedule.pods_at → new.jobs ≡ old.jobs → new.rows ≡ old.rows → MirrorsLog log old → MirrorsLog log new
holds_same log old new ja pa j r h = record {
  jobs = subst (λ o. MirrorsJobs log o new.jobs) (sym ja) (subst (MirrorsJobs log old.schedule.jobs_at) (sym j) h.jobs);
  pods = subst (λ o. MirrorsPods log o new.rows) (sym pa) (subst (MirrorsPods log old.schedule.pods_at) (sym r) h.pods);
}

-- ---- the basis

is_begun : Begin → Bool
is_begun (Begun basis) = true
is_begun other = false

basis_in : Basis → Begin → Basis
basis_in other (Begun basis) = basis
basis_in other answer = other

module _ (notes : List Note) (log : List Entry) (now : ℕ) (x : Basis) where
  abbrev IsIt : Type 0
  IsIt = x ≡ basis_at notes log now x.key x.jobs_at x.pods_at

  unless_it : (j p : Version) (k : Key) (o : Option Lag) → begin_unless (basis_at notes log now k j p) o ≡ Begun x → IsIt
  unfolding is_begun basis_in
  unless_it j p k (Some l) e = absurd (true≢false (sym (ap is_begun e)))
  unless_it j p k None e = subst (λ (y : Basis). y ≡ basis_at notes log now y.key y.jobs_at y.pods_at) (ap (basis_in x) e) refl

  first_it : (j p : Version) (keys : List Key) → begin_first notes log now j p keys ≡ Begun x → IsIt
  unfolding is_begun
  first_it j p [] e = absurd (true≢false (sym (ap is_begun e)))
  first_it j p (k ∷ keys) e = unless_it j p k (lag_at notes log k j p) e

  -- What a begin starts from is what the notes say.
  basis_it : (a b : Option Version) → begin_at notes log now a b ≡ Begun x → IsIt
  unfolding is_begun
  basis_it None b e = absurd (true≢false (sym (ap is_begun e)))
  basis_it (Some j) None e = absurd (true≢false (sym (ap is_begun e)))
  basis_it (Some j) (Some p) e = first_it j p (line notes) e

-- ---- the workers

workers_began : (older : List Note) (rs : List (Option Sync)) (fs : List (Option Fault)) (w : ℕ) (basis : Basis) → AreWorkers older rs fs → AreWorkers (Began w basis ∷ older) (set rs w (Some (new_sync basis))) fs
workers_began older rs fs w basis a = record {
  syncs = λ v sync e. by v sync (set-cases rs w v (Some (new_sync basis)) sync e);
  faults = a.faults;
}
  where
    by : (v : ℕ) (sync : Option Sync) → ((v ≡ w) × (sync ≡ Some (new_sync basis))) ⊎ ((v ≡ w → ⊥) × (slice_get rs v ≡ Some sync)) → register v (Began w basis ∷ older) ≡ option_map (λ (s : Sync). s.flight.basis) sync
    by v sync (inl h) =
        ap (λ b. unwrap_or (option_or (cond b (Some (Some basis)) None) (newest (register_told v) older)) None) (eq-eqb w v (sym h.0))
        ∙ ap (option_map (λ (s : Sync). s.flight.basis)) (sym h.1)
    by v sync (inr h) =
        ap (λ b. unwrap_or (option_or (cond b (Some (Some basis)) None) (newest (register_told v) older)) None) (ne_eqb w v (λ e. h.0 (sym e)))
        ∙ a.syncs v sync h.1

-- ---- the table of events

gives_begin : (shape : Shape) (past : List Deed) (log : List Entry) (i w : ℕ) → gives shape past log (does.Begin i w) ≡ begin_gives (register w (notes shape i past log)) (begin (notes shape i past log) log (moment shape past))
unfolding gives
gives_begin shape past log i w = refl

-- What a begin starts from is what the notes of its controller say.
pub begun_basis : (shape : Shape) (past : List Deed) (log : List Entry) (teams : List Team) (fates : Fates) (now : ℕ) → IsMachine shape past log teams fates now → (i : ℕ) (old : Team) → slice_get teams i ≡ Some old
    → (x : Basis) → (begun now old.con).answer ≡ Begun x → x ≡ basis_at (notes shape i past log) log now x.key x.jobs_at x.pods_at
begun_basis shape past log teams fates now run i old there x is =
    let team = run.each i old there in
    basis_it (notes shape i past log) log now x (number Jobs (notes shape i past log)) (number Pods (notes shape i past log))
    (sym (begun-answer_is (notes shape i past log) log now old.con 0 team.schedule team.holds) ∙ is)

-- What a begin is answered, in the words of the machine.
module _ (shape : Shape) (past : List Deed) (log : List Entry) (teams : List Team) (fates : Fates) (now : ℕ) (run : IsMachine shape past log teams fates now) (i : ℕ) (old : Team) (there : slice_get teams i ≡ Some old) (w : ℕ) where
  same_begin : begin (notes shape i past log) log (moment shape past) ≡ (begun now old.con).answer
  same_begin = ap (begin (notes shape i past log) log) (sym run.now_is) ∙ sym (begun-answer_is (notes shape i past log) log now old.con w (run.each i old there).schedule (run.each i old there).holds)

  begin_given : (o : Option Sync) → slice_get old.registers w ≡ Some o → gives shape past log (does.Begin i w) ≡ begin_gives (option_map (λ s. s.flight.basis) o) (begun now old.con).answer
  begin_given o e = gives_begin shape past log i w ∙ (λ j. begin_gives ((run.each i old there).workers.syncs w o e j) (same_begin j))

  pub begin_gives-at : (o : Option Sync) → slice_get old.registers w ≡ Some o → gives shape past log (does.Begin i w) ≡ refused (begin_reply (Some o) (begun now old.con).answer)
  begin_gives-at None e = begin_given None e
  begin_gives-at (Some sync) e = begin_given (Some sync) e

module _ (shape : Shape) (past : List Deed) (log : List Entry) (teams : List Team) (fates : Fates) (now : ℕ) (run : IsMachine shape past log teams fates now) (d : Deed) (i : ℕ) (old new : Team) (there : slice_get teams i ≡ Some old) where
  abbrev before : List Note
  before = notes shape i past (log_given shape past)

  abbrev after : List Note
  after = notes shape i (d ∷ past) (log_given shape (d ∷ past))

  abbrev answer : Begin
  answer = (begun now old.con).answer

  pub begin_run : (w : ℕ) → i < shape.controllers → w < shape.workers → d.act ≡ does.Begin i w → d.reply ≡ begin_reply (slice_get old.registers w) answer → d.length.0 ≡ length log
      → new.con.schedule ≡ begin_held (slice_get old.registers w) old.con.schedule (begun now old.con).schedule → new.registers ≡ begin_registers (slice_get old.registers w) old.registers w answer
      → new.con.jobs ≡ old.con.jobs → new.con.rows ≡ old.con.rows → new.faults ≡ old.faults → IsMachine shape (d ∷ past) log (set teams i new) fates now
  begin_run w within working act told_is long schedule registers jobs rows faults = by_register (slice_get old.registers w) refl told_is schedule registers
    where
      mine : IsTeam shape past log i old
      mine = run.each i old there

      settled : MaySettle d.act (is_quiescent shape past (log_given shape past))
      settled = subst (λ act. MaySettle act (is_quiescent shape past (log_given shape past))) (sym act) tt

      same_answer : begin (notes shape i past log) log (moment shape past) ≡ answer
      same_answer = same_begin shape past log teams fates now run i old there w

      given : (o : Option Sync) → slice_get old.registers w ≡ Some o → gives shape past log (does.Begin i w) ≡ begin_gives (option_map (λ s. s.flight.basis) o) answer
      given = begin_given shape past log teams fates now run i old there w

      held_same : (h : Schedule) → new.con.schedule ≡ h → h.jobs_at ≡ old.con.schedule.jobs_at → h.pods_at ≡ old.con.schedule.pods_at → MirrorsLog log new.con
      held_same h e ja pa = holds_same log old.con new.con (ap (λ (h : Schedule). h.jobs_at) e ∙ ja) (ap (λ (h : Schedule). h.pods_at) e ∙ pa) jobs rows mine.holds

      -- A worker that has a sync.
      busy : (sync : Sync) → slice_get old.registers w ≡ Some (Some sync) → d.reply ≡ reply.WorkerBusy → new.con.schedule ≡ old.con.schedule → new.registers ≡ old.registers → IsMachine shape (d ∷ past) log (set teams i new) fates now
      busy sync e told_is schedule registers =
          run_quiet shape past log teams fates now run d i old new there done (subst (IsOf i) (sym act) refl) (ap began_of told_is) (ap told_step told_is)
          (subst (IsScheduleOf after) (sym schedule) (subst (λ notes. IsScheduleOf notes old.con.schedule) (sym quiet) (team_before shape past log teams fates now run log d done i old there).schedule))
          (held_same old.con.schedule schedule refl refl) (subst (λ notes. SameWorkers notes before) (sym quiet) (nothing_new before)) registers faults
        where
          done : IsDone shape past log log d
          done = done_still shape past log teams fates now run d i old new there (does.Begin i w) (refused reply.WorkerBusy) act (given (Some sync) e) refl told_is long (within, working) settled

          quiet : after ≡ before
          quiet = after_own shape i past d run.legal (does.Begin i w) reply.WorkerBusy act told_is refl ∙ own i _ before

      -- A free one.
      free : (e : slice_get old.registers w ≡ Some None) (b : Begin) → answer ≡ b → d.reply ≡ reply_of_begin b
          → new.con.schedule ≡ (begun now old.con).schedule → new.registers ≡ with_begun old.registers w b
          → IsMachine shape (d ∷ past) log (set teams i new) fates now
      free e b is told_is schedule registers = by b is told_is registers
        where
          done_b : (b : Begin) → answer ≡ b → d.reply ≡ reply_of_begin b → IsDone shape past log log d
          done_b b is told_is = done_still shape past log teams fates now run d i old new there (does.Begin i w) (refused (reply_of_begin b)) act (given None e ∙ ap (λ b. refused (reply_of_begin b)) is) refl told_is long (within, working) settled

          done : IsDone shape past log log d
          done = done_b b is told_is

          team : IsTeam shape past (log_given shape past) i old
          team = team_before shape past log teams fates now run log d done i old there

          -- The same at the log of the history.
          then : begin before (log_given shape past) (moment shape past) ≡ answer
          then = ap (λ log. begin (notes shape i past log) log (moment shape past)) (sym run.log_is) ∙ same_answer

          is_held : IsScheduleOf after new.con.schedule
          is_held =
              subst (IsScheduleOf after) (ap (λ n. (begun n old.con).schedule) (sym run.now_is) ∙ sym schedule)
              (deed.began shape i past d run.legal old.con w act (told_is ∙ ap reply_of_begin (sym is ∙ sym then)) (still shape past log teams fates now run d i old new there done) team.schedule team.holds)

          is_holds : MirrorsLog log new.con
          is_holds = held_same (begun now old.con).schedule schedule (begun_jobs now old.con) (begun_pods now old.con)

          after_is : (r : Reply) → d.reply ≡ r → after ≡ on_begin w (moment shape past) (log_given shape (d ∷ past)) before r ++ before
          after_is r e = after_own shape i past d run.legal (does.Begin i w) r act e refl ∙ own i _ before

          calm : (r : Reply) → d.reply ≡ r → SameWorkers
              (on_begin w (moment shape past) (log_given shape (d ∷ past)) before r ++ before) before → began_of r
              ≡ None → told_step r ≡ None → new.registers ≡ old.registers
              → IsMachine shape (d ∷ past) log (set teams i new) fates now
          calm r e same none untold registers =
              run_quiet shape past log teams fates now run d i old new there done (subst (IsOf i) (sym act) refl)
              (ap began_of e ∙ none) (ap told_step e ∙ untold) is_held is_holds
              (subst (λ notes. SameWorkers notes before) (sym (after_is r e)) same) registers faults

          by : (b : Begin) → answer ≡ b → d.reply ≡ reply_of_begin b → new.registers ≡ with_begun old.registers w b → IsMachine shape (d ∷ past) log (set teams i new) fates now
          by NotSynced is t rs = calm reply.NotSynced t (nothing_new before) refl refl rs
          by NoKey is t rs = calm reply.NoKey t (nothing_new before) refl refl rs
          by (Behind kind need have) is t rs = calm (reply.Behind kind need have) t (silent-back before (line before)) refl refl rs
          by (Begun basis) is t rs =
              run_one shape past log teams fates now run log d done i old new (subst (IsOf i) (sym act) refl) (record {
                schedule = is_held;
                holds = subst (λ log. MirrorsLog log new.con) (next_is shape past log teams fates now run log d done) is_holds;
                workers = subst (λ rs. AreWorkers after rs new.faults) (sym rs) (subst (λ fs. AreWorkers after (set old.registers w (Some (new_sync basis))) fs) (sym faults)
                    (subst (λ notes. AreWorkers notes (set old.registers w (Some (new_sync basis))) old.faults) (sym now_notes) (workers_began before old.registers old.faults w basis team.workers)));
                count = ap (λ rs. length rs) rs ∙ length-set old.registers w (Some (new_sync basis)) ∙ team.count;
                faults = ap (λ fs. length fs) faults ∙ team.faults;
              })
              (subst (HasSyncs (d ∷ past) log) (registers_put teams i old new there w (Some (new_sync basis)) rs)
              (begun_syncs d past log (registers_of teams) i w now old.con basis run.syncs (register_there teams i old new there w None e) mine.holds is act t long))
              run.plannable
            where
              now_notes : after ≡ Began w basis ∷ before
              now_notes =
                  after_is (reply.Begun basis.key basis.jobs_at basis.pods_at) t
                  ∙ ap (λ log. Began w (basis_at before log (moment shape past) basis.key basis.jobs_at basis.pods_at) ∷ before) (still shape past log teams fates now run d i old new there done)
                  ∙ ap (λ b. Began w b ∷ before) (sym (basis_it before (log_given shape past) (moment shape past) basis (number Jobs before) (number Pods before) (then ∙ is)))

      by_register : (o : Option (Option Sync)) → slice_get old.registers w ≡ o → d.reply ≡ begin_reply o answer → new.con.schedule ≡ begin_held o old.con.schedule (begun now old.con).schedule → new.registers ≡ begin_registers o old.registers w answer
          → IsMachine shape (d ∷ past) log (set teams i new) fates now
      by_register None e told_is schedule registers = absurd (none_at e)
        where
          none_at : slice_get old.registers w ≡ None → ⊥
          none_at e = missing old.registers w (let n = mine.count in omega (arith, n, working)) e
      by_register (Some None) e told_is schedule registers = free e answer refl told_is schedule registers
      by_register (Some (Some sync)) e told_is schedule registers = busy sync e told_is schedule registers
