-- Restarts and faults.
use Rattle.std.proofs.Common.{◌≡◌, ℕ, zero, suc, ◌<◌, cond, IfSome, List, [], ◌∷◌, ◌++◌, length, map, set, slice_get, Option, Some, None, refl, sym, ap, ◌∙◌, subst, eq-eqb, ne_eqb, true≢false, is_some, ◌⊎◌, inl, inr}
use Rattle.std.specs.Option.{option_map, option_or, unwrap_or}
use Rattle.std.proofs.lemmas.List.{length-set, length-map}
use Rattle.jc_log.specs.Acts as does
use Rattle.jc_control.specs.Schedules.{ControllerView, Schedule, MirrorsLog, MirrorsJobs, MirrorsPods, idle}
use Rattle.jc_control.specs.Caches.{pods_at}
use Rattle.std.specs.Prelude.{replicate}
use Rattle.jc_types.specs.declared.actions.Fault.{Fault}
use Rattle.jc_types.specs.declared.objects.Entry.{Entry}
use Rattle.jc_types.specs.declared.replies.Reply.TheVariants as reply
use Rattle.jc_types.specs.declared.runs.Shape.{Shape}
use Rattle.jc_log.specs.Requests.{refused}
use Rattle.jc_log.specs.Acts.{Act}
use Rattle.jc_log.specs.Deeds.{Deed}
use Rattle.jc_ledger.specs.EventKinds.{AppendsNoEntry}
use Rattle.jc_ledger.specs.Syncs.{began_of}
use Rattle.jc_ledger.specs.Tied.{StandsWithin as IsReached}
use Rattle.jc_history.specs.Agrees.{IsScheduleOf}
use Rattle.jc_history.specs.Available.{is_quiescent}
use Rattle.jc_history.specs.Diaries.{moment, notes_taken, notes, restarts}
use Rattle.jc_history.specs.Legal.{MaySettle}
use Rattle.jc_history.specs.Notes.{Note, Faulted, newest}
use Rattle.jc_history.specs.Registers.{fault_told, pending}
use Rattle.jc_history.specs.Replies.{gives, log_given}
use Rattle.jc_history.proofs.DeedSteps as deed
use Rattle.jc_history.proofs.HeldSteps as schedule
use Rattle.jc_history.proofs.LegalFacts.{notes-next}
use Rattle.jc_asks.specs.Readings.{told_step}
use Rattle.jc_sync.specs.AllRegisters.{HasSyncs, freed}
use Rattle.jc_asks.specs.Steps.{Sync}
use Rattle.jc_sync.proofs.RegisterFacts.{quiet_syncs, restart_syncs}
use Rattle.jc_runs.specs.Fates.{Fates}
use Rattle.jc_runs.specs.Machines.{AreWorkers, IsMachine, IsTeam}
use Rattle.jc_runs.specs.Teams.{Team, registers_of}
use Rattle.jc_runs.proofs.CacheFacts.{done_still}
use Rattle.jc_runs.proofs.ListFacts.{registers_restart, registers_stay}
use Rattle.jc_runs.proofs.NoteFacts.{IsOf, after_own}
use Rattle.jc_runs.proofs.RunFacts.{IsDone, next_is, run_one, team_before}
use Rattle.jc_history.proofs.DeedSteps.{own}
use Rattle.jc_history.proofs.FollowFacts.{set-cases}

pub gives_restart : (shape : Shape) (past : List Deed) (log : List Entry) (i : ℕ) → gives shape past log (does.Restart i) ≡ refused reply.Done
unfolding gives
gives_restart shape past log i = refl

pub gives_fault : (shape : Shape) (past : List Deed) (log : List Entry) (i w : ℕ) (fault : Fault) → gives shape past log (does.PutFault i w fault) ≡ refused reply.Done
unfolding gives
gives_fault shape past log i w fault = refl

-- No worker has anything.
all_none : {A B : Type 0} (xs : List A) (w : ℕ) (y : Option B) → slice_get (map (λ x. None) xs) w ≡ Some y → y ≡ None
all_none [] w y e = absurd (true≢false (sym (ap is_some e)))
all_none {A} {B} (x ∷ xs) zero y e = sym (ap (λ (o : Option (Option B)). unwrap_or o None) e)
all_none (x ∷ xs) (suc w) y e = all_none xs w y e

workers_free : (rs : List (Option Sync)) (fs : List (Option Fault)) → AreWorkers [] (freed rs) (map (λ f. None) fs)
workers_free rs fs = record {
  syncs = λ w sync e. sym (ap (option_map (λ (s : Sync). s.flight.basis)) (all_none rs w sync e));
  faults = λ w fault e. sym (all_none fs w fault e);
}

workers_faulted : (older : List Note) (rs : List (Option Sync)) (fs : List (Option Fault)) (w : ℕ) (fault : Fault) → AreWorkers older rs fs → AreWorkers (Faulted w fault ∷ older) rs (set fs w (Some fault))
workers_faulted older rs fs w fault a = record {
  syncs = a.syncs;
  faults = λ v f e. by v f (set-cases fs w v (Some fault) f e);
}
  where
    by : (v : ℕ) (f : Option Fault) → ((v ≡ w) × (f ≡ Some fault)) ⊎ ((v ≡ w → ⊥) × (slice_get fs v ≡ Some f)) → pending v (Faulted w fault ∷ older) ≡ f
    by v f (inl h) = ap (λ b. unwrap_or (option_or (cond b (Some (Some fault)) None) (newest (fault_told v) older)) None) (eq-eqb w v (sym h.0)) ∙ sym h.1
    by v f (inr h) = ap (λ b. unwrap_or (option_or (cond b (Some (Some fault)) None) (newest (fault_told v) older)) None) (ne_eqb w v (λ e. h.0 (sym e))) ∙ a.faults v f h.1

pub replicate_free : {A B : Type 0} (xs : List A) (n : ℕ) → n ≡ length xs → replicate {A = Option B} n None ≡ map (λ x. None) xs
replicate_free {A} {B} xs n e = ap (λ m. replicate {A = Option B} m None) e ∙ by xs
  where
    by : (xs : List A) → replicate {A = Option B} (length xs) None ≡ map (λ x. None) xs
    by [] = refl
    by (x ∷ xs) = ap (λ l. None ∷ l) (by xs)

pub holds_idle : (log : List Entry) (con : ControllerView) → con.schedule ≡ idle → con.jobs ≡ [] → con.rows ≡ [] → MirrorsLog log con
holds_idle log con h j r = record {
  jobs = subst (λ (h : Schedule). MirrorsJobs log h.jobs_at con.jobs) (sym h) j;
  pods = subst (λ (h : Schedule). MirrorsPods log h.pods_at con.rows) (sym h) (λ k. ap (pods_at k) r);
}

module _ (shape : Shape) (past : List Deed) (log : List Entry) (teams : List Team) (fates : Fates) (now : ℕ)
    (run : IsMachine shape past log teams fates now) (d : Deed) (i : ℕ) (old new : Team)
    (there : slice_get teams i ≡ Some old) (within : i < shape.controllers) where
  abbrev older : List Note
  older = notes shape i past (log_given shape past)

  abbrev newer : List Note
  newer = notes shape i (d ∷ past) (log_given shape (d ∷ past))

  still : (act : Act) → d.reply ≡ reply.Done → d.length.0 ≡ length log → AppendsNoEntry d log
  still act e long = record { still = long; within = subst (λ o. IfSome o (IsReached (length log))) (sym (ap began_of e)) tt }

  pub restart_run : d.act ≡ does.Restart i → d.reply ≡ reply.Done → d.length.0 ≡ length log → new.con.schedule ≡ idle → MirrorsLog log new.con → new.registers ≡ freed old.registers → new.faults ≡ map (λ f. None) old.faults
      → IsMachine shape (d ∷ past) log (set teams i new) fates now
  restart_run act told_is long schedule holds registers faults =
      run_one shape past log teams fates now run log d done i old new (subst (IsOf i) (sym act) refl) (record {
        schedule = subst (IsScheduleOf newer) (sym schedule) (deed.restarted shape i past d run.legal act);
        holds = subst (λ log. MirrorsLog log new.con) (next_is shape past log teams fates now run log d done) holds;
        workers =
            subst (λ rs. AreWorkers newer rs new.faults) (sym registers) (subst (λ fs. AreWorkers newer (freed old.registers) fs) (sym faults)
            (subst (λ notes. AreWorkers notes (freed old.registers) (map (λ f. None) old.faults)) (sym empty) (workers_free old.registers old.faults)));
        count = ap (λ rs. length rs) registers ∙ length-map old.registers (λ r. None) ∙ team.count;
        faults = ap (λ fs. length fs) faults ∙ length-map old.faults (λ f. None) ∙ team.faults;
      })
      (subst (HasSyncs (d ∷ past) log) (registers_restart teams i old new there registers) (restart_syncs d past log (registers_of teams) i run.syncs (still (does.Restart i) told_is long) (ap began_of told_is) (ap told_step told_is)))
      run.plannable
    where
      done : IsDone shape past log log d
      done =
          done_still shape past log teams fates now run d i old new there (does.Restart i) (refused reply.Done) act (gives_restart shape past log i) refl told_is long within
          (subst (λ act. MaySettle act (is_quiescent shape past (log_given shape past))) (sym act) tt)

      team : IsTeam shape past (log_given shape past) i old
      team = team_before shape past log teams fates now run log d done i old there

      empty : newer ≡ []
      empty =
          notes-next shape i past d run.legal
          ∙ ap (λ act. cond (restarts i act) [] (notes_taken i act d.reply (moment shape past) (log_given shape (d ∷ past)) older ++ older)) act
          ∙ ap (λ b. cond b [] (notes_taken i (does.Restart i) d.reply (moment shape past) (log_given shape (d ∷ past)) older ++ older)) (eq-eqb i i refl)

  pub fault_run : (w : ℕ) (fault : Fault) → w < shape.workers → d.act ≡ does.PutFault i w fault → d.reply ≡ reply.Done → d.length.0 ≡ length log → new.con ≡ old.con → new.registers ≡ old.registers → new.faults ≡ set old.faults w (Some fault)
      → IsMachine shape (d ∷ past) log (set teams i new) fates now
  fault_run w fault working act told_is long con registers faults =
      run_one shape past log teams fates now run log d done i old new (subst (IsOf i) (sym act) refl) (record {
        schedule = subst (λ c. IsScheduleOf newer c.schedule) (sym con) (subst (λ notes. IsScheduleOf notes old.con.schedule) (sym after) (schedule.held-faulted older old.con.schedule w fault team.schedule));
        holds = subst (λ c. MirrorsLog (log_given shape (d ∷ past)) c) (sym con) (subst (λ log. MirrorsLog log old.con) (next_is shape past log teams fates now run log d done) (run.each i old there).holds);
        workers =
            subst (λ rs. AreWorkers newer rs new.faults) (sym registers) (subst (λ fs. AreWorkers newer old.registers fs) (sym faults)
            (subst (λ notes. AreWorkers notes old.registers (set old.faults w (Some fault))) (sym after) (workers_faulted older old.registers old.faults w fault team.workers)));
        count = ap (λ rs. length rs) registers ∙ team.count;
        faults = ap (λ fs. length fs) faults ∙ length-set old.faults w (Some fault) ∙ team.faults;
      })
      (subst (HasSyncs (d ∷ past) log) (registers_stay teams i old new there registers) (quiet_syncs d past log (registers_of teams) run.syncs (still (does.PutFault i w fault) told_is long) (ap began_of told_is) (ap told_step told_is)))
      run.plannable
    where
      done : IsDone shape past log log d
      done =
          done_still shape past log teams fates now run d i old new there (does.PutFault i w fault) (refused reply.Done) act (gives_fault shape past log i w fault) refl told_is long (within, working)
          (subst (λ act. MaySettle act (is_quiescent shape past (log_given shape past))) (sym act) tt)

      team : IsTeam shape past (log_given shape past) i old
      team = team_before shape past log teams fates now run log d done i old there

      after : newer ≡ Faulted w fault ∷ older
      after = after_own shape i past d run.legal (does.PutFault i w fault) reply.Done act told_is refl ∙ own i (Faulted w fault ∷ []) older
