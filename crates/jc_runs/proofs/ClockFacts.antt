-- The clock: all controllers.
use Rattle.std.proofs.Common.{◌≡◌, ℕ, zero, suc, ◌+◌, List, [], ◌∷◌, Bool, true, false, cond, nat_lt, length, map, slice_get, Option, Some, None, IfSome, is_some, refl, sym, ap, ◌∙◌, subst, arith, true≢false}
use Rattle.std.specs.Option.{unwrap_or}
use Rattle.std.proofs.lemmas.List.{length-map}
use Rattle.jc_log.specs.Acts as does
use Rattle.std.proofs.lemmas.Bool.Decides.{nat_tests}
use Rattle.std.specs.Prelude.{SomeIff, ◌<◌}
use Rattle.jc_log.specs.Range.{IsMoment, end_of_moments}
use Rattle.jc_types.specs.declared.objects.Entry.{Entry}
use Rattle.jc_types.specs.declared.replies.Reply.{Reply}
use Rattle.jc_types.specs.declared.replies.Reply.TheVariants as reply
use Rattle.jc_types.specs.declared.runs.Shape.{Shape}
use Rattle.jc_log.specs.Requests.{Answered, grown, refused}
use Rattle.jc_log.specs.Deeds.{Deed}
use Rattle.jc_ledger.specs.Syncs.{began_of}
use Rattle.jc_ledger.specs.Tied.{StandsWithin as IsReached}
use Rattle.jc_history.specs.Available.{is_quiescent}
use Rattle.jc_history.specs.Diaries.{is_now, moment, notes_taken, notes, restarts, ticks}
use Rattle.jc_history.specs.Legal.{IsOfShape, MaySettle}
use Rattle.jc_history.specs.Replies.{clock_gives, gives, log_given}
use Rattle.jc_history.proofs.DeedSteps as deed
use Rattle.jc_history.proofs.FollowFacts.{holds-after}
use Rattle.jc_asks.specs.Readings.{told_step}
use Rattle.jc_sync.specs.AllRegisters.{HasSyncs}
use Rattle.jc_sync.proofs.RegisterFacts.{quiet_syncs}
use Rattle.jc_runs.specs.Fates.{AreFated, Fates}
use Rattle.jc_runs.specs.Machines.{AreWorkers, IsMachine, IsTeam}
use Rattle.jc_runs.specs.Teams.{Team, clocked_team, registers_of}
use Rattle.jc_runs.proofs.NoteFacts.{after_own, silent-clock, workers_same}
use Rattle.jc_runs.proofs.FateFacts.{KeepsFates}
use Rattle.jc_runs.proofs.RunFacts.{IsDone, fated_still, run_next, team_before, team_quiet}

pub gives_clock : (shape : Shape) (past : List Deed) (log : List Entry) (add : ℕ) → gives shape past log (does.Clock add) ≡ clock_gives (moment shape past + add)
unfolding gives
gives_clock shape past log add = refl

clocked_registers : (now : ℕ) (teams : List Team) → registers_of teams ≡ registers_of (map (clocked_team now) teams)
clocked_registers now [] = refl
clocked_registers now (t ∷ teams) = ap (λ rs. t.registers ∷ rs) (clocked_registers now teams)

pub record Was (now c : ℕ) (teams : List Team) (new : Team) : Type 0 where
  pub old : Team
  pub there : slice_get teams c ≡ Some old
  pub is : new ≡ clocked_team now old

was : (now c : ℕ) (teams : List Team) (new : Team) → slice_get (map (clocked_team now) teams) c ≡ Some new → Was now c teams new
was now c [] new e = absurd (true≢false (sym (ap is_some e)))
was now zero (t ∷ teams) new e = record { old = t; there = refl; is = sym (ap (λ o. unwrap_or o new) e) }
was now (suc c) (t ∷ teams) new e = let w = was now c teams new e in record { old = w.old; there = w.there; is = w.is }

module _ (shape : Shape) (past : List Deed) (log : List Entry) (teams : List Team) (fates : Fates) (now : ℕ) (run : IsMachine shape past log teams fates now) (d : Deed) (add : ℕ) (act : d.act ≡ does.Clock add) (long : d.length.0 ≡ length log) where
  done_by : (r : Reply) → d.reply ≡ r → clock_gives (now + add) ≡ refused r → IsDone shape past log log d
  done_by r e g =
      let is = ap (gives shape past log) act ∙ gives_clock shape past log add ∙ ap (λ n. clock_gives (n + add)) (sym run.now_is) ∙ g in
      record {
        reply = e ∙ sym (ap (λ (a : Answered). a.reply) is);
        grown = sym (ap (λ (a : Answered). grown log a.entry) is);
        length = long;
        within = subst (IsOfShape shape) (sym act) tt;
        settled = subst (λ act. MaySettle act (is_quiescent shape past (log_given shape past))) (sym act) tt;
      }

  quiet_by : (r : Reply) → d.reply ≡ r → began_of r ≡ None → told_step r ≡ None → HasSyncs (d ∷ past) log (registers_of teams)
  quiet_by r e b t =
      quiet_syncs d past log (registers_of teams) run.syncs (record { still = long; within = subst (λ o. IfSome o (IsReached (length log))) (sym (ap began_of e ∙ b)) tt }) (ap began_of e ∙ b) (ap told_step e ∙ t)

  fated : IsDone shape past log log d → AreFated (d ∷ past) fates
  fated done = fated_still shape past log teams fates now run log d done (subst KeepsFates (sym act) tt)

  -- The clock is at its end.
  pub end_run : d.reply ≡ reply.ClockEnd → clock_gives (now + add) ≡ refused reply.ClockEnd → IsMachine shape (d ∷ past) log teams fates now
  end_run e g =
      run_next shape past log teams fates now run log d (done_by reply.ClockEnd e g) teams fates now (sym (ap (λ n. now + n) (ap (λ r. cond (is_now r) (ticks d.act) 0) e) ∙ omega arith)) (fated (done_by reply.ClockEnd e g)) refl
      (λ c team there. team_quiet shape past log teams fates now run log d (done_by reply.ClockEnd e g) c team
      (record { goes_on = ap (restarts c) act; nothing = λ i. notes_taken c (act i) (e i) (moment shape past) (log_given shape (d ∷ past)) (notes shape c past (log_given shape past)) }) there)
      (quiet_by reply.ClockEnd e refl refl) run.plannable

  -- It goes on.
  pub tick_run : d.reply ≡ reply.Now (now + add) → clock_gives (now + add) ≡ refused (reply.Now (now + add)) → IsMachine shape (d ∷ past) log (map (clocked_team (now + add)) teams) fates (now + add)
  tick_run e g =
      run_next shape past log teams fates now run log d done (map (clocked_team (now + add)) teams) fates (now + add) (ap (λ n. now + n) (sym ((λ i. cond (is_now (e i)) (ticks (act i)) 0)))) (fated done) (length-map teams (clocked_team (now + add)))
      (λ c new there. by c new (was (now + add) c teams new there))
      (subst (HasSyncs (d ∷ past) log) (clocked_registers (now + add) teams) (quiet_by (reply.Now (now + add)) e refl refl)) run.plannable
    where
      done : IsDone shape past log log d
      done = done_by (reply.Now (now + add)) e g

      by : (c : ℕ) (new : Team) → Was (now + add) c teams new → IsTeam shape (d ∷ past) (log_given shape (d ∷ past)) c new
      by c new w =
          let t = team_before shape past log teams fates now run log d done c w.old w.there in
          subst (IsTeam shape (d ∷ past) (log_given shape (d ∷ past)) c) (sym w.is) (record {
            schedule = deed.ticked shape c past d run.legal w.old.con.schedule add (now + add) act e t.schedule;
            holds = let h = holds-after shape past d w.old.con t.holds in record { jobs = h.jobs; pods = h.pods };
            workers =
                subst (λ notes. AreWorkers notes w.old.registers w.old.faults) (sym (after_own shape c past d run.legal (does.Clock add) d.reply act refl refl))
                (workers_same _ (notes shape c past (log_given shape past)) w.old.registers w.old.faults (silent-clock (notes shape c past (log_given shape past)) d.reply) t.workers);
            count = t.count;
            faults = t.faults;
          })

  -- In the words of the code.
  pub tick_at : (moment : ℕ) (news : List Team) → moment ≡ now + add → d.reply ≡ reply.Now moment → clock_gives (now + add) ≡ refused (reply.Now (now + add)) → news ≡ map (clocked_team moment) teams → IsMachine shape (d ∷ past) log news fates moment
  tick_at moment news m e g n =
      subst (λ news. IsMachine shape (d ∷ past) log news fates moment) (sym (n ∙ ap (λ m. map (clocked_team m) teams) m))
      (subst (λ m. IsMachine shape (d ∷ past) log (map (clocked_team (now + add)) teams) fates m) (sym m) (tick_run (e ∙ ap (λ m. reply.Now m) m) g))

lt_from : (a b : ℕ) → nat_lt a b ≡ true → a < b
lt_from a b e = grind (arith, nat_tests, e)

lt_to : (a b : ℕ) → a < b → nat_lt a b ≡ true
lt_to a b e = grind (arith, nat_tests, e)

-- What the code's sum of moments says of the clock.
pub clock_ends : (n : ℕ) (o : Option ℕ) → SomeIff o (IsMoment n) n → o ≡ None → clock_gives n ≡ refused reply.ClockEnd
clock_ends n o s e = by (nat_lt n end_of_moments) refl
  where
    by : (b : Bool) → nat_lt n end_of_moments ≡ b → cond b (refused (reply.Now n)) (refused reply.ClockEnd) ≡ refused reply.ClockEnd
    by true t = absurd (subst (λ o. SomeIff o (IsMoment n) n) e s (lt_from n end_of_moments t))
    by false t = refl

pub clock_goes : (n : ℕ) (o : Option ℕ) (moment : ℕ) → SomeIff o (IsMoment n) n → o ≡ Some moment → (moment ≡ n) × (clock_gives n ≡ refused (reply.Now n))
clock_goes n o moment s e =
    let h = subst (λ o. SomeIff o (IsMoment n) n) e s in
    (h.1, ap (λ b. cond b (refused (reply.Now n)) (refused reply.ClockEnd)) (lt_to n end_of_moments h.0))
