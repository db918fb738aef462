-- One more deed: the closing lemmas, one for each shape of event. The lemmas on events end with one of these:
--     the store alone                          run_store (StoreFacts.store_event for a request)
--     one controller                           CacheFacts.run_quiet
--     one controller, its workers, the store   run_one
--     all controllers                          run_next
--     neither                                  PlainEvents.run_nothing
use Rattle.std.proofs.Common.{◌≡◌, ℕ, ◌+◌, ◌≤◌, List, ◌∷◌, length, set, slice_get, Option, Some, None, IfSome, refl, sym, ap, ◌∙◌, subst, arith, ◌⊎◌, inl, inr}
use Rattle.std.proofs.lemmas.List.{length-set}
use Rattle.jc_types.specs.declared.objects.Entry.{Entry}
use Rattle.jc_types.specs.declared.runs.Shape.{Shape}
use Rattle.jc_log.specs.Requests.{grown}
use Rattle.jc_log.specs.Deeds.{Deed}
use Rattle.jc_history.specs.Available.{is_quiescent}
use Rattle.jc_history.specs.Diaries.{seconds}
use Rattle.jc_history.specs.Follows.{TakesNoNote}
use Rattle.jc_history.specs.Legal.{IsLegalNext, IsOfShape, MaySettle}
use Rattle.jc_history.specs.Replies.{gives, log_after, log_given, reply_given}
use Rattle.jc_history.proofs.DeedSteps.{untouched}
use Rattle.jc_history.proofs.FollowFacts.{holds-after, set-cases}
use Rattle.jc_sync.specs.Plannable.{FitsIn, IsPlannable}
use Rattle.jc_sync.specs.AllRegisters.{HasSyncs}
use Rattle.jc_sync.proofs.PlanReady.{plannable_more}
use Rattle.std.specs.Option.{option_or}
use Rattle.jc_history.specs.Nodes.{fate}
use Rattle.jc_runs.specs.Fates.{AreFated, Fates}
use Rattle.jc_runs.specs.Machines.{AreWorkers, IsMachine, IsTeam}
use Rattle.jc_runs.specs.Teams.{Team, registers_of}
use Rattle.jc_runs.proofs.FateFacts.{KeepsFates, fate_told-none, own_fates, store_fates}
use Rattle.jc_runs.proofs.NoteFacts.{IsOf, IsStoreAct, after_quiet, others_quiet, still_of, still_store, store_quiet}

-- What the code shows of a deed: it is what the table of events gives.
pub record IsDone (shape : Shape) (past : List Deed) (log next : List Entry) (d : Deed) : Type 0 where
  pub reply : d.reply ≡ reply_given shape past log d.act
  pub grown : next ≡ log_after shape past log d.act
  pub length : d.length.0 ≡ length next
  pub within : IsOfShape shape d.act
  pub settled : MaySettle d.act (is_quiescent shape past (log_given shape past))

module _ (shape : Shape) (past : List Deed) (log : List Entry) (teams : List Team) (fates : Fates) (now : ℕ) (run : IsMachine shape past log teams fates now) (next : List Entry) (d : Deed) (done : IsDone shape past log next d) where
  pub next_is : next ≡ log_given shape (d ∷ past)
  unfolding log_given
  next_is = done.grown ∙ ap (λ log. log_after shape past log d.act) run.log_is

  pub is_next : IsLegalNext shape past d
  is_next = record {
    within = done.within;
    settled = done.settled;
    reply = done.reply ∙ ap (λ log. reply_given shape past log d.act) run.log_is;
    length = done.length ∙ ap (λ log. length log) next_is;
  }

  -- What the controllers had, with the log of the history.
  pub team_before : (c : ℕ) (team : Team) → slice_get teams c ≡ Some team → IsTeam shape past (log_given shape past) c team
  team_before c team e = subst (λ log. IsTeam shape past log c team) run.log_is (run.each c team e)

  -- A controller that takes no note of the deed.
  pub team_quiet : (c : ℕ) (team : Team) → TakesNoNote shape past d c → slice_get teams c ≡ Some team → IsTeam shape (d ∷ past) (log_given shape (d ∷ past)) c team
  team_quiet c team q e =
      let a = team_before c team e in
      record {
        schedule = untouched shape c past d run.legal team.con.schedule q.goes_on q.nothing a.schedule;
        holds = holds-after shape past d team.con a.holds;
        workers = subst (λ notes. AreWorkers notes team.registers team.faults) (sym (after_quiet shape c past d run.legal q)) a.workers;
        count = a.count;
        faults = a.faults;
      }

  grown_short : (o : Option Entry) → length (grown log o) ≤ length log + 1
  grown_short None = omega arith
  grown_short (Some e) = omega arith

  -- The fates stay, but by a command for them.
  pub fated_still : KeepsFates d.act → AreFated (d ∷ past) fates
  fated_still keeps k = run.fated k ∙ sym (ap (λ o. option_or o (fate past k)) (fate_told-none k d d.act refl keeps))

  -- ALL CONTROLLERS, the store and the fates may have changed.
  pub run_next : (news : List Team) (ends : Fates) (later : ℕ) → later ≡ now + seconds d → AreFated (d ∷ past) ends → length news ≡ length teams
      → ((c : ℕ) (team : Team) → slice_get news c ≡ Some team → IsTeam shape (d ∷ past) (log_given shape (d ∷ past)) c team)
      → HasSyncs (d ∷ past) next (registers_of news) → IsPlannable next → IsMachine shape (d ∷ past) next news ends later
  run_next news ends later t fated n each syncs plannable = record {
    legal = (is_next, run.legal);
    log_is = next_is;
    now_is = t ∙ ap (λ m. m + seconds d) run.now_is;
    fated = fated;
    count = n ∙ run.count;
    each = λ c team e. subst (λ log. IsTeam shape (d ∷ past) log c team) (sym next_is) (each c team e);
    syncs = syncs;
    plannable = plannable;
    short = short;
  }
    where
      few : length next ≤ length log + 1
      few = subst (λ l. length l ≤ length log + 1) (sym done.grown) (grown_short (gives shape past log d.act).entry)

      short : length next ≤ length (d ∷ past)
      short = omega (arith, few, run.short)

  -- THE STORE ALONE.
  pub run_store : IsStoreAct d.act → HasSyncs (d ∷ past) next (registers_of teams) → IsPlannable next → IsMachine shape (d ∷ past) next teams fates now
  run_store s syncs plannable =
      run_next teams fates now (sym (ap (λ n. now + n) (still_store d s) ∙ omega arith)) (fated_still (store_fates d.act s)) refl (λ c team e. team_quiet c team (store_quiet shape past d s c) e) syncs plannable

  -- ONE CONTROLLER with its workers, and perhaps the store.
  pub run_one : (i : ℕ) (old new : Team) → IsOf i d.act → IsTeam shape (d ∷ past) (log_given shape (d ∷ past)) i new
      → HasSyncs (d ∷ past) next (registers_of (set teams i new)) → IsPlannable next → IsMachine shape (d ∷ past) next (set teams i new) fates now
  run_one i old new o team syncs plannable =
      run_next (set teams i new) fates now (sym (ap (λ n. now + n) (still_of i d o) ∙ omega arith)) (fated_still (own_fates i d.act o)) (length-set teams i new) (λ c other e. by c other (set-cases teams i c new other e)) syncs plannable
    where
      by : (c : ℕ) (other : Team) → ((c ≡ i) × (other ≡ new)) ⊎ ((c ≡ i → ⊥) × (slice_get teams c ≡ Some other)) → IsTeam shape (d ∷ past) (log_given shape (d ∷ past)) c other
      by c other (inl h) = subst (λ j. IsTeam shape (d ∷ past) (log_given shape (d ∷ past)) j other) (sym h.0) (subst (IsTeam shape (d ∷ past) (log_given shape (d ∷ past)) i) (sym h.1) team)
      by c other (inr h) = team_quiet c other (others_quiet shape past d i o c h.0) h.1

-- What is appended keeps what a log keeps for plans.
pub plannable_grown : (log : List Entry) (o : Option Entry) → IsPlannable log → IfSome o FitsIn → IsPlannable (grown log o)
plannable_grown log None p fits = p
plannable_grown log (Some e) p fits = plannable_more e log p fits
