-- A cluster to which nothing has happened.
use Rattle.std.proofs.Common.{◌≡◌, ℕ, zero, suc, List, [], ◌∷◌, ◌++◌, length, slice_get, Option, Some, None, is_some, refl, sym, ap, ◌∙◌, subst, arith, true≢false}
use Rattle.std.specs.Option.{option_map, unwrap_or}
use Rattle.std.specs.Prelude.{replicate}
use Rattle.jc_types.specs.declared.actions.Fault.{Fault}
use Rattle.jc_types.specs.declared.runs.Shape.{Shape}
use Rattle.jc_history.specs.Agrees.{IsScheduleOf}
use Rattle.jc_history.specs.Replies.{log_given}
use Rattle.jc_history.proofs.HeldSteps as schedule
use Rattle.jc_sync.specs.AllRegisters.{flights_in, flights_of_all, register_at}
use Rattle.jc_asks.specs.Steps.{Sync}
use Rattle.jc_sync.proofs.RegisterFacts.{start_syncs}
use Rattle.jc_runs.specs.Machines.{IsMachine, IsTeam}
use Rattle.jc_runs.specs.Teams.{KnowsNothing, Team, registers_of}
use Rattle.jc_runs.proofs.EventFacts.{holds_idle}

none_at : {A : Type 0} (n w : ℕ) (y : Option A) → slice_get (replicate {A = Option A} n None) w ≡ Some y → y ≡ None
none_at zero w y e = absurd (true≢false (sym (ap is_some e)))
none_at {A} (suc n) zero y e = sym (ap (λ (o : Option (Option A)). unwrap_or o None) e)
none_at (suc n) (suc w) y e = none_at n w y e

many : (A : Type 0) (n : ℕ) → length (replicate {A = Option A} n None) ≡ n
many A zero = refl
many A (suc n) = let e = many A n in omega (arith, e)

none_fly : (n : ℕ) → flights_in (replicate n None) ≡ []
none_fly zero = refl
none_fly (suc n) = none_fly n

module _ (shape : Shape) where
  fresh_team : (c : ℕ) (team : Team) → KnowsNothing shape.workers team → IsTeam shape [] [] c team
  fresh_team c team f = record {
    schedule = subst (IsScheduleOf []) (sym f.schedule) schedule.held-idle;
    holds = holds_idle [] team.con f.schedule f.jobs f.rows;
    workers = record {
      syncs = λ w sync e. sym (ap (λ o. option_map (λ (s : Sync). s.flight.basis) o) (none_at shape.workers w sync (ap (λ l. slice_get l w) (sym f.registers) ∙ e)));
      faults = λ w fault e. sym (none_at shape.workers w fault (ap (λ l. slice_get l w) (sym f.faults) ∙ e));
    };
    count = ap (λ l. length l) f.registers ∙ many Sync shape.workers;
    faults = ap (λ l. length l) f.faults ∙ many Fault shape.workers;
  }

-- At the start.
pub run_start : (shape : Shape) (teams : List Team) → length teams ≡ shape.controllers → ((c : ℕ) (team : Team) → slice_get teams c ≡ Some team → KnowsNothing shape.workers team) → IsMachine shape [] [] teams (λ k. None) shape.start
unfolding log_given
run_start shape teams count fresh = record {
  legal = tt;
  log_is = refl;
  now_is = refl;
  fated = λ k. refl;
  count = count;
  each = λ c team e. fresh_team shape c team (fresh c team e);
  syncs = start_syncs (registers_of teams) (none_at_all teams fresh) (none_under_way teams fresh);
  plannable = record { valid = λ v job is. absurd (true≢false (sym (ap is_some is))); indexes = λ v pod is. absurd (true≢false (sym (ap is_some is))) };
  short = omega arith;
}
  where
    none_under_way : (teams : List Team) → ((c : ℕ) (team : Team) → slice_get teams c ≡ Some team → KnowsNothing shape.workers team) → flights_of_all (registers_of teams) ≡ []
    none_under_way [] fresh = refl
    none_under_way (t ∷ teams) fresh =
        ap (λ rs. flights_in rs ++ flights_of_all (registers_of teams)) (fresh zero t refl).registers
        ∙ ap (λ l. l ++ flights_of_all (registers_of teams)) (none_fly shape.workers) ∙ none_under_way teams (λ c team e. fresh (suc c) team e)

    none_at_all : (teams : List Team) → ((c : ℕ) (team : Team) → slice_get teams c ≡ Some team → KnowsNothing shape.workers team) → (c w : ℕ) (sync : Sync) → register_at c w (registers_of teams) ≡ Some (Some sync) → ⊥
    none_at_all [] fresh c w sync e = true≢false (sym (ap is_some e))
    none_at_all (t ∷ teams) fresh zero w sync e = true≢false (ap is_some (none_at shape.workers w (Some sync) (ap (λ l. slice_get l w) (sym (fresh zero t refl).registers) ∙ e)))
    none_at_all (t ∷ teams) fresh (suc c) w sync e = none_at_all teams (λ c team e. fresh (suc c) team e) c w sync e
