-- What a machine's history counts, and what its syncs are told of conflicts.
use Rattle.std.proofs.Common.{◌≡◌, ℕ, List, ◌∷◌, slice_get, Some, subst}
use Rattle.std.specs.List.{AllByRecursion as Each}
use Rattle.jc_types.specs.declared.objects.Entry.{Entry}
use Rattle.jc_types.specs.declared.objects.Job.{Job}
use Rattle.jc_types.specs.declared.objects.KeyNames.{KeyNames as Key}
use Rattle.jc_types.specs.declared.runs.Shape.{Shape}
use Rattle.jc_log.specs.Deeds.{Deed}
use Rattle.jc_log.specs.Log.{job_in}
use Rattle.jc_log.proofs.WriteFacts.{Stored-from_legal}
use Rattle.jc_ledger.specs.Flights.{Flies}
use Rattle.jc_ledger.specs.Once.{AllJustified, OnceAtEach}
use Rattle.jc_ledger.proofs.FrameFacts.{AllFly-one}
use Rattle.jc_ledger.proofs.OnceFacts.{once_tied, tied_once}
use Rattle.jc_asks.specs.Asks.{version_sent}
use Rattle.jc_asks.specs.declared.asks.Ask.{Ask}
use Rattle.jc_asks.specs.Steps.{Sync, answered_to}
use Rattle.jc_sync.specs.SyncPlaces.{IsAt}
use Rattle.jc_sync.specs.AllRegisters.{flights_of_all, register_at}
use Rattle.jc_sync.specs.StepEffects.{IsLaterThan}
use Rattle.jc_sync.proofs.ConflictFacts.{conflict_later}
use Rattle.jc_sync.proofs.RegisterFacts.{around}
use Rattle.jc_runs.specs.Fates.{Fates}
use Rattle.jc_runs.specs.Machines.{IsMachine}
use Rattle.jc_runs.specs.Teams.{Team, registers_of}
use Rattle.jc_runs.proofs.ListFacts.{register_there}

module _ (shape : Shape) (deeds : List Deed) (log : List Entry) (teams : List Team) (fates : Fates) (now : ℕ) (run : IsMachine shape deeds log teams fates now) where
  -- After each of its deeds each pod was counted once.
  pub counted : OnceAtEach deeds log
  counted = once_tied deeds log (flights_of_all (registers_of teams)) run.syncs.tied

  -- Each finalizer that a sync took was taken justly.
  pub justified : (k : Key) (job : Job) → job_in k log ≡ Some job → AllJustified job deeds log
  justified k job is = (tied_once deeds log (flights_of_all (registers_of teams)) run.syncs.tied k job is).taken

  -- A status write or let-go that is refused as a conflict is told a later version than it sent.
  pub later_conflicts : (c : ℕ) (team : Team) → slice_get teams c ≡ Some team → (w : ℕ) (sync : Sync) → slice_get team.registers w ≡ Some (Some sync)
      → (ask : Ask) (left : List Ask) → sync.left ≡ ask ∷ left → IsLaterThan (version_sent sync.flight.sends ask) (answered_to log now sync.flight ask)
  later_conflicts c team there w sync mine ask left is =
      conflict_later log now sync.flight (Stored-from_legal log run.syncs.tied.legal) flies ask left (subst (IsAt sync.flight) is (run.syncs.each c w sync at).at)
    where
      at : register_at c w (registers_of teams) ≡ Some (Some sync)
      at = register_there teams c team team there w (Some sync) mine

      flies : Flies log sync.flight
      flies =
          let here = around c w (registers_of teams) (Some sync) at in
          AllFly-one log here.front here.back sync.flight (subst (λ l. Each (Flies log) l) here.is run.syncs.tied.flying)
