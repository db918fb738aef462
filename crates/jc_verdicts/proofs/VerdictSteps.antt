-- The deeds of events, and the sync whose step a deed is.
use Rattle.std.proofs.Common.{◌≡◌, ℕ, nat_lt, Bool, true, false, ◌&&◌, List, [], ◌∷◌, ◌++◌, map, reverse, Option, Some, None, sym, ap, ◌∙◌}
use Rattle.std.specs.Option.{option_map, option_and_then}
use Rattle.std.proofs.lemmas.List.{map-append, reverse-append}
use Rattle.std.proofs.lemmas.Bool.{cond-true}
use Rattle.jc_types.specs.declared.actions.Script.{Script}
use Rattle.jc_types.specs.declared.runs.Past.{Past}
use Rattle.jc_log.specs.Deeds.{deed}
use Rattle.jc_verdicts.specs.declared.workers.Start.{Start}
use Rattle.jc_verdicts.specs.declared.workers.Starts.{Starts}
use Rattle.jc_verdicts.specs.declared.workers.Worker.{Worker}
use Rattle.jc_ledger.specs.Ledger.{is_status}
use Rattle.jc_verdicts.specs.SyncStarts.{HasStarts, began_with}
use Rattle.jc_ledger.specs.Syncs.{sync_of, step_sync, stepper, request_of, appends, reach}
use Rattle.jc_verdicts.specs.Verdicts.{deeds_of, sync_at}
use Rattle.jc_verdicts.specs.Workers.{last_start}

-- The deeds of events and one more.
pub deeds-more : (script : Script) (events : List Past) (past : Past) → deeds_of script (events ++ past ∷ []) ≡ deed script past ∷ deeds_of script events
deeds-more script events past =
    ap reverse (map-append (deed script) events (past ∷ [])) ∙ reverse-append (map (deed script) events) (deed script past ∷ [])

-- The sync of an accepted write of a status.
pub sync_at-found : (script : Script) (past : Past) (before : List Past) (worker : Worker) (starts : Starts) (found : Option Start) → is_status (request_of past.reply) ≡ true → nat_lt (reach (deeds_of script before)) past.length.0 ≡ true
    → stepper (deed script past).act ≡ Some (worker.controller, worker.worker) → HasStarts (deeds_of script before) starts → found ≡ last_start starts worker
    → option_map began_with found ≡ sync_at (deed script past) (deeds_of script before)
sync_at-found script past before worker starts found status long steps has is =
    ap (option_map began_with) is
    ∙ has worker
    ∙ ap (option_and_then (λ (x : ℕ × ℕ). sync_of x.0 x.1 (deeds_of script before))) (sym steps)
    ∙ sym (cond-true (is_status (request_of past.reply) && appends (deed script past) (deeds_of script before))
    (step_sync (deed script past) (deeds_of script before)) None
    (both (is_status (request_of past.reply)) (nat_lt (reach (deeds_of script before)) past.length.0) status long))
  where
    both : (a b : Bool) → a ≡ true → b ≡ true → (a && b) ≡ true
    both true b h k = k
    both false b h k = h
