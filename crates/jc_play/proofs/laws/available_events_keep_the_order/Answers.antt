-- An event that is available may come last in an orderly history.
use Rattle.std.proofs.Common.{◌≡◌, List, [], ◌∷◌, Some, None, is_some, refl, sym, subst, ap, true≢false}
use Rattle.jc_types.specs.declared.runs.Event.{Event}
use Rattle.jc_types.specs.declared.runs.Sys.{Sys}
use Rattle.jc_log.specs.Deeds.{lane_of}
use Rattle.jc_history.specs.Available.{WasAvailable, available}
use Rattle.jc_history.specs.Play.{first_event}
use Rattle.jc_order.proofs.AvailFacts.{any-here}
use Rattle.jc_runs.specs.Seen.{Seen, act_seen, deeds_seen, log_seen}
use Rattle.jc_play.proofs.laws.available_events_keep_the_order.Goals as goal

-- The first is among them.
first-among : (seen : Seen) (event : Event) (events : List Sys) → first_event events ≡ Some event → WasAvailable (act_seen seen event) (lane_of event) events
first-among seen event [] e = absurd (true≢false (sym (ap is_some e)))
first-among seen event (head ∷ more) e =
    subst (λ event. WasAvailable (act_seen seen event) (lane_of event) (head ∷ more))
    (ap (λ o. elim o as (λ o. Event) [ None ↦ event | Some z ↦ z ]) e) (any-here _ head more refl)

pub returns : goal.returns
returns c = record {
  offered = λ seen event can order. (can.among, order);
  first = λ seen event e order. (first-among seen event (available seen.shape (deeds_seen seen) (log_seen seen)) e, order);
}
