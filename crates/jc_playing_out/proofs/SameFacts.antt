-- What is played does not depend on how many events a shape allows: replies, notes and what is available read its controllers,
-- workers, window and start alone.
use Rattle.std.proofs.Common.{◌≡◌, ℕ, ◌+◌, List, [], ◌∷◌, ◌++◌, None, is_some, refl, ap}
use Rattle.std.specs.List.{filter_map, flat_map}
use Rattle.jc_types.specs.declared.actions.Command.{Command}
use Rattle.jc_types.specs.declared.objects.Entry.{Entry}
use Rattle.jc_types.specs.declared.runs.Shape.{Shape}
use Rattle.jc_types.specs.declared.runs.Sys.{Sys}
use Rattle.jc_log.specs.Acts as does
use Rattle.jc_log.specs.Acts.{Act}
use Rattle.jc_log.specs.Deeds.{Deed, act_of_action}
use Rattle.jc_log.specs.Requests.{create_job_gives, grown, mark_pod_gives}
use Rattle.jc_history.specs.Available.{available, begin_events, below, clock_events, delivery_events, earliest, is_empty, is_quiescent, list_events, node_events, or_clock, step_events}
use Rattle.jc_history.specs.Delays.{least_delay}
use Rattle.jc_history.specs.Diaries.{moment, notes, notes_after, seconds}
use Rattle.jc_history.specs.Legal.{IsOfShape}
use Rattle.jc_history.specs.Nodes.{fate, node_step}
use Rattle.jc_history.specs.Notes.{Note}
use Rattle.jc_history.specs.Numbers.{number}
use Rattle.jc_history.specs.Replies.{begin_with, clock_gives, deliver_gives, gives, log_given, step_with}
use Rattle.jc_order.specs.Plays.{AreWithin, allowing}

module _ (n : ℕ) (shape : Shape) where
  pub moment-same : (past : List Deed) → moment (allowing n shape) past ≡ moment shape past
  moment-same [] = refl
  moment-same (d ∷ past) = ap (λ now. now + seconds d) (moment-same past)

  pub notes-same : (c : ℕ) (past : List Deed) (log : List Entry) → notes (allowing n shape) c past log ≡ notes shape c past log
  notes-same c [] log = refl
  notes-same c (d ∷ past) log = λ i. notes_after c d (moment-same past i) log (notes-same c past log i)

  pub gives-same : (past : List Deed) (log : List Entry) (act : Act) → gives (allowing n shape) past log act ≡ gives shape past log act
  unfolding gives
  gives-same past log (does.Create key spec) = ap (create_job_gives log key spec) (moment-same past)
  gives-same past log (does.Mark pod) = ap (mark_pod_gives log pod) (moment-same past)
  gives-same past log (does.Clock add) = ap (λ now. clock_gives (now + add)) (moment-same past)
  gives-same past log (does.Deliver c kind) = ap (λ some. deliver_gives log shape.window (number kind some)) (notes-same c past log)
  gives-same past log (does.Begin c w) = λ i. begin_with (notes-same c past log i) log (moment-same past i) w
  gives-same past log (does.Step c w) = λ i. step_with (notes-same c past log i) log (moment-same past i) w
  gives-same past log other = refl

  pub log-same : (past : List Deed) → log_given (allowing n shape) past ≡ log_given shape past
  unfolding log_given
  log-same [] = refl
  log-same (d ∷ past) = λ i. grown (log-same past i) (gives-same past (log-same past i) d.act i).entry

  -- What is available by the notes of each controller and the moment.
  abbrev offered : List Deed → List Entry → (ℕ → List Note) → ℕ → List Sys
  offered past log f now =
      or_clock
      (flat_map (λ c. list_events (f c) c) (below shape.controllers)
      ++ (flat_map (λ c. delivery_events (f c) log c) (below shape.controllers)
      ++ (flat_map (λ c. step_events (f c) shape.workers c) (below shape.controllers)
      ++ (flat_map (λ c. begin_events (f c) log shape.workers c) (below shape.controllers)
      ++ node_events (is_some (node_step log (fate past)))))))
      (clock_events now (earliest None (filter_map (λ c. least_delay (f c)) (below shape.controllers))))

  pub available-same : (past : List Deed) (log : List Entry) → available (allowing n shape) past log ≡ available shape past log
  unfolding available
  available-same past log = λ i. offered past log (λ c. notes-same c past log i) (moment-same past i)

  pub quiescent-same : (past : List Deed) → is_quiescent (allowing n shape) past (log_given (allowing n shape) past) ≡ is_quiescent shape past (log_given shape past)
  quiescent-same past = λ i. is_empty (available-same past (log-same past i) i)

  pub shape-same : (act : Act) → IsOfShape shape act → IsOfShape (allowing n shape) act
  shape-same (does.List c kind) h = h
  shape-same (does.Deliver c kind) h = h
  shape-same (does.Begin c w) h = h
  shape-same (does.Step c w) h = h
  shape-same (does.Restart c) h = h
  shape-same (does.PutFault c w fault) h = h
  shape-same other h = tt

  pub within-same : (commands : List Command) → AreWithin shape commands → AreWithin (allowing n shape) commands
  within-same [] h = tt
  within-same (command ∷ commands) h = (shape-same (act_of_action command.action) h.0, within-same commands h.1)
