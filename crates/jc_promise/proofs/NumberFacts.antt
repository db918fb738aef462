-- The numbers of an orderly history's events are such as the code's types hold.
use Rattle.std.proofs.Common.{◌≡◌, ℕ, ◌<◌, ◌≤◌, ◌^◌, List, [], ◌∷◌, reverse, Some, subst, sym, arith}
use Rattle.std.specs.List.{AllByRecursion as Each}
use Rattle.std.proofs.lemmas.List.{reverse-append, reverse-reverse}
use Rattle.jc_types.proofs.ListFacts.{Each-append}
use Rattle.jc_types.specs.declared.actions.Command.{Command}
use Rattle.jc_types.specs.declared.actions.Script.{Script}
use Rattle.jc_types.specs.declared.runs.Event.{Event}
use Rattle.jc_types.specs.declared.runs.Event.TheVariants as event
use Rattle.jc_types.specs.declared.runs.History.{History}
use Rattle.jc_types.specs.declared.runs.Past.{Past}
use Rattle.jc_types.specs.declared.runs.Shape.{Shape}
use Rattle.jc_types.specs.declared.runs.Sys.{Sys}
use Rattle.jc_types.specs.declared.runs.Sys.TheVariants as sys
use Rattle.jc_log.specs.Deeds.{Deed, act_of_event, act_of_system, deeds, lane_of}
use Rattle.jc_history.specs.Available.{IsOrderly, WasAvailable, available}
use Rattle.jc_history.specs.Legal.{ComesNext, InLanes, IsHistory, IsLegal, IsOfShape, lane_count, next_command}
use Rattle.jc_history.specs.Replies.{log_given}
use Rattle.jc_bounds.proofs.OrderFacts.{each-slice}
use Rattle.jc_order.proofs.AvailFacts.{Is}
use Rattle.jc_order.proofs.DueFacts.{own-clock-fits}
use Rattle.jc_order.proofs.LaneFacts.{place-of}
use Rattle.jc_runs.specs.Seen.{deeds_in}
use Rattle.jc_lines.specs.Told.{AreEvents, IsEvent, IsSystem}
use Rattle.jc_promise.proofs.DeedFacts.{deeds-are}

-- ---- lists

each-reversed : {X : Type 0} (P : X → Type 0) (xs : List X) → Each P xs → Each P (reverse xs)
each-reversed P [] h = tt
each-reversed P (x ∷ xs) h =
    subst (Each P) (sym (reverse-append (x ∷ []) xs)) (Each-append P (reverse xs) (x ∷ []) (each-reversed P xs h.1) (h.0, tt))

abbrev HasNumbers : Past → Type 0
HasNumbers past = IsEvent past.event

are-events : (events : List Past) → Each HasNumbers events → AreEvents events
are-events [] h = tt
are-events (past ∷ events) h = (h.0, are-events events h.1)

-- ---- of each event

module _ (script : Script) (shape : Shape) (lanes : Each (λ (command : Command). command.lane < 2 ^ 8) script.commands)
    (controllers : shape.controllers ≤ 2 ^ 32) (workers : shape.workers ≤ 2 ^ 32) where
  -- The lane of an event is that of a command.
  lane-fits : (lane number : ℕ) (before : List Past) → next_command script.commands lane before ≡ Some number → lane < 2 ^ 8
  lane-fits lane number before e =
      let there = place-of lane 0 script.commands (lane_count lane before) number e in
      subst (λ n. n < 2 ^ 8) there.of_lane
      (each-slice (λ (command : Command). command.lane < 2 ^ 8) script.commands there.at there.command lanes there.stands)

  -- A controller and a worker are of the shape, and seconds those to the least delay.
  system-fits : (past : List Deed) (s : Sys) → IsOfShape shape (act_of_system s)
      → Is (act_of_system s) (available shape past (log_given shape past)) → IsSystem s
  system-fits past (sys.List c kind) within among = omega (arith, within, controllers)
  system-fits past (sys.Deliver c kind) within among = omega (arith, within, controllers)
  system-fits past (sys.Begin c w) within among =
      let here = within.0 in let this = within.1 in (omega (arith, here, controllers), omega (arith, this, workers))
  system-fits past (sys.Step c w) within among =
      let here = within.0 in let this = within.1 in (omega (arith, here, controllers), omega (arith, this, workers))
  system-fits past sys.Node within among = tt
  system-fits past (sys.Clock add) within among = own-clock-fits shape past (log_given shape past) add among

  each-fits : (before : List Past) → InLanes script.commands before → IsLegal shape (deeds_in script before)
      → IsOrderly shape (deeds_in script before) → Each HasNumbers before
  each-fits [] in_lanes legal orderly = tt
  each-fits (past ∷ before) in_lanes legal orderly =
      (by past.event in_lanes.0 legal.0.within orderly.0, each-fits before in_lanes.1 legal.1 orderly.1)
    where
      by : (e : Event) → ComesNext script.commands before e → IsOfShape shape (act_of_event script.commands e)
          → WasAvailable (act_of_event script.commands e) (lane_of e)
          (available shape (deeds_in script before) (log_given shape (deeds_in script before))) → IsEvent e
      by (event.Command lane number) next within among = lane-fits lane number before next
      by (event.System system) next within among = system-fits (deeds_in script before) system within among

-- The numbers of an orderly history's events are such as the code's types hold.
pub events_fit : (script : Script) (shape : Shape) (history : History)
    → Each (λ (command : Command). command.lane < 2 ^ 8) script.commands → shape.controllers ≤ 2 ^ 32 → shape.workers ≤ 2 ^ 32
    → IsHistory script shape history → IsOrderly shape (deeds script history) → AreEvents history.events.items
events_fit script shape history lanes controllers workers legal orderly =
    let items = history.events.items in
    let same = sym (deeds-are script items) in
    are-events items (subst (Each HasNumbers) (reverse-reverse items) (each-reversed HasNumbers (reverse items)
    (each-fits script shape lanes controllers workers (reverse items) legal.lanes (subst (IsLegal shape) same legal.legal)
    (subst (IsOrderly shape) same orderly))))
