-- Where reports give few restarts, it takes many events until a container has restarted as often as is counted.
use Rattle.std.proofs.Common.{ℕ, zero, suc, ◌+◌, ◌-◌, ◌^◌, ◌≤◌, max, List, [], ◌∷◌, length, map, slice_get, arith}
use Rattle.std.specs.List.{AllByRecursion as Each}
use Rattle.jc_types.specs.declared.actions.Action1.{Action1}
use Rattle.jc_types.specs.declared.actions.Action1.TheVariants as action
use Rattle.jc_types.specs.declared.actions.Command.{Command}
use Rattle.jc_types.specs.declared.actions.Script.{Script}
use Rattle.jc_types.specs.declared.runs.Event.{Event}
use Rattle.jc_types.specs.declared.runs.Event.TheVariants as event
use Rattle.jc_types.specs.declared.runs.Past.{Past}
use Rattle.jc_types.specs.declared.runs.Sys.TheVariants as sys
use Rattle.jc_log.specs.Deeds.{act_of_action, act_of_command, act_of_event, deed}
use Rattle.jc_finite.specs.Restarts.{most_restarts, restarts_after}
use Rattle.jc_playing_out.specs.PlayingOut.{GivesFew}

action-late : (a : Action1) → GivesFew a → (n : ℕ) → restarts_after (act_of_action a) n ≤ max (n + 1) (2 ^ 31 - 1)
action-late (action.Report pod change) h n = omega (arith, h)
action-late action.Node h n = omega arith
action-late other h n = omega arith

command-late : (commands : List Command) (k : ℕ) → Each (λ (command : Command). GivesFew command.action) commands → (n : ℕ) → restarts_after (act_of_command (slice_get commands k)) n ≤ max (n + 1) (2 ^ 31 - 1)
command-late [] zero h n = omega arith
command-late [] (suc k) h n = omega arith
command-late (command ∷ commands) zero h n = action-late command.action h.0 n
command-late (command ∷ commands) (suc k) h n = command-late commands k h.1 n

module _ (script : Script) (few : Each (λ (command : Command). GivesFew command.action) script.commands) where
  event-late : (e : Event) (n : ℕ) → restarts_after (act_of_event script.commands e) n ≤ max (n + 1) (2 ^ 31 - 1)
  event-late (event.Command lane number) n = command-late script.commands number few n
  event-late (event.System (sys.List controller kind)) n = omega arith
  event-late (event.System (sys.Deliver controller kind)) n = omega arith
  event-late (event.System (sys.Begin controller worker)) n = omega arith
  event-late (event.System (sys.Step controller worker)) n = omega arith
  event-late (event.System sys.Node) n = omega arith
  event-late (event.System (sys.Clock add)) n = omega arith

  pub pasts-late : (pasts : List Past) → most_restarts (map (deed script) pasts) ≤ length pasts + (2 ^ 31 - 1)
  pasts-late [] = omega arith
  pasts-late (past ∷ pasts) =
      let rest = pasts-late pasts in let one = event-late past.event (most_restarts (map (deed script) pasts)) in omega (arith, rest, one)
