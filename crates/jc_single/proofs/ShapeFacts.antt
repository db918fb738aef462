-- Scripts whose commands fit the shape that they are played in.
use Rattle.std.proofs.Common.{◌≡◌, ℕ, ◌+◌, ◌*◌, ◌<◌, ◌≤◌, ◌^◌, inl, inr, List, [], ◌∷◌, length, ap, arith, sym, subst}
use Rattle.std.specs.List.{AllByRecursion as Each}
use Rattle.jc_types.specs.declared.actions.Action1.{Action1}
use Rattle.jc_types.specs.declared.actions.Action1.TheVariants as act
use Rattle.jc_types.specs.declared.actions.Command.{Command}
use Rattle.jc_types.specs.declared.actions.Script.{Script}
use Rattle.jc_types.specs.declared.runs.Shape.{Shape}
use Rattle.jc_promise.specs.ValidActions.{AreValidCommands}
use Rattle.jc_promise.specs.Deeds.{act_of_action}
use Rattle.jc_promise.specs.Legal.{IsOfShape}
use Rattle.jc_promise.specs.Plays.{AreWithin, IsScriptFor}
use Rattle.jc_gen.specs.Generated.{IsGenerated, generated}
use Rattle.jc_script.specs.Fits.{NamesShape}

each-of : {P Q : Command → Type 0} → ((command : Command) → P command → Q command) → (commands : List Command)
    → Each P commands → Each Q commands
each-of more [] h = tt
each-of more (command ∷ commands) h = (more command h.0, each-of more commands h.1)

-- What an action of a script names is what its deed names.
names : (shape : Shape) (action : Action1) → NamesShape shape action → IsOfShape shape (act_of_action action)
names shape (act.Create key spec) h = tt
names shape (act.Update key version change) h = tt
names shape (act.Delete key) h = tt
names shape (act.Mark pod) h = tt
names shape (act.Strip pod) h = tt
names shape (act.Finish pod exit) h = tt
names shape (act.Report pod change) h = tt
names shape (act.Fate key ends) h = tt
names shape (act.Clock add) h = tt
names shape (act.List controller kind) h = h
names shape (act.Deliver controller kind) h = h
names shape (act.Begin controller worker) h = h
names shape (act.Sync controller worker) h = h
names shape (act.Step controller worker) h = h
names shape act.Node h = tt
names shape (act.Restart controller) h = h
names shape (act.PutFault controller worker fault) h = h
names shape act.Settle h = tt

pub read_within : (shape : Shape) (commands : List Command)
    → Each (λ (command : Command). NamesShape shape command.action) commands → AreWithin shape commands
read_within shape commands = each-of (λ command h. names shape command.action h) commands

-- Lanes that are few are bytes.
pub read_lanes : (commands : List Command) → Each (λ (command : Command). command.lane < 16) commands
    → Each (λ (command : Command). command.lane < 2 ^ 8) commands
read_lanes commands = each-of (λ command few. omega (arith, few)) commands

pub first_lane : (commands : List Command) → Each (λ (command : Command). command.lane ≡ 0) commands
    → Each (λ (command : Command). command.lane < 2 ^ 8) commands
first_lane commands = each-of (λ command first. omega (arith, first)) commands

-- A generated script names neither controllers nor workers.
pub generated_within : (shape : Shape) (number jobs pods : ℕ) (commands : List Command)
    → Each (λ (command : Command). IsGenerated number jobs pods command) commands → AreWithin shape commands
generated_within shape number jobs pods commands = each-of by commands
  where
    by : (command : Command) → IsGenerated number jobs pods command
        → IsOfShape shape (act_of_action command.action)
    by command (inl (i, lt, e)) = subst (λ (c : Command). IsOfShape shape (act_of_action c.action)) (sym e) tt
    by command (inr (inl (i, lt, e))) =
        subst (λ (c : Command). IsOfShape shape (act_of_action c.action)) (sym e) tt
    by command (inr (inr e)) = subst (λ (c : Command). IsOfShape shape (act_of_action c.action)) (sym e) tt

-- ---- scripts that are generated ones

pub generated_is_fine : (number jobs pods : ℕ) (script : Script) → script ≡ generated number jobs pods
    → AreValidCommands (generated number jobs pods).commands
    → AreValidCommands script.commands
generated_is_fine number jobs pods script e =
    subst (λ (s : Script). AreValidCommands s.commands) (sym e)

pub generated_is_proper : (shape : Shape) (number jobs pods : ℕ) (script : Script) → script ≡ generated number jobs pods
    → Each (λ (command : Command). IsGenerated number jobs pods command) (generated number jobs pods).commands
    → IsScriptFor script shape
generated_is_proper shape number jobs pods script e h =
    subst (λ (s : Script). IsScriptFor s shape) (sym e)
    (generated_within shape number jobs pods (generated number jobs pods).commands h)

pub generated_is_few : (number jobs pods : ℕ) (script : Script) → script ≡ generated number jobs pods
    → length (generated number jobs pods).commands ≡ 2 * jobs + 1 → jobs ≤ 100 → length script.commands < 2 ^ 32
generated_is_few number jobs pods script e count few =
    let same = ap (λ (s : Script). length s.commands) e in
    omega (arith, same, count, few)

-- ---- numbers

pub few_commands : (commands : List Command) → length commands ≤ 200000 → length commands < 2 ^ 32
few_commands commands few = omega (arith, few)
