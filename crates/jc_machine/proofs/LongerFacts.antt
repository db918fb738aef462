-- A machine whose script has a command more.
use Rattle.std.proofs.Common.{◌≡◌, ℕ, ◌+◌, ◌<◌, ◌^◌, true, false, List, [], ◌∷◌, ◌++◌, length, map, Result, Ok, Err, Option, refl, sym, subst, arith, true≢false}
use Rattle.std.specs.Prelude.{OnErr, OnOk}
use Rattle.std.specs.Result.{is_err}
use Rattle.jc_types.specs.declared.actions.Command.{Command}
use Rattle.jc_types.specs.declared.actions.End.{End}
use Rattle.jc_types.specs.declared.actions.Script.{Script}
use Rattle.jc_types.specs.declared.objects.Entry.{Entry}
use Rattle.jc_types.specs.declared.objects.KeyNames.{KeyNames as Key}
use Rattle.jc_types.specs.declared.runs.Past.{Past}
use Rattle.jc_types.specs.declared.runs.Shape.{Shape}
use Rattle.jc_log.specs.Deeds.{Deed, deed}
use Rattle.jc_runs.specs.ValidActions.{AreValidCommands, IsValidAction}
use Rattle.jc_history.specs.Legal.{InLanes}
use Rattle.jc_lanes.specs.LongerScripts.{longer}
use Rattle.jc_lanes.specs.Places.{HasPlaces}
use Rattle.jc_runs.specs.Machines.{IsMachine}
use Rattle.jc_runs.specs.Teams.{Team}
use Rattle.jc_machine.specs.MachineKept.{IsMachineKept, fates_in}

each_more : (cs : List Command) (c : Command) → AreValidCommands cs → IsValidAction c.action → AreValidCommands (cs ++ c ∷ [])
each_more [] c all one = (one, tt)
each_more (d ∷ cs) c all one = (all.0, each_more cs c all.1 one)

count_more : (cs : List Command) (c : Command) → length (cs ++ c ∷ []) ≡ length cs + 1
count_more [] c = refl
count_more (d ∷ cs) c = let more = count_more cs c in omega (arith, more)

-- All that a machine keeps.
pub kept : (script : Script) (shape : Shape) (pasts : List Past) (next : List (Option ℕ)) (log : List Entry) (teams : List Team) (rows : List (Key × List End)) (now : ℕ) (command : Command) (places : List (Option ℕ))
    → IsMachineKept script shape pasts next log teams rows now → IsValidAction command.action → length script.commands + 1 < 2 ^ 32
    → InLanes (longer script command).commands pasts → map (deed (longer script command)) pasts ≡ map (deed script) pasts
    → HasPlaces (longer script command).commands pasts places → IsMachineKept (longer script command) shape pasts places log teams rows now
kept script shape pasts next log teams rows now command places h valid few lanes same has =
    let count = count_more script.commands command in
    record {
      machine = record {
        run = subst (λ (ds : List Deed). IsMachine shape ds log teams (fates_in rows) now) (sym same) h.machine.run;
        lanes = lanes;
        few = h.machine.few;
        fine = each_more script.commands command h.machine.fine valid;
        bound = h.machine.bound;
      };
      places = has;
      fits = omega (arith, count, few);
    }

-- ---- what was pushed, or was not

pub not_pushed : {A E P : Type 0} (r : Result A E) → OnErr r P → true ≡ is_err r → P
not_pushed (Ok a) h e = absurd (true≢false e)
not_pushed (Err f) h e = h

pub was_pushed : {A E P : Type 0} (r : Result A E) → OnOk r P → false ≡ is_err r → P
was_pushed (Ok a) h e = h
was_pushed (Err f) h e = absurd (true≢false (sym e))
