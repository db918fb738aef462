-- A machine at its start, and what holds of each item of a list.
use Rattle.std.proofs.Common.{◌≡◌, ℕ, ◌≤◌, ◌<◌, List, [], ◌∷◌, ◌++◌, length, map, reverse, slice_get, Option, Some, None, refl, sym, ap, ◌∙◌, subst, arith}
use Rattle.std.specs.Prelude.{◌^◌}
use Rattle.std.proofs.lemmas.List.{length-reverse, map-append, reverse-append}
use Rattle.std.specs.List.{AllByRecursion as Each}
use Rattle.jc_bounds.proofs.OrderFacts.{each-slice as each_at}
use Rattle.jc_types.specs.declared.actions.End.{End}
use Rattle.jc_types.specs.declared.actions.Script.{Script}
use Rattle.jc_types.specs.declared.objects.Entry.{Entry}
use Rattle.jc_types.specs.declared.objects.Job.{Job}
use Rattle.jc_types.specs.declared.objects.KeyNames.{KeyNames as Key}
use Rattle.jc_types.specs.declared.runs.History.{History}
use Rattle.jc_types.specs.declared.runs.Past.{Past}
use Rattle.jc_types.specs.declared.runs.Shape.{Shape}
use Rattle.jc_log.specs.Deeds.{deed}
use Rattle.jc_log.specs.Log.{job_in}
use Rattle.jc_runs.specs.Once.{AllJustified, OnceAtEach}
use Rattle.jc_history.specs.Legal.{IsHistory, IsLegal}
use Rattle.jc_runs.specs.Fates.{Fates, WithFate}
use Rattle.jc_runs.specs.Machines.{IsMachine}
use Rattle.jc_runs.specs.ValidActions.{AreValidCommands}
use Rattle.jc_runs.specs.Seen.{IsCluster, Seen, deeds_in, deeds_seen, log_seen}
use Rattle.jc_runs.specs.Teams.{KnowsNothing, Team}
use Rattle.jc_machine.specs.MachineKept.{IsMachineKept, fates_in}
use Rattle.jc_lanes.specs.Places.{HasPlaces}
use Rattle.jc_machine.proofs.Closing.{view_of}

-- At the start all is what a history without events says.
pub starts : (script : Script) (shape : Shape) (items : List Past) (next : List (Option ℕ)) (log : List Entry)
    (teams : List Team) (rows : List (Key × List End)) → items ≡ [] → log ≡ [] → rows ≡ [] → length teams
    ≡ shape.controllers → Each (KnowsNothing shape.workers) teams
    → ((shape : Shape) (teams : List Team) → length teams ≡ shape.controllers → ((c : ℕ) (team : Team) → slice_get teams c ≡ Some team → KnowsNothing shape.workers team) → IsMachine shape [] [] teams (λ k. None) shape.start)
    → HasPlaces script.commands [] next → length script.commands < 2 ^ 32
    → AreValidCommands script.commands → shape.events ≤ 200000
    → IsMachineKept script shape (reverse items) next log teams rows shape.start
starts script shape items next log teams rows none empty unsaid count fresh start places fits fine bound =
    subst (λ items. IsMachineKept script shape (reverse items) next log teams rows shape.start) (sym none)
    (subst (λ log. IsMachineKept script shape [] next log teams rows shape.start) (sym empty)
    (subst (λ rows. IsMachineKept script shape [] next [] teams rows shape.start) (sym unsaid) (record {
      machine = record {
        run = start shape teams count (λ c team e. each_at (KnowsNothing shape.workers) teams c team fresh e);
        lanes = tt;
        few = omega arith;
        fine = fine;
        bound = bound;
      };
      places = places;
      fits = fits;
    })))

-- The ends of a key are decided, as a copy.
pub fate_put : (old new : List (Key × List End)) (key : Key) (ends ends_again : List End) → ends_again ≡ ends → WithFate (fates_in old) (fates_in new) key ends_again → WithFate (fates_in old) (fates_in new) key ends
fate_put old new key ends ends_again same sets = subst (λ e. WithFate (fates_in old) (fates_in new) key e) same sets

-- The history is legal, as a contract sees it.
pub legal_seen : (script : Script) (shape : Shape) (items : List Past) (log : List Entry) (teams : List Team)
    (fates : Fates) (now : ℕ) (seen : Seen) → IsMachine shape (deeds_in script (reverse items)) log teams fates now
    → view_of script shape items ≡ seen → IsLegal seen.shape (deeds_seen seen)
legal_seen script shape items log teams fates now seen run view = subst (λ (s : Seen). IsLegal s.shape (deeds_seen s)) view run.legal

-- Each pod was counted once, as a contract sees it.
pub once_seen : (script : Script) (shape : Shape) (items : List Past) (log : List Entry) (teams : List Team)
    (fates : Fates) (now : ℕ) (seen : Seen) → IsMachine shape (deeds_in script (reverse items)) log teams fates now
    → view_of script shape items ≡ seen → OnceAtEach (deeds_in script (reverse items)) log
    → OnceAtEach (deeds_seen seen) (log_seen seen)
once_seen script shape items log teams fates now seen run view once =
    subst (λ (s : Seen). OnceAtEach (deeds_seen s) (log_seen s)) view (subst (λ l. OnceAtEach (deeds_in script (reverse items)) l) run.log_is once)

-- Each finalizer that a sync took was taken justly, as a contract sees it.
pub justified_seen : (script : Script) (shape : Shape) (items : List Past) (log : List Entry) (teams : List Team)
    (fates : Fates) (now : ℕ) (seen : Seen) → IsMachine shape (deeds_in script (reverse items)) log teams fates now
    → view_of script shape items ≡ seen
    → ((k : Key) (job : Job) → job_in k log ≡ Some job → AllJustified job (deeds_in script (reverse items)) log) → (k : Key) (job : Job) → job_in k (log_seen seen) ≡ Some job → AllJustified job (deeds_seen seen) (log_seen seen)
justified_seen script shape items log teams fates now seen run view all =
    subst (λ (s : Seen). (k : Key) (job : Job) → job_in k (log_seen s) ≡ Some job → AllJustified job (deeds_seen s) (log_seen s)) view
    (subst (λ l. (k : Key) (job : Job) → job_in k l ≡ Some job → AllJustified job (deeds_in script (reverse items)) l) run.log_is all)

pub map-reverse : {A B : Type 0} (f : A → B) (xs : List A) → reverse (map f xs) ≡ map f (reverse xs)
map-reverse f [] = refl
map-reverse f (x ∷ xs) =
    reverse-append (f x ∷ []) (map f xs) ∙ ap (λ l. l ++ f x ∷ []) (map-reverse f xs) ∙ sym (map-append f (reverse xs) (x ∷ [])) ∙ ap (map f) (sym (reverse-append (x ∷ []) xs))

-- The history is one of the script and the shape.
pub history_is : (script : Script) (shape : Shape) (history : History) (log : List Entry) (teams : List Team)
    (fates : Fates) (now : ℕ) (seen : Seen) → IsCluster script shape (reverse history.events.items) log teams fates now
    → view_of script shape history.events.items ≡ seen → IsHistory seen.script seen.shape history
history_is script shape history log teams fates now seen machine view =
    subst (λ (s : Seen). IsHistory s.script s.shape history) view (record {
      few = let few = machine.few in let long = length-reverse history.events.items in omega (arith, few, long);
      lanes = machine.lanes;
      legal = subst (IsLegal shape) (sym (map-reverse (deed script) history.events.items)) machine.run.legal;
    })
