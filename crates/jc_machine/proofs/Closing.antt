-- What one more event makes of a machine: its invariant, what a contract sees, and the reply.
--     Before .., before    a machine before an event that may come next
--     After ..             the machine once it has happened
--     closes               where the machine is what the longer history says, all is as it is to be
use Rattle.std.proofs.Common.{◌≡◌, ℕ, true, ◌+◌, ◌≤◌, ◌<◌, List, [], ◌∷◌, ◌++◌, length, reverse, get_or, slice_get, Option, Some, refl, sym, ap, ◌∙◌, subst, arith, ◌-◌}
use Rattle.std.specs.Prelude.{◌^◌}
use Rattle.std.proofs.lemmas.List.{reverse-append}
use Rattle.jc_types.specs.declared.actions.End.{End}
use Rattle.jc_types.specs.declared.actions.Script.{Script}
use Rattle.jc_types.specs.declared.numbers.Version.{Version}
use Rattle.jc_types.specs.declared.objects.Entry.{Entry}
use Rattle.jc_types.specs.declared.objects.KeyNames.{KeyNames as Key}
use Rattle.jc_types.specs.declared.replies.Reply.{Reply}
use Rattle.jc_types.specs.declared.runs.Event.{Event}
use Rattle.jc_types.specs.declared.runs.Past.{Past}
use Rattle.jc_types.specs.declared.runs.Shape.{Shape}
use Rattle.jc_log.specs.Acts as does
use Rattle.jc_log.specs.Acts.{Act}
use Rattle.jc_log.specs.Deeds.{Deed, act_of_event, deed}
use Rattle.jc_history.specs.Available.{is_quiescent}
use Rattle.jc_history.specs.Legal.{ComesNext, IsOfShape, MaySettle}
use Rattle.jc_runs.specs.Machines.{IsMachine}
use Rattle.jc_runs.specs.Seen.{Admits, Seen, act_seen, deeds_in, happened, reply_seen}
use Rattle.jc_runs.specs.Teams.{Team}
use Rattle.jc_machine.specs.MachineKept.{IsMachineKept, fates_in}
use Rattle.jc_lanes.specs.Places.{HasPlaces, MovesOn}
use Rattle.jc_runs.proofs.ClusterFacts.{act_is, closed_by, few_deeds, few_entries, member_at, reply_is, seen_after, settled_is, within_is}

-- What a contract sees of a machine.
abbrev pub view_of : Script → Shape → List Past → Seen
view_of script shape items = record { script = script; shape = shape; pasts = reverse items }

-- An event that has happened.
abbrev pub past_of : Event → Reply → Version → Past
past_of event reply end = record { event = event; reply = reply; length = end }

-- A machine before an event that may come next, and what the event does.
pub record Before (script : Script) (shape : Shape) (items : List Past) (places : List (Option ℕ)) (log : List Entry) (teams : List Team) (rows : List (Key × List End)) (now : ℕ) (seen : Seen) (event : Event) (act : Act) : Type 0 where
  pub kept : IsMachineKept script shape (reverse items) places log teams rows now
  pub view : view_of script shape items ≡ seen
  pub admits : Admits seen event
  pub is : act_seen seen event ≡ act
  pub unfull : length seen.pasts < seen.shape.events

-- The machine once the event has happened.
pub record After (script : Script) (shape : Shape) (items : List Past) (places : List (Option ℕ)) (log : List Entry) (teams : List Team) (rows : List (Key × List End)) (now : ℕ) (seen : Seen) (event : Event) (reply : Reply) : Type 0 where
  pub kept : IsMachineKept script shape (reverse items) places log teams rows now
  pub view : view_of script shape items ≡ happened seen event
  pub told : reply ≡ reply_seen seen event

pub before : (script : Script) (shape : Shape) (items : List Past) (places : List (Option ℕ)) (log : List Entry)
    (teams : List Team) (rows : List (Key × List End)) (now : ℕ) (seen : Seen) (event : Event) (act : Act)
    → IsMachineKept script shape (reverse items) places log teams rows now → view_of script shape items ≡ seen
    → Admits seen event
    → act_seen seen event ≡ act → length seen.pasts < seen.shape.events → Before script shape items places log teams rows now seen event act
before script shape items places log teams rows now seen event act kept view admits is room = record { kept = kept; view = view; admits = admits; is = is; unfull = room }

module _ {script : Script} {shape : Shape} {items : List Past} {places : List (Option ℕ)} {log : List Entry}
    {teams : List Team} {rows : List (Key × List End)} {now : ℕ} {seen : Seen} {event : Event} {act : Act}
    (b : Before script shape items places log teams rows now seen event act) where
  -- The deeds so far.
  abbrev pub past : List Deed
  past = deeds_in script (reverse items)

  -- What the event does, in the script.
  pub acts : act_of_event script.commands event ≡ act
  acts = act_is script shape items event seen (sym b.view) b.admits act b.is

  -- Its controller and worker are of the shape.
  pub within : IsOfShape shape act
  within = subst (IsOfShape shape) acts (within_is script shape items event seen (sym b.view) b.admits)

  -- The member that the code takes.
  pub member : (i : ℕ) (team : Team) → i < shape.controllers → team ≡ get_or teams i team → slice_get teams i ≡ Some team
  member i team inside at = member_at teams i team shape.controllers inside (sym b.kept.machine.run.count) at

  -- Its workers.
  pub worker : (i w : ℕ) (team : Team) → slice_get teams i ≡ Some team → w < shape.workers → w < length team.registers
  worker i w team there inside = subst (λ n. w < n) (sym (b.kept.machine.run.each i team there).count) inside

  pub faulty : (i w : ℕ) (team : Team) → slice_get teams i ≡ Some team → w < shape.workers → w < length team.faults
  faulty i w team there inside = subst (λ n. w < n) (sym (b.kept.machine.run.each i team there).faults) inside

  -- Where it is a settle, nothing is available.
  pub rests : act ≡ does.Settle → is_quiescent shape past log ≡ true
  rests settle =
      subst (λ a. MaySettle a (is_quiescent shape past log)) (acts ∙ settle)
      (subst (λ l. MaySettle (act_of_event script.commands event) (is_quiescent shape past l)) (sym b.kept.machine.run.log_is) (settled_is script shape items event seen (sym b.view) b.admits))

  -- The log is short, and so is the history.
  pub few : length log < 2 ^ 31
  few = few_entries script shape (reverse items) log teams (fates_in rows) now b.kept.machine

  pub short : length past ≤ 200000
  short = few_deeds script shape (reverse items) log teams (fates_in rows) now b.kept.machine

  pub room_left : length log < 2 ^ 32 - 1
  room_left = let f = few in omega (arith, f)

  -- How many commands there are.
  pub fits : length script.commands < 2 ^ 32
  fits = b.kept.fits

  comes : ComesNext script.commands (reverse items) event
  comes = subst (λ (s : Seen). ComesNext s.script.commands s.pasts event) (sym b.view) b.admits.next

  -- The event has happened, where the machine is what the longer history says.
  pub closes : (mid new : List Past) (reply : Reply) (end : Version) (moved : List (Option ℕ)) (next : List Entry)
      (news : List Team) (fates : List (Key × List End)) (later : ℕ) → new ≡ mid ++ past_of event reply end ∷ [] → mid
      ≡ items → MovesOn script.commands event places moved
      → IsMachine shape (deed script (past_of event reply end) ∷ past) next news (fates_in fates) later → After script shape new moved next news fates later seen event reply
  closes mid new reply end moved next news fates later is same moves run = record {
    kept = record {
      machine =
          closed_by script shape items mid new (past_of event reply end) log next teams news (fates_in rows) (fates_in fates) now later b.kept.machine is same run seen (sym b.view) b.admits b.unfull;
      places = subst (λ pasts. HasPlaces script.commands pasts moved) (sym newest) (moves (reverse items) (past_of event reply end) b.kept.places comes refl);
      fits = b.kept.fits;
    };
    view = seen_after script shape items mid new (past_of event reply end) log next teams news (fates_in rows) (fates_in fates) now later b.kept.machine is same run seen (sym b.view);
    told = reply_is script shape items mid new (past_of event reply end) log next teams news (fates_in rows) (fates_in fates) now later b.kept.machine is same run seen (sym b.view);
  }
    where
      newest : reverse new ≡ past_of event reply end ∷ reverse items
      newest = ap (λ (l : List Past). reverse l) (is ∙ ap (λ (l : List Past). l ++ past_of event reply end ∷ []) same) ∙ reverse-append items (past_of event reply end ∷ [])
