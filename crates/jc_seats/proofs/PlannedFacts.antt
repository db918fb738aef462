-- That no register wants a plan, and that it stays so.
use Rattle.std.proofs.Common.{◌≡◌, ℕ, Bool, true, false, cond, ◌&&◌, ◌||◌, List, [], ◌∷◌, find, Option, None, Some, is_none, is_some, refl, sym, ap, ◌∙◌, true≢false}
use Rattle.std.specs.List.{list_any}
use Rattle.jc_types.specs.declared.replies.Reply.{Reply}
use Rattle.jc_types.specs.declared.runs.Event.{Event}
use Rattle.jc_types.specs.declared.runs.Event.TheVariants as event
use Rattle.jc_types.specs.declared.runs.Sys.TheVariants as sys
use Rattle.jc_history.specs.Registers.{register}
use Rattle.jc_runs.specs.Seen.{Seen, act_seen}
use Rattle.jc_core.specs.DiariesSeen.{diary_seen}
use Rattle.jc_core.specs.Shared.{is_open_slot, is_unplanned, slots_after, wanting}
use Rattle.jc_core.specs.Slot.{Slot}
use Rattle.jc_core.specs.Slots.{is_slot_of}
use Rattle.jc_seats.specs.PlayerTurns.{wants_none}

-- Where no register that nobody holds wants a plan, no slot is open.
pub none-open : (seen : Seen) (slots : List Slot) → is_unplanned slots ≡ false → find (is_open_slot seen) slots ≡ None
none-open seen [] none = refl
none-open seen (slot ∷ slots) none =
    by slot.wants (is_none slot.holder) (is_some (register slot.worker (diary_seen seen slot.controller))) none (none-open seen slots)
  where
    by : (w n b : Bool) → ((w && n) || is_unplanned slots) ≡ false → (is_unplanned slots ≡ false → find (is_open_slot seen) slots ≡ None)
        → cond ((w && n) && b) (Some slot) (find (is_open_slot seen) slots) ≡ None
    by true true b none rest = absurd (true≢false none)
    by true false b none rest = rest none
    by false n b none rest = rest none

-- One that wants none any more changes nothing of that.
none-wanted : (c w : ℕ) (slots : List Slot) → is_unplanned slots ≡ false → is_unplanned (wanting false c w slots) ≡ false
none-wanted c w [] none = refl
none-wanted c w (slot ∷ slots) none = by (is_slot_of c w slot) (slot.wants && is_none slot.holder) refl none (none-wanted c w slots)
  where
    by : (own b : Bool) → (slot.wants && is_none slot.holder) ≡ b → (b || is_unplanned slots) ≡ false
        → (is_unplanned slots ≡ false → is_unplanned (wanting false c w slots) ≡ false)
        → is_unplanned (cond own (record slot { wants = false }) slot ∷ wanting false c w slots) ≡ false
    by own true is none rest = absurd (true≢false none)
    by true false is none rest = rest none
    by false false is none rest = ap (λ b. b || is_unplanned (wanting false c w slots)) is ∙ rest none

-- So it is after an event of the system that is no begin.
pub none-after : (seen : Seen) (e : Event) (reply : Reply) (slots : List Slot) → wants_none e ≡ true → is_unplanned slots ≡ false
    → is_unplanned (slots_after (act_seen seen e) reply slots) ≡ false
none-after seen (event.System (sys.List c kind)) reply slots own none = none
none-after seen (event.System (sys.Deliver c kind)) reply slots own none = none
none-after seen (event.System (sys.Begin c w)) reply slots own none = absurd (true≢false (sym own))
none-after seen (event.System (sys.Step c w)) reply slots own none = none-wanted c w slots none
none-after seen (event.System sys.Node) reply slots own none = none
none-after seen (event.System (sys.Clock add)) reply slots own none = none
none-after seen (event.Command lane number) reply slots own none = absurd (true≢false (sym own))
