-- Registers, as the seats of a threaded run see them: some are held, and their steps wait.
--     is_slot_of c w slot          it is the register of the controller's worker
--     has_holder slots c w         a seat holds that register
--     is_unheld slots event        the event is not the step of a register that is held
--     unheld_seen slots seen       what is available, but for such steps
use Rattle.std.specs.Prelude.{ℕ, ◌==◌, Bool, true, not, ◌&&◌, List, filter, is_some}
use Rattle.std.specs.List.{list_any}
use Rattle.jc_types.specs.declared.runs.Sys.{Sys}
use Rattle.jc_types.specs.declared.runs.Sys.TheVariants as sys
use Rattle.jc_history.specs.Available.{available}
use Rattle.jc_runs.specs.Seen.{Seen, deeds_seen, log_seen}
use Rattle.jc_play.specs.declared.slots.Slot.{Slot}

-- It is the register of the controller's worker.
abbrev pub is_slot_of : ℕ → ℕ → Slot → Bool
is_slot_of c w slot = (slot.controller == c) && (slot.worker == w)

-- A seat holds that register.
abbrev pub has_holder : List Slot → ℕ → ℕ → Bool
has_holder slots c w = list_any (λ (slot : Slot). is_slot_of c w slot && is_some slot.holder) slots

-- The event is not the step of a register that is held.
abbrev pub is_unheld : List Slot → Sys → Bool
is_unheld slots (sys.Step c w) = not (has_holder slots c w)
is_unheld slots other = true

-- What is available, but for the steps of registers that are held.
abbrev pub unheld_seen : List Slot → Seen → List Sys
unheld_seen slots seen =
    filter (is_unheld slots) (available seen.shape (deeds_seen seen) (log_seen seen))
