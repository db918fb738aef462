-- The place of each lane's next command, as a cluster keeps it.
--     most_lanes                       how many lanes there can be
--     next_from lane place commands    the lane's first command from this place on
--     HasPlaces commands before next   so it is for each lane; the events before are newest first
--     AreNone next                     each place is none
--     AreUsedUp commands before          no lane has a command left
--     MovesOn commands event old new   so it is again, once the event has come
use Rattle.std.specs.Prelude.{◌≡◌, ℕ, ◌<◌, List, ◌∷◌, length, Option, None, Some, slice_get, drop}
use Rattle.jc_types.specs.declared.actions.Command.{Command}
use Rattle.jc_types.specs.declared.runs.Event.{Event}
use Rattle.jc_types.specs.declared.runs.Past.{Past}
use Rattle.jc_history.specs.Legal.{ComesNext, next_command, places_from}

-- A lane is a byte.
abbrev pub most_lanes : ℕ
most_lanes = 256

-- The lane's first command from this place on.
abbrev pub next_from : ℕ → ℕ → List Command → Option ℕ
next_from lane place commands = slice_get (places_from lane place (drop place commands)) 0

-- Each lane's next command stands where it is kept.
abbrev pub HasPlaces : List Command → List Past → List (Option ℕ) → Type 0
HasPlaces commands before next =
    (lane : ℕ) → lane < most_lanes → slice_get next lane ≡ Some (next_command commands lane before)

-- Each place is none.
abbrev pub AreNone : List (Option ℕ) → Type 0
AreNone next = (i : ℕ) → i < length next → slice_get next i ≡ Some None

-- No lane has a command left.
abbrev pub AreUsedUp : List Command → List Past → Type 0
AreUsedUp commands before =
    (lane : ℕ) → lane < most_lanes → next_command commands lane before ≡ None

-- So it is again once the event has come, where it was its lane's next one.
abbrev pub MovesOn : List Command → Event → List (Option ℕ) → List (Option ℕ) → Type 0
MovesOn commands event old new =
    (before : List Past) (past : Past) → HasPlaces commands before old
    → ComesNext commands before event → past.event ≡ event → HasPlaces commands (past ∷ before) new
