-- What of a report is put together before its first byte is written: the lines of events that are not short.
--     long_line number deed          the line, where it is not short
--     long_end end deed              where it ends, where it is not short
--     long_lines number deeds        all such lines, one behind the other
--     long_ends at number deeds      where each of them ends, where the first begins there
--     page_len                       how many bytes a page has room for
use Rattle.std.specs.Prelude.{ℕ, ◌+◌, List, [], ◌∷◌, ◌++◌, length, if◌then◌else◌}
use Rattle.jc_log.specs.Deeds.{Deed}
use Rattle.jc_lines.specs.Events.{event_line}
use Rattle.jc_texts.specs.Short.{is_short}

-- The line of the event, where it is not short.
abbrev pub long_line : ℕ → Deed → List ℕ
long_line number deed = if is_short deed then [] else event_line number deed

-- Where it ends, where it is not short.
abbrev pub long_end : ℕ → Deed → List ℕ
long_end end deed = if is_short deed then [] else end ∷ []

-- All such lines, one behind the other.
abbrev pub long_lines : ℕ → List Deed → List ℕ
long_lines number [] = []
long_lines number (deed ∷ deeds) = long_line number deed ++ long_lines (number + 1) deeds

-- Where each of them ends, where the first begins at this place.
abbrev pub long_ends : ℕ → ℕ → List Deed → List ℕ
long_ends at number [] = []
long_ends at number (deed ∷ deeds) =
    long_end (at + length (long_line number deed)) deed ++ long_ends (at + length (long_line number deed)) (number + 1) deeds

-- How many bytes a page has room for.
abbrev pub page_len : ℕ
page_len = 65536
