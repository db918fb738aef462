-- The lines of events.
--     tag_text lane              the lane of a command, as `@0`, or `-` for an event of the system
--     event_line number deed     the line of an event, with its number in the history, from 1
--     event_lines number deeds   the lines of several, oldest first, numbered from this number on
use Rattle.std.specs.Prelude.{ℕ, ◌+◌, List, [], ◌∷◌, ◌++◌, Option, None, Some, codes, decimal}
use Rattle.jc_log.specs.Deeds.{Deed}
use Rattle.jc_texts.specs.ActTexts.{act_text}
use Rattle.jc_texts.specs.ReplyTexts.{reply_text}

abbrev pub tag_text : Option ℕ → List ℕ
tag_text None = codes "-"
tag_text (Some lane) = codes "@" ++ decimal lane

abbrev pub event_line : ℕ → Deed → List ℕ
event_line number deed =
    decimal number ++ (codes " " ++ (tag_text deed.lane ++ (codes " " ++ (act_text deed.act
    ++ (codes " -> " ++ (reply_text deed.reply ++ codes "\n"))))))

abbrev pub event_lines : ℕ → List Deed → List ℕ
event_lines number [] = []
event_lines number (deed ∷ deeds) = event_line number deed ++ event_lines (number + 1) deeds
