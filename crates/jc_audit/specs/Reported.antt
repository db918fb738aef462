-- That bytes are what a history prints as.
--     IsPrintable script shape history full    the history is one that prints as a report
--     IsReported shape bytes      such a history of a script prints so
use Rattle.std.specs.Prelude.{◌≡◌, Bool, true, List, ℕ, length}
use Rattle.std.specs.List.{AllByRecursion as Each}
use Rattle.jc_types.specs.declared.actions.Script.{Script}
use Rattle.jc_types.specs.declared.runs.History.{History}
use Rattle.jc_types.specs.declared.runs.Shape.{Shape}
use Rattle.jc_log.specs.Deeds.{deeds}
use Rattle.jc_history.specs.Available.{IsOrderly}
use Rattle.jc_history.specs.Legal.{IsHistory}
use Rattle.jc_history.specs.Replies.{log_given}
use Rattle.jc_reading.specs.Proper.{IsProperCommand}
use Rattle.jc_lines.specs.Reports.{report_text}

-- It is a legal and orderly history of the script, whose commands are proper. Where it is full it has all its events.
pub record IsPrintable (script : Script) (shape : Shape) (history : History) (full : Bool) : Type 0 where
  pub proper : Each IsProperCommand script.commands
  pub legal : IsHistory script shape history
  pub orderly : IsOrderly shape (deeds script history)
  pub history_full : full ≡ true → length history.events.items ≡ shape.events

-- The bytes are what such a history prints as.
pub record IsReported (shape : Shape) (bytes : List ℕ) : Type 0 where
  pub script : Script
  pub history : History
  pub full : Bool
  pub printable : IsPrintable script shape history full
  pub prints : bytes ≡ report_text script history.events.items (log_given shape (deeds script history)) full
