-- What a run of the program answers.
--     Printed                        what a run prints: a text, and whether the history is full
--     report_printed script shape    that of the play of a script
--     summary_printed script shape   that of a generated script
--     print_said print said          what is printed of a script, or the first bad line
--     reported shape said            the report of its play
--     answer_of order input          what the words ask for on one thread, where the source has these bytes
--     IsSingle order                 it is played on one thread
--     MayEnd said status             how a run on threads may end, of what a text says
--     OfInput order left P           P holds of the bytes that the order reads
--     OfPrinted order left P         P holds of what is printed of them on one thread
--     status_of answer               the status of a run that meets no fault and no want of memory
--     writing_text writing           the text of what is to be written
--     printed_by output              what is written, as it is printed
--     EndsUnread status              so a run may end that reads nothing
use Rattle.std.specs.Prelude.{◌≡◌, ℕ, ◌⊎◌, Bool, false, List, [], Option, Result, Ok, Err, IfSome, IsOkAnd, if◌then◌else◌}
use Rattle.jc_types.specs.declared.actions.Command.{Command}
use Rattle.jc_types.specs.declared.actions.Script.{Script}
use Rattle.jc_types.specs.declared.runs.Shape.{Shape}
use Rattle.jc_promise.specs.Play.{is_full, play_of, whole_play}
use Rattle.jc_script.specs.Scripts.{BadLine}
use Rattle.jc_report.specs.Reports.{report_text, summary_of}
use Rattle.jc_words.specs.declared.words.Order.{Order}
use Rattle.jc_words.specs.declared.words.Order.TheVariants as order
use Rattle.jc_words.specs.Words.{default_shape}
use Rattle.jc_single.specs.Played.{script_played}
use Rattle.jc_single.specs.declared.orders.Output.{Output}
use Rattle.jc_single.specs.declared.orders.Writing.{Writing}
use Rattle.jc_single.specs.declared.orders.Writing.TheVariants as writing
use Rattle.jc_single.specs.declared.status.Status.{Status}
use Rattle.jc_single.specs.declared.status.Status.TheVariants as status

-- What a run prints.
pub record Printed : Type 0 where
  pub text : List ℕ
  pub full : Bool

-- The report of the play of the script in the shape.
unfoldable pub report_printed : Script → Shape → Printed
report_printed script shape = record {
  text = report_text script (play_of script shape) (whole_play script shape).log (is_full script shape);
  full = is_full script shape;
}

-- The summary of that play.
unfoldable pub summary_printed : Script → Shape → Printed
summary_printed script shape = record {
  text = summary_of (whole_play script shape).log (is_full script shape);
  full = is_full script shape;
}

-- What is printed of a script that is there, or the first bad line.
abbrev pub print_said : (Script → Printed) → Result Script BadLine → Result Printed BadLine
print_said print (Ok script) = Ok (print script)
print_said print (Err bad) = Err bad

-- The report of the play of the script, or the first bad line.
abbrev pub reported : Shape → Result Script BadLine → Result Printed BadLine
reported shape said = print_said (λ script. report_printed script shape) said

-- What the words ask for on one thread, where the source has these bytes: that of the script that is played last. An
-- audit prints nothing of a play.
unfoldable pub answer_of : Order → List ℕ → Result Printed BadLine
answer_of (order.Run threads lock shape) input = reported shape (script_played (order.Run threads lock shape) input)
answer_of (order.Reap shape) input = reported shape (script_played (order.Reap shape) input)
answer_of (order.Audit shape) input = Ok (record { text = []; full = false })
answer_of (order.Generate number jobs pods) input =
    print_said (λ script. summary_printed script default_shape) (script_played (order.Generate number jobs pods) input)

-- A run, a reaper and an audit read all that the source has left, where the source tells it; a generated script needs no source.
abbrev pub OfInput : Order → Option (List ℕ) → (List ℕ → Type 0) → Type 0
OfInput (order.Run threads lock shape) left P = IfSome left P
OfInput (order.Reap shape) left P = IfSome left P
OfInput (order.Audit shape) left P = IfSome left P
OfInput (order.Generate number jobs pods) left P = P []

-- What the order asks for on one thread, of the bytes that it reads, is printed, and of that it holds.
abbrev pub OfPrinted : Order → Option (List ℕ) → (Printed → Type 0) → Type 0
OfPrinted order left P = OfInput order left (λ input. IsOkAnd (answer_of order input) P)

-- The status of a run that meets no fault and no want of memory.
abbrev pub status_of : Result Printed BadLine → Status
status_of (Ok printed) = if printed.full then status.HistoryFull else status.Ok
status_of (Err bad) = status.BadScript bad.number bad.cause

-- So a run may end that reads nothing: no read fails, no input is too long, and no script and no report is bad.
abbrev pub EndsUnread : Status → Type 0
EndsUnread status.Ok = Unit {0}
EndsUnread status.HistoryFull = Unit {0}
EndsUnread status.WriteFault = Unit {0}
EndsUnread status.Want = Unit {0}
EndsUnread other = ⊥

-- It is played on one thread: without threads, by a reaper, or a generated script.
abbrev pub IsSingle : Order → Type 0
IsSingle (order.Run threads lock shape) = threads ≡ 0
IsSingle (order.Reap shape) = Unit {0}
IsSingle (order.Audit shape) = ⊥
IsSingle (order.Generate number jobs pods) = Unit {0}

-- How a run on threads may end that meets no fault and no want of memory, of what a text says.
abbrev pub MayEnd : Result (List Command) BadLine → Status → Type 0
MayEnd (Ok commands) ended = (ended ≡ status.Ok) ⊎ (ended ≡ status.HistoryFull)
MayEnd (Err bad) ended = ended ≡ status.BadScript bad.number bad.cause

-- The text of what is to be written.
abbrev pub writing_text : Writing → List ℕ
writing_text (writing.Whole bytes) = bytes.items
writing_text (writing.Drafted report) = report

-- What is written, as it is printed.
abbrev pub printed_by : Output → Printed
printed_by output = record { text = writing_text output.text; full = output.full }
