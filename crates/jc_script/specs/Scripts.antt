-- The commands of a script, or its first bad line.
--     line_says shape line      the commands of a line, or the cause that it is bad
--     script_of shape text      the commands of all lines together, or the first bad line with its cause
use Rattle.std.specs.Prelude.{ℕ, ◌+◌, List, [], ◌∷◌, length, nat_lt, nat_le, Option, Some, None, Result, Ok, Err, if◌then◌else◌}
use Rattle.std.specs.Str.Lines.{strip_carriage_return}
use Rattle.serde_json.specs.Data.{Data}
use Rattle.jc_json.specs.Field.{◌>>=◌}
use Rattle.jc_json.specs.Line.{data_of}
use Rattle.jc_types.specs.declared.actions.Command.{Command}
use Rattle.jc_types.specs.declared.runs.Shape.{Shape}
use Rattle.jc_members.specs.declared.causes.Cause.{Cause}
use Rattle.jc_members.specs.declared.causes.Cause.TheVariants.{NotJson, LineTooLong, TooMany}
use Rattle.jc_script.specs.declared.commands.Said.{Said}
use Rattle.jc_script.specs.Commands.{commands_of, value_says}
use Rattle.jc_members.specs.Items.{with_front}
use Rattle.jc_script.specs.TextLines.{lines_of}

-- a line has at most this many bytes
abbrev pub most_line_bytes : ℕ
most_line_bytes = 1048576

-- a script has at most this many commands
abbrev pub most_commands : ℕ
most_commands = 200000

-- a script has at most this many bytes
abbrev pub most_bytes : ℕ
most_bytes = 67108864

-- ---- one line

abbrev pub json_says : Shape → Option Data → Result Said Cause
json_says shape None = Err NotJson
json_says shape (Some d) = value_says shape d

-- what a text that is not empty says
unfoldable pub text_says : Shape → List ℕ → Result Said Cause
text_says shape text =
    if nat_lt most_line_bytes (length text) then Err LineTooLong else json_says shape (data_of text)

-- a text says the commands that it gives, and an empty one says none
abbrev pub commands_said : Shape → List ℕ → Result (List Command) Cause
commands_said shape [] = Ok []
commands_said shape (b ∷ bs) = text_says shape (b ∷ bs) >>= λ said. Ok (commands_of said)

-- a carriage return at a line's end is dropped
abbrev pub line_says : Shape → List ℕ → Result (List Command) Cause
line_says shape line = commands_said shape (strip_carriage_return line)

-- ---- all lines

-- a line that is bad, by its number from 1
pub record BadLine : Type 0 where
  pub number : ℕ
  pub cause : Cause

-- A line's commands before those of the rest, where with them there are not too many.
abbrev pub line_before : ℕ → ℕ → Result (List Command) Cause → (ℕ → Result (List Command) BadLine)
    → Result (List Command) BadLine
line_before number before (Err cause) rest = Err (record { number = number; cause = cause })
line_before number before (Ok commands) rest =
    if nat_le (before + length commands) most_commands
    then with_front commands (rest (before + length commands))
    else Err (record { number = number; cause = TooMany })

-- the lines from `number` on, behind `before` commands
abbrev pub lines_say : Shape → ℕ → ℕ → List (List ℕ) → Result (List Command) BadLine
lines_say shape number before [] = Ok []
lines_say shape number before (line ∷ lines) =
    line_before number before (line_says shape line) (λ count. lines_say shape (number + 1) count lines)

-- the commands of a text, or its first bad line
unfoldable pub script_of : Shape → List ℕ → Result (List Command) BadLine
script_of shape text = lines_say shape 1 0 (lines_of text)
