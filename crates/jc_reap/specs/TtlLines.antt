-- The TTLs that a script gives (`ttlSecondsAfterFinished` of batch/v1): one entry a command.
--     spec_member d                   the specification in the value of a line
--     ttl_in d                    its TTL, or the cause that it is refused
--     text_ttls shape text        the entries of the commands of a text
--     line_ttls shape line        those of a line
--     ttls_say shape number ..    those of all lines from `number` on, or the first bad line
--     ttls_of shape text          those of a text
--     RefusesTtl cause            the cause is that of a TTL
use Rattle.std.specs.Prelude.{◌≡◌, ◌⊎◌, ℕ, ◌+◌, Bool, true, false, List, [], ◌∷◌, codes, replicate, Option, Some, None, Result, Ok, Err, if◌then◌else◌}
use Rattle.std.specs.Option.{option_and_then}
use Rattle.std.specs.Str.Lines.{strip_carriage_return}
use Rattle.serde_json.specs.Data.{Data}
use Rattle.jc_json.specs.Field.{◌>>=◌, member_of}
use Rattle.jc_json.specs.Line.{data_of}
use Rattle.jc_json.specs.Place.{path_to}
use Rattle.jc_types.specs.declared.actions.Action1.{Action1}
use Rattle.jc_types.specs.declared.actions.Action1.TheVariants as act
use Rattle.jc_types.specs.declared.actions.Command.{Command}
use Rattle.jc_types.specs.declared.runs.Shape.{Shape}
use Rattle.jc_script.specs.Cause.{Cause}
use Rattle.jc_script.specs.Cause.TheVariants.{OutOfRange, WrongType}
use Rattle.jc_reap.specs.declared.ttls.Given.{Given}
use Rattle.jc_script.specs.Items.{with_front}
use Rattle.jc_script.specs.TextLines.{lines_of}
use Rattle.jc_script.specs.Members.{given_number_in}
use Rattle.jc_script.specs.Scripts.{BadLine, text_says}

-- ---- one value

-- The greatest TTL is that of a 32-bit member (batch/v1).
abbrev pub greatest_ttl : ℕ
greatest_ttl = 2147483647

-- The specification of the Job in the value of a line.
abbrev pub spec_member : Data → Option Data
spec_member d = option_and_then (member_of (codes "spec")) (member_of (codes "job") d)

-- Where the specification stands in a line.
abbrev pub spec_path : List ℕ
spec_path = path_to (path_to [] (codes "job")) (codes "spec")

-- The TTL in a specification, where there is one: a whole number of 31 bits.
abbrev pub ttl_of_spec : Option Data → Result (Option ℕ) Cause
ttl_of_spec None = Ok None
ttl_of_spec (Some spec) =
    given_number_in spec_path (codes "ttlSecondsAfterFinished") 0 greatest_ttl spec

-- The TTL in the value of a line.
abbrev pub ttl_in : Data → Result (Option ℕ) Cause
ttl_in d = ttl_of_spec (spec_member d)

-- The TTL in the value of a line that has one.
abbrev pub ttl_given : Option Data → Result (Option ℕ) Cause
ttl_given None = Ok None
ttl_given (Some d) = ttl_in d

-- ---- one line

-- The action makes a Job.
abbrev pub makes_job : Action1 → Bool
makes_job (act.Create key spec) = true
makes_job other = false

-- The TTL of a line's command: none of one that makes no Job.
abbrev pub ttl_of_command : Command → Option Data → Result (Option ℕ) Cause
ttl_of_command command d = if makes_job command.action then ttl_given d else Ok None

-- An entry for each command of a text that is not empty: they are one command, given some times.
abbrev pub some_ttls : Shape → List ℕ → Result (List (Option ℕ)) Cause
some_ttls shape text =
    text_says shape text >>= λ said.
    ttl_of_command said.command (data_of text) >>= λ ttl. Ok (replicate said.times ttl)

-- Those of a text: an empty one gives none.
abbrev pub text_ttls : Shape → List ℕ → Result (List (Option ℕ)) Cause
text_ttls shape [] = Ok []
text_ttls shape (b ∷ bs) = some_ttls shape (b ∷ bs)

-- Those of a line: a carriage return at its end is dropped.
abbrev pub line_ttls : Shape → List ℕ → Result (List (Option ℕ)) Cause
line_ttls shape line = text_ttls shape (strip_carriage_return line)

-- The entries that are given so.
abbrev pub entries_of : Given → List (Option ℕ)
entries_of given = replicate given.times given.ttl

-- ---- all lines

-- The entries of a line before those of the rest.
abbrev pub ttls_before : ℕ → Result (List (Option ℕ)) Cause → Result (List (Option ℕ)) BadLine
    → Result (List (Option ℕ)) BadLine
ttls_before number (Err cause) rest = Err (record { number = number; cause = cause })
ttls_before number (Ok ttls) rest = with_front ttls rest

-- Those of the lines from `number` on.
abbrev pub ttls_say : Shape → ℕ → List (List ℕ) → Result (List (Option ℕ)) BadLine
ttls_say shape number [] = Ok []
ttls_say shape number (line ∷ lines) =
    ttls_before number (line_ttls shape line) (ttls_say shape (number + 1) lines)

-- Those of a text, or its first bad line.
unfoldable pub ttls_of : Shape → List ℕ → Result (List (Option ℕ)) BadLine
ttls_of shape text = ttls_say shape 1 (lines_of text)

-- ---- what is refused

-- Where the TTL stands in a line.
abbrev pub ttl_path : List ℕ
ttl_path = path_to spec_path (codes "ttlSecondsAfterFinished")

-- The TTL is no whole number, or it is out of its range.
abbrev pub RefusesTtl : Cause → Type 0
RefusesTtl cause = (cause ≡ WrongType ttl_path) ⊎ (cause ≡ OutOfRange ttl_path)
