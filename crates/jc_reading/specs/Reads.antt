-- The line of an event before its reply, and what it says.
--     front_text n lane act       the line up to its reply
--     IsProperRead read           all that was read is such as a script or the system may do
--     begun_read read             with the begin in a sync's place
--     event_said line             what the line says
use Rattle.std.specs.Prelude.{◌≡◌, ℕ, ◌<◌, ◌^◌, Bool, List, ◌++◌, codes, decimal, length, take, bytes_eq, Option, Some, None, option_and_then, option_map, if◌then◌else◌}
use Rattle.jc_log.specs.Acts.{Act}
use Rattle.jc_log.specs.Deeds.{act_of_action, act_of_system}
use Rattle.jc_types.specs.declared.runs.Sys.{Sys}
use Rattle.jc_lines.specs.ActTexts.{act_text}
use Rattle.jc_reading.specs.Cuts.{behind_word, first_word_in}
use Rattle.jc_lines.specs.Events.{tag_text}
use Rattle.jc_reading.specs.Proper.{IsProperAction, IsProperSystem, as_begin}
use Rattle.jc_reading.specs.LineReadings.{action_by, digits_said, system_said, tag_said, verb_said}
use Rattle.jc_reading.specs.declared.reads.LineAct.{LineAct}
use Rattle.jc_reading.specs.declared.reads.LineAct.TheVariants.{Command, System}
use Rattle.jc_reading.specs.declared.reads.LineRead.{LineRead}

-- The line up to its reply.
abbrev pub front_text : ℕ → Option ℕ → Act → List ℕ
front_text n lane act =
    decimal n ++ (codes " " ++ (tag_text lane ++ (codes " " ++ (act_text act ++ codes " -> "))))

-- What was read does this.
abbrev pub act_of_line : LineAct → Act
act_of_line (Command action) = act_of_action action
act_of_line (System system) = act_of_system system

abbrev pub IsProperOf : Option ℕ → LineAct → Type 0
IsProperOf (Some lane) (Command action) = (lane < 16) × IsProperAction action
IsProperOf (Some lane) (System system) = ⊥
IsProperOf None (Command action) = ⊥
IsProperOf None (System system) = IsProperSystem system

abbrev pub IsProperRead : LineRead → Type 0
IsProperRead read = IsProperOf read.lane read.act

abbrev pub begun_act : LineAct → LineAct
begun_act (Command action) = Command (as_begin action)
begun_act (System system) = System system

-- With the begin in a sync's place.
abbrev pub begun_read : LineRead → LineRead
begun_read read = record { lane = read.lane; act = begun_act read.act }

-- ---- what a line says

abbrev pub system_by : List ℕ → List ℕ → List ℕ → Option Sys
system_by verb first second = option_and_then (λ v. system_said v first second) (verb_said verb)

abbrev pub system_read : List ℕ → Option Sys
system_read text = system_by (first_word_in text) (first_word_in (behind_word text)) (first_word_in (behind_word (behind_word text)))

-- What is read by the lane, if there is one, of the verb and the words behind it.
abbrev pub of_words : Option ℕ → List ℕ → List ℕ → List ℕ → List ℕ → Option LineRead
of_words (Some lane) verb first second third =
    option_map (λ a. record { lane = Some lane; act = Command a }) (action_by verb first second third)
of_words None verb first second third =
    option_map (λ s. record { lane = None; act = System s }) (system_by verb first second)

abbrev pub read_by : Option ℕ → List ℕ → Option LineRead
read_by lane text =
    of_words lane (first_word_in text) (first_word_in (behind_word text)) (first_word_in (behind_word (behind_word text)))
    (first_word_in (behind_word (behind_word (behind_word text))))

-- The line begins with that text.
abbrev pub begins_with : List ℕ → List ℕ → Bool
begins_with front line = bytes_eq front (take (length front) line)

abbrev pub if_printed : List ℕ → LineRead → Option LineRead
if_printed line read =
    option_and_then
    (λ n. if begins_with (front_text n read.lane (act_of_line read.act)) line then Some read else None)
    (digits_said (first_word_in line))

-- What is read of the line, where the line is what is printed of it.
unfoldable pub event_said : List ℕ → Option LineRead
event_said line =
    option_and_then (if_printed line)
    (option_and_then (λ lane. read_by lane (behind_word (behind_word line))) (tag_said (first_word_in (behind_word line))))

-- The line begins with what is printed of what was read, before its reply.
pub record BeginsWith (line : List ℕ) (read : LineRead) : Type 0 where
  pub number : ℕ
  pub few : number < 2 ^ 64
  pub rest : List ℕ
  pub is : line ≡ front_text number read.lane (act_of_line read.act) ++ rest
