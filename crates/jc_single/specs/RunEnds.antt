-- What a run has done, by how it has ended.
--     Change, change old new ..                   what a source or a sink tells, before and after
--     HasFailed change                            a call of it failed
--     IsUnread order                              the order reads nothing
--     SourceHasTaken order source                 how much was taken of the source
--     InputIsRead order source input              all that the order reads was read
--     HasStopped order source ended               the run has ended with nothing to write
--     HasMade order source Holds made             there is a text to write, or the run has so ended
--     HasWritten printed sink ended               the run has ended in writing
--     RunHasEnded order source sink Holds ended   the one or the other
--     Answers order input printed                 what the order asks for on one thread
--     HasRun words source sink ended              so has a run of these words on one thread
--     SingleRun                                   a run on one thread, with its words, its source, its sink and its end
use Rattle.std.specs.Prelude.{◌≡◌, ℕ, ◌≤◌, ◌+◌, List, Option, Some, None, Result, Ok, Err, if◌then◌else◌, length}
use Rattle.std.specs.Io.KnownBytes.{Appends, Keeps}
use Rattle.jc_io.specs.Faults.{Rose}
use Rattle.jc_io.specs.Moved.{AppendsFront, TakesAtMost, TakesCount}
use Rattle.jc_script.specs.Scripts.{BadLine, most_bytes}
use Rattle.jc_words.specs.declared.words.Order.{Order}
use Rattle.jc_words.specs.declared.words.Order.TheVariants as order
use Rattle.jc_single.specs.RunAnswers.{OfInput, Printed, answer_of, printed_by}
use Rattle.jc_single.specs.declared.orders.Output.{Output}
use Rattle.jc_single.specs.declared.status.Status.{Status}
use Rattle.jc_single.specs.declared.status.Status.TheVariants as status

-- The bytes that a source has left or a sink holds, where it tells them, and how often it has failed; before and after.
pub record Change : Type 0 where
  pub old : Option (List ℕ)
  pub new : Option (List ℕ)
  pub faults_old : ℕ
  pub faults_new : ℕ

abbrev pub change : Option (List ℕ) → Option (List ℕ) → ℕ → ℕ → Change
change old new faults_old faults_new =
    record { old = old; new = new; faults_old = faults_old; faults_new = faults_new }

-- A call of the source or of the sink failed.
abbrev pub HasFailed : Change → Type 0
HasFailed change = Rose change.faults_old change.faults_new

-- A generated script needs no source.
abbrev pub IsUnread : Order → Type 0
IsUnread (order.Generate number jobs pods) = Unit {0}
IsUnread other = ⊥

-- No more was taken than an input may have, and nothing where nothing is read.
pub record SourceHasTaken (order : Order) (source : Change) : Type 0 where
  pub most : TakesAtMost source.old source.new most_bytes
  pub none : IsUnread order → Keeps source.old source.new

-- This input is all that the order reads, and no longer than an input may be.
pub record InputIsRead (order : Order) (source : Change) (input : List ℕ) : Type 0 where
  pub all : OfInput order source.old (λ left. left ≡ input)
  pub few : length input ≤ most_bytes
  pub taken : SourceHasTaken order source

-- A call of the source failed; the input is too long; a line is bad; or memory ran out.
pub data HasStopped (order : Order) (source : Change) (ended : Status) : Type 0 where
  AtRead : ¬ IsUnread order → HasFailed source → SourceHasTaken order source
      → ended ≡ status.ReadFault → HasStopped order source ended
  AtLength : ¬ IsUnread order → TakesCount source.old source.new (most_bytes + 1)
      → ended ≡ status.TooLong → HasStopped order source ended
  AtLine : (input : List ℕ) (bad : BadLine) → InputIsRead order source input → answer_of order input ≡ Err bad
      → ended ≡ status.BadScript bad.number bad.cause → HasStopped order source ended
  AtMemory : SourceHasTaken order source → ended ≡ status.Want → HasStopped order source ended

-- There is a text to write, and of it and what was read this holds; or the run has ended.
abbrev pub HasMade : Order → Change → (List ℕ → Printed → Type 0) → Result Output Status → Type 0
HasMade order source Holds (Ok output) = (input : List ℕ) × InputIsRead order source input × Holds input (printed_by output)
HasMade order source Holds (Err ended) = HasStopped order source ended

-- All was written, or a call of the sink failed behind a front of it.
pub data HasWritten (printed : Printed) (sink : Change) (ended : Status) : Type 0 where
  Whole : Appends sink.old sink.new printed.text
      → ended ≡ (if printed.full then status.HistoryFull else status.Ok) → HasWritten printed sink ended
  Front : AppendsFront sink.old sink.new printed.text → HasFailed sink
      → ended ≡ status.WriteFault → HasWritten printed sink ended

-- There was a text to write, and it was written or not; or there was none, and nothing was.
pub data RunHasEnded (order : Order) (source sink : Change) (Holds : List ℕ → Printed → Type 0) (ended : Status) : Type 0 where
  Wrote : (input : List ℕ) (printed : Printed) → InputIsRead order source input → Holds input printed → HasWritten printed sink ended
      → RunHasEnded order source sink Holds ended
  Stopped : HasStopped order source ended → Keeps sink.old sink.new → RunHasEnded order source sink Holds ended

-- This is what the order asks for on one thread, of this input.
abbrev pub Answers : Order → List ℕ → Printed → Type 0
Answers order input printed = answer_of order input ≡ Ok printed

-- What the words ask for on one thread was done; or they are bad, and nothing was.
pub data HasRun (words : Option Order) (source sink : Change) (ended : Status) : Type 0 where
  Ran : (order : Order) → words ≡ Some order → RunHasEnded order source sink (Answers order) ended
      → HasRun words source sink ended
  Refused : words ≡ None → Keeps source.old source.new → Keeps sink.old sink.new → ended ≡ status.BadWords
      → HasRun words source sink ended

-- A run on one thread: its words, what its source and its sink tell before and after, and how it has ended.
pub record SingleRun : Type 0 where
  pub words : Option Order
  pub source : Change
  pub sink : Change
  pub ended : Status
  pub has_run : HasRun words source sink ended
