-- What each status says of what a run has read and written, and which statuses a run has that meets no fault.
--     AnyOrder order                                 an order of any kind
--     EndsAsTold Alone words source sink ended       so a run of these words ends
use Rattle.std.specs.Prelude.{◌≡◌, ◌≢◌, ◌↔◌, ◌⊎◌, ◌+◌, ◌<◌, ◌≤◌, ℕ, [], Err, IfSome, None, Option, Some, false, length, true}
use Rattle.std.specs.Io.KnownBytes.{Appends, Keeps}
use Rattle.jc_io.specs.Moved.{AppendsFront, TakesAtMost, TakesCount}
use Rattle.jc_script.specs.Cause.{Cause}
use Rattle.jc_script.specs.Scripts.{BadLine, most_bytes}
use Rattle.jc_words.specs.declared.words.Order.{Order}
use Rattle.jc_words.specs.declared.words.Order.TheVariants.{Generate}
use Rattle.jc_single.specs.RunAnswers.{EndsUnread, OfInput, OfPrinted, answer_of, status_of}
use Rattle.jc_single.specs.RunEnds.{Change, HasFailed}
use Rattle.jc_single.specs.declared.status.Status.{Status}
use Rattle.jc_single.specs.declared.status.Status.TheVariants as status

-- An order of any kind.
abbrev pub AnyOrder : Order → Type 0
AnyOrder order = Unit {0}

-- So a run of the words ends. `source` and `sink` are what they tell before and after, and `Alone` are the orders that are
-- known to have been done on one thread: of them the text is told.
pub record EndsAsTold (Alone : Order → Type 0) (words : Option Order) (source sink : Change) (ended : Status) : Type 0 where
  -- With Ok the whole text was written: what the words ask for, of what the source had. So it was with a full history.
  pub ok : ended ≡ status.Ok → IfSome words (λ order. Alone order → OfPrinted order source.old
      (λ printed. (printed.full ≡ false) × Appends sink.old sink.new printed.text))
  pub history_full : ended ≡ status.HistoryFull → IfSome words (λ order. Alone order → OfPrinted order source.old
      (λ printed. (printed.full ≡ true) × Appends sink.old sink.new printed.text))
  -- Where the sink failed, a front of it was.
  pub front : ended ≡ status.WriteFault → IfSome words (λ order. Alone order → OfPrinted order source.old
      (λ printed. AppendsFront sink.old sink.new printed.text))
  -- Bad words alone are refused, with nothing read.
  pub bad_words : (ended ≡ status.BadWords) ↔ (words ≡ None)
  pub nothing_read : ended ≡ status.BadWords → Keeps source.old source.new
  -- A generated script needs no source.
  pub generates : (number jobs pods : ℕ) → words ≡ Some (Generate number jobs pods) → Keeps source.old source.new
  -- So no read of it fails, nothing is too long and no script is bad, whatever the source is.
  pub generates_only : (number jobs pods : ℕ) → words ≡ Some (Generate number jobs pods) → EndsUnread ended
  -- A fault is told where there was one.
  pub read_fault : ended ≡ status.ReadFault → HasFailed source
  pub write_fault : ended ≡ status.WriteFault → HasFailed sink
  -- The script is bad in the line that is told, and for that cause.
  pub bad_script : (line : ℕ) (cause : Cause) → ended ≡ status.BadScript line cause → IfSome words (λ order.
      OfInput order source.old (λ input. answer_of order input ≡ Err (record { number = line; cause = cause })))
  -- TooLong takes one byte more than a script may have, and no other end takes so many.
  pub too_long : ended ≡ status.TooLong → TakesCount source.old source.new (most_bytes + 1)
  pub not_too_long : ended ≢ status.TooLong → TakesAtMost source.old source.new most_bytes
  -- Words in the grammar, an input that is not too long and no fault give what was asked for, or want of memory.
  pub complete : (order : Order) → words ≡ Some order → Alone order → ¬ HasFailed source → ¬ HasFailed sink
      → OfInput order source.old (λ input. length input ≤ most_bytes
      → (ended ≡ status_of (answer_of order input)) ⊎ (ended ≡ status.Want))
  -- Of a generated script nothing is asked of the source.
  pub complete_generated : (number jobs pods : ℕ) → words ≡ Some (Generate number jobs pods) → ¬ HasFailed sink
      → (ended ≡ status_of (answer_of (Generate number jobs pods) [])) ⊎ (ended ≡ status.Want)
  -- Of a bad script nothing is asked of the sink.
  pub complete_bad_script : (order : Order) → words ≡ Some order → ¬ HasFailed source
      → OfInput order source.old (λ input. length input ≤ most_bytes → (bad : BadLine) → answer_of order input ≡ Err bad
      → (ended ≡ status.BadScript bad.number bad.cause) ⊎ (ended ≡ status.Want))
  -- A longer input is too long, or there is want of memory.
  pub complete_too_long : (order : Order) → words ≡ Some order → ¬ HasFailed source
      → OfInput order source.old (λ input. most_bytes < length input → (ended ≡ status.TooLong) ⊎ (ended ≡ status.Want))
