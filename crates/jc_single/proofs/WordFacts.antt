-- What the ends of a run on one thread tell of its words.
use Rattle.std.proofs.Common.{◌≡◌, ℕ, ◌+◌, ◌≤◌, ◌⊎◌, inl, inr, Bool, true, false, List, [], length, Option, Some, None, Ok, Err, arith, ap, refl, subst, sym, ◌∙◌}
use Rattle.std.specs.Prelude.{IfSome, IsOkAnd}
use Rattle.std.specs.Io.KnownBytes.{Appends, Keeps}
use Rattle.jc_io.specs.Faults.{Rose}
use Rattle.jc_io.specs.Moved.{AppendsFront, TakesAtMost, TakesCount}
use Rattle.jc_script.specs.Cause.{Cause}
use Rattle.jc_script.specs.Scripts.{most_bytes}
use Rattle.jc_words.specs.declared.words.Order.{Order}
use Rattle.jc_words.specs.declared.words.Order.TheVariants.{Generate}
use Rattle.jc_single.proofs.EndFacts.{EndsBad, EndsLong, all-written, bad-ends, bad-found, front-written, good-words, long-ends, long-taken, most-taken, no-line, none-taken, none-written, quiet-ends, read-rose, unread-ends, unread-kept}
use Rattle.jc_single.proofs.EndFacts.{whole, whole-of, write-rose, is-whole, not-whole, stopped-not-front, stopped-not-whole}
use Rattle.jc_single.proofs.RunFacts.{fronted, not_bad, order_same, told}
use Rattle.jc_single.specs.EndsTold.{AnyOrder, EndsAsTold}
use Rattle.jc_single.specs.RunEnds.{Answers, Change, Front, RunHasEnded, HasRun, IsUnread, Ran, Refused, Stopped, Whole, Wrote}
use Rattle.jc_single.specs.Played.{OfPlayed, script_played, staging_of}
use Rattle.jc_single.specs.RunAnswers.{EndsUnread, IsSingle, OfInput, OfPrinted, Printed, answer_of, status_of}
use Rattle.jc_single.specs.Headlines.{IsReport, TellsFront, TellsHistory, ends_full}
use Rattle.jc_single.specs.declared.status.Status.{Status}
use Rattle.jc_single.specs.declared.status.Status.TheVariants as status

-- ---- of one order

-- What is printed of each input is the report of a history.
abbrev pub Tells : Order → Type 0
Tells order = (input : List ℕ) (printed : Printed) → answer_of order input ≡ Ok printed
    → IfSome (staging_of order) (λ staging. IsOkAnd (script_played order input)
    (λ script. IsReport 0 script staging.shape printed.full printed.text))

-- What was written is a report where each text is one.
abbrev pub TellsAll : Order → Change → Change → Status → Type 0
TellsAll order source sink ended =
    OfPlayed order source.old (λ staging script. TellsHistory staging.threads script staging.shape (ends_full ended) sink.old sink.new)

abbrev pub TellsSome : Order → Change → Change → Type 0
TellsSome order source sink =
    OfPlayed order source.old (λ staging script. TellsFront staging.threads script staging.shape sink.old sink.new)

all-told : (order : Order) (source sink : Change) (ended : Status) → IsSingle order → Tells order
    → (ended ≡ status.Ok) ⊎ (ended ≡ status.HistoryFull) → RunHasEnded order source sink (Answers order) ended
    → TellsAll order source sink ended
all-told order source sink ended single tells e (Wrote input printed read says (Whole written is)) =
    told order source.old input printed.full ended printed.text printed.text sink.old sink.new single read.all is refl written
    (tells input printed says)
all-told order source sink ended single tells (inl e) (Wrote input printed read says (Front front rose is)) = absurd (cc (is, e))
all-told order source sink ended single tells (inr e) (Wrote input printed read says (Front front rose is)) = absurd (cc (is, e))
all-told order source sink ended single tells e (Stopped stopped kept) =
    absurd (not-whole (ends_full ended) ended (stopped-not-whole stopped) (whole-of ended e))

front-told : (order : Order) (source sink : Change) (ended : Status) → IsSingle order → Tells order → ended ≡ status.WriteFault
    → RunHasEnded order source sink (Answers order) ended → TellsSome order source sink
front-told order source sink ended single tells e (Wrote input printed read says (Whole written is)) =
    absurd (not-whole printed.full ended (ap is-whole e) is)
front-told order source sink ended single tells e (Wrote input printed read says (Front front rose is)) =
    fronted order source.old input printed.full printed.text printed.text sink.old sink.new single read.all refl front
    (tells input printed says)
front-told order source sink ended single tells e (Stopped stopped kept) = absurd (stopped-not-front stopped e)

-- ---- of words

of-words : (P : Order → Type 0) (words : Option Order) (source sink : Change) (ended : Status)
    → ((order : Order) → RunHasEnded order source sink (Answers order) ended → P order) → HasRun words source sink ended → IfSome words P
of-words P words source sink ended more (Ran order is h) = subst (λ o. IfSome o P) (sym is) (more order h)
of-words P words source sink ended more (Refused is source_kept kept bad) = subst (λ o. IfSome o P) (sym is) tt

-- The order that the words ask for is the one that was done.
pub has-ended : (words : Option Order) (source sink : Change) (ended : Status) → HasRun words source sink ended
    → (order : Order) → words ≡ Some order → RunHasEnded order source sink (Answers order) ended
has-ended words source sink ended (Ran given is h) order e =
    subst (λ o. RunHasEnded o source sink (Answers o) ended) (order_same order given words is e) h
has-ended words source sink ended (Refused is source_kept kept bad) order e = absurd (cc (is, e))

of-run : (A : Type 0) (words : Option Order) (source sink : Change) (ended : Status)
    → ((order : Order) → words ≡ Some order → RunHasEnded order source sink (Answers order) ended → A)
    → (words ≡ None → Keeps source.old source.new → Keeps sink.old sink.new → ended ≡ status.BadWords → A)
    → HasRun words source sink ended → A
of-run A words source sink ended ran refused (Ran order is h) = ran order is h
of-run A words source sink ended ran refused (Refused is source_kept kept bad) = refused is source_kept kept bad

-- What holds of the answer holds of what is printed.
printed-so : (P : Printed → Type 0) (order : Order) (input : List ℕ) (printed : Printed) → answer_of order input ≡ Ok printed → P printed
    → IsOkAnd (answer_of order input) P
printed-so P order input printed e p = subst (λ r. IsOkAnd r P) (sym e) p

written-so : (full : Bool) (order : Order) (source sink : Change) (ended : Status) → ended ≡ whole full
    → RunHasEnded order source sink (Answers order) ended → OfInput order source.old (λ input. IsOkAnd (answer_of order input)
    (λ printed. (printed.full ≡ full) × Appends sink.old sink.new printed.text))
written-so full order source sink ended e h =
    all-written order source sink ended full
    (λ input. IsOkAnd (answer_of order input) (λ printed. (printed.full ≡ full) × Appends sink.old sink.new printed.text))
    (λ input printed says same written. printed-so (λ printed. (printed.full ≡ full) × Appends sink.old sink.new printed.text)
    order input printed says (same, written)) e h

-- What holds of the order holds of one of any kind.
of-any : (P : Order → Type 0) (words : Option Order) → IfSome words P → IfSome words (λ order. AnyOrder order → P order)
of-any P None h = tt
of-any P (Some order) h = λ any. h

module _ {words : Option Order} {source sink : Change} {ended : Status} (h : HasRun words source sink ended) where
  pub ok_is : ended ≡ status.Ok → IfSome words (λ order. OfInput order source.old (λ input. IsOkAnd (answer_of order input)
      (λ printed. (printed.full ≡ false) × Appends sink.old sink.new printed.text)))
  ok_is e =
      of-words (λ order. OfInput order source.old (λ input. IsOkAnd (answer_of order input)
      (λ printed. (printed.full ≡ false) × Appends sink.old sink.new printed.text))) words source sink ended
      (λ order. written-so false order source sink ended e) h

  pub history_full_is : ended ≡ status.HistoryFull → IfSome words (λ order. OfInput order source.old (λ input.
      IsOkAnd (answer_of order input) (λ printed. (printed.full ≡ true) × Appends sink.old sink.new printed.text)))
  history_full_is e =
      of-words (λ order. OfInput order source.old (λ input. IsOkAnd (answer_of order input)
      (λ printed. (printed.full ≡ true) × Appends sink.old sink.new printed.text))) words source sink ended
      (λ order. written-so true order source sink ended e) h

  pub headline_is : ((order : Order) → words ≡ Some order → IsSingle order) → ((order : Order) → words ≡ Some order → Tells order)
      → (ended ≡ status.Ok) ⊎ (ended ≡ status.HistoryFull) → (order : Order) → words ≡ Some order → TellsAll order source sink ended
  headline_is single tells e order is =
      all-told order source sink ended (single order is) (tells order is) e (has-ended words source sink ended h order is)

  pub headline_front_is : ended ≡ status.WriteFault → (order : Order) → words ≡ Some order → IsSingle order → Tells order
      → TellsSome order source sink
  headline_front_is e order is single tells =
      front-told order source sink ended single tells e (has-ended words source sink ended h order is)

  pub generates_is : (number jobs pods : ℕ) → words ≡ Some (Generate number jobs pods) → Keeps source.old source.new
  generates_is number jobs pods is =
      unread-kept (Generate number jobs pods) source sink ended tt
      (has-ended words source sink ended h (Generate number jobs pods) is)

  pub generates_only_is : (number jobs pods : ℕ) → words ≡ Some (Generate number jobs pods) → EndsUnread ended
  generates_only_is number jobs pods is =
      unread-ends (Generate number jobs pods) source sink ended tt
      (has-ended words source sink ended h (Generate number jobs pods) is)

  pub bad_script_is : (line : ℕ) (cause : Cause) → ended ≡ status.BadScript line cause
      → IfSome words (λ order. OfInput order source.old (λ input. answer_of order input ≡ Err (record { number = line; cause = cause })))
  bad_script_is line cause e =
      of-words (λ order. OfInput order source.old (λ input. answer_of order input ≡ Err (record { number = line; cause = cause })))
      words source sink ended (λ order. bad-found order source sink ended line cause e) h

  pub front_is : ended ≡ status.WriteFault → IfSome words (λ order. OfInput order source.old (λ input.
      IsOkAnd (answer_of order input) (λ printed. AppendsFront sink.old sink.new printed.text)))
  front_is e =
      of-words (λ order. OfInput order source.old (λ input. IsOkAnd (answer_of order input)
      (λ printed. AppendsFront sink.old sink.new printed.text))) words source sink ended
      (λ order. front-written order source sink ended
      (λ input. IsOkAnd (answer_of order input) (λ printed. AppendsFront sink.old sink.new printed.text))
      (λ input printed says front. printed-so (λ printed. AppendsFront sink.old sink.new printed.text) order input printed says front) e) h

  ends : (order : Order) → words ≡ Some order → ((¬ IsUnread order) → ¬ Rose source.faults_old source.faults_new)
      → ¬ Rose sink.faults_old sink.faults_new → OfInput order source.old (λ input. length input ≤ most_bytes
      → (ended ≡ status_of (answer_of order input)) ⊎ (ended ≡ status.Want))
  ends order is quiet silent =
      quiet-ends order source sink ended (λ input. (ended ≡ status_of (answer_of order input)) ⊎ (ended ≡ status.Want))
      (λ input printed says e. inl (e ∙ ap status_of (sym says))) (λ input bad says e. inl (e ∙ ap status_of (sym says)))
      (λ e input. inr e) quiet silent (has-ended words source sink ended h order is)

  pub complete_is : (order : Order) → words ≡ Some order → ¬ Rose source.faults_old source.faults_new
      → ¬ Rose sink.faults_old sink.faults_new → OfInput order source.old (λ input. length input ≤ most_bytes
      → (ended ≡ status_of (answer_of order input)) ⊎ (ended ≡ status.Want))
  complete_is order is quiet silent = ends order is (λ reads. quiet) silent

  pub complete_generated_is : (number jobs pods : ℕ) → words ≡ Some (Generate number jobs pods)
      → ¬ Rose sink.faults_old sink.faults_new
      → (ended ≡ status_of (answer_of (Generate number jobs pods) [])) ⊎ (ended ≡ status.Want)
  complete_generated_is number jobs pods is silent =
      ends (Generate number jobs pods) is (λ reads. absurd (reads tt)) silent (omega arith)

  pub complete_bad_script_is : (order : Order) → words ≡ Some order → ¬ Rose source.faults_old source.faults_new
      → OfInput order source.old (EndsBad order ended)
  complete_bad_script_is order is quiet =
      bad-ends order source sink ended (λ input printed says bad. not_bad (answer_of order input) printed bad says) quiet
      (has-ended words source sink ended h order is)

  pub complete_too_long_is : (order : Order) → words ≡ Some order → ¬ Rose source.faults_old source.faults_new
      → OfInput order source.old (EndsLong ended)
  complete_too_long_is order is quiet = long-ends order source sink ended quiet (has-ended words source sink ended h order is)

  pub bad_words_is : (ended ≡ status.BadWords → words ≡ None) × (words ≡ None → ended ≡ status.BadWords)
  bad_words_is = (
    λ e. of-run (words ≡ None) words source sink ended (λ order is ran. absurd (good-words order source sink ended e ran))
        (λ is source_kept kept bad. is) h,
    λ e. of-run (ended ≡ status.BadWords) words source sink ended (λ order is ran. absurd (cc (is, e)))
        (λ is source_kept kept bad. bad) h,
  )

  pub nothing_read_is : ended ≡ status.BadWords → Keeps source.old source.new
  nothing_read_is e =
      of-run (Keeps source.old source.new) words source sink ended (λ order is ran. absurd (good-words order source sink ended e ran))
      (λ is source_kept kept bad. source_kept) h

  pub read_fault_is : ended ≡ status.ReadFault → Rose source.faults_old source.faults_new
  read_fault_is e =
      of-run (Rose source.faults_old source.faults_new) words source sink ended (λ order is. read-rose order source sink ended e)
      (λ is source_kept kept bad. absurd (cc (bad, e))) h

  pub write_fault_is : ended ≡ status.WriteFault → Rose sink.faults_old sink.faults_new
  write_fault_is e =
      of-run (Rose sink.faults_old sink.faults_new) words source sink ended (λ order is. write-rose order source sink ended e)
      (λ is source_kept kept bad. absurd (cc (bad, e))) h

  pub too_long_is : ended ≡ status.TooLong → TakesCount source.old source.new (most_bytes + 1)
  too_long_is e =
      of-run (TakesCount source.old source.new (most_bytes + 1)) words source sink ended
      (λ order is. long-taken order source sink ended e) (λ is source_kept kept bad. absurd (cc (bad, e))) h

  pub not_too_long_is : (ended ≡ status.TooLong → ⊥) → TakesAtMost source.old source.new most_bytes
  not_too_long_is short =
      of-run (TakesAtMost source.old source.new most_bytes) words source sink ended
      (λ order is. most-taken order source sink ended short)
      (λ is source_kept kept bad. none-taken source.old source.new source_kept) h

  pub no_audit_is : (line : ℕ) → ended ≡ status.AuditNo line → ⊥
  no_audit_is line e =
      of-run ⊥ words source sink ended (λ order is. no-line order source sink ended line e) (λ is source_kept kept bad. cc (bad, e)) h

  pub nothing_written_is : (ended ≡ status.Ok → ⊥) → (ended ≡ status.HistoryFull → ⊥) → (ended ≡ status.WriteFault → ⊥)
      → Keeps sink.old sink.new
  nothing_written_is ok full front =
      of-run (Keeps sink.old sink.new) words source sink ended (λ order is. none-written order source sink ended ok full front)
      (λ is source_kept kept bad. kept) h

  -- So a run of the words has ended.
  pub told_is : EndsAsTold AnyOrder words source sink ended
  told_is = record {
    ok = λ e. of-any (λ order. OfPrinted order source.old (λ printed. (printed.full ≡ false) × Appends sink.old sink.new printed.text))
        words (ok_is e);
    history_full = λ e. of-any (λ order. OfPrinted order source.old (λ printed. (printed.full ≡ true) × Appends sink.old sink.new printed.text))
        words (history_full_is e);
    front = λ e. of-any (λ order. OfPrinted order source.old (λ printed. AppendsFront sink.old sink.new printed.text)) words (front_is e);
    bad_words = bad_words_is;
    nothing_read = nothing_read_is;
    generates = generates_is;
    generates_only = generates_only_is;
    read_fault = read_fault_is;
    write_fault = write_fault_is;
    bad_script = bad_script_is;
    too_long = too_long_is;
    not_too_long = not_too_long_is;
    complete = λ order is any. complete_is order is;
    complete_generated = complete_generated_is;
    complete_bad_script = complete_bad_script_is;
    complete_too_long = complete_too_long_is;
  }
