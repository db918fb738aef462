-- What the ends of a run of the program tell of it.
use Rattle.std.proofs.Common.{◌≡◌, ℕ, ◌+◌, ◌≤◌, ◌⊎◌, inl, inr, Bool, true, false, List, [], length, Option, Some, None, Result, Ok, Err, arith, ap, subst, sym, ◌∙◌}
use Rattle.std.specs.Prelude.{IfSome, IsOkAnd}
use Rattle.std.specs.Io.KnownBytes.{Appends, Keeps}
use Rattle.std.proofs.lemmas.Option.{same_Some}
use Rattle.jc_io.specs.Faults.{Rose}
use Rattle.jc_io.specs.Moved.{AppendsFront, TakesAtMost, TakesCount}
use Rattle.jc_types.specs.declared.actions.Command.{Command}
use Rattle.jc_types.specs.declared.runs.Shape.{Shape}
use Rattle.jc_audit.specs.Audits.{VerdictHolds}
use Rattle.jc_audit.specs.declared.verdicts.Verdict.TheVariants.{No, Yes}
use Rattle.jc_script.specs.Cause.{Cause}
use Rattle.jc_script.specs.Scripts.{BadLine, most_bytes, script_of}
use Rattle.jc_words.specs.declared.words.LockKind.{LockKind}
use Rattle.jc_words.specs.declared.words.Order.{Order}
use Rattle.jc_words.specs.declared.words.Order.TheVariants.{Audit, Generate, Run}
use Rattle.jc_single.proofs.EndFacts.{EndsBad, EndsLong, all-written, bad-ends, bad-found, front-written, good-words, long-ends, long-taken, most-taken, no-line, none-written, quiet-ends, read-rose, whole, whole-of, write-rose}
use Rattle.jc_single.proofs.RunFacts.{order_same, told_by}
use Rattle.jc_single.proofs.WordFacts.{Tells, TellsAll, TellsSome, bad_script_is, bad_words_is, complete_bad_script_is, complete_generated_is, complete_is, complete_too_long_is, front_is, generates_is, generates_only_is, headline_front_is}
use Rattle.jc_single.proofs.WordFacts.{headline_is, history_full_is, no_audit_is, not_too_long_is, nothing_read_is, nothing_written_is, ok_is, read_fault_is, too_long_is, write_fault_is}
use Rattle.jc_single.specs.EndsTold.{EndsAsTold}
use Rattle.jc_single.specs.RunEnds.{Change, RunHasEnded, HasRun}
use Rattle.jc_single.specs.Played.{Staging, script_played, staging_of}
use Rattle.jc_single.specs.RunAnswers.{EndsUnread, IsSingle, MayEnd, OfInput, Printed, answer_of, status_of}
use Rattle.jc_single.specs.Headlines.{IsReport, TellsFront, TellsHistory, ends_full}
use Rattle.jc_single.specs.declared.status.Status.{Status}
use Rattle.jc_single.specs.declared.status.Status.TheVariants as status
use Rattle.jc_ctl.proofs.AskedFacts.{none-bad, of-audit, promised-too, said-bad, same-shape}
use Rattle.jc_ctl.proofs.AuditFacts.{audit_ends, audit_ends_long, audit_full, audit_kept, audit_line, audit_long, audit_most, audit_read, audit_words, audit_write, front_said, no_said, yes_said}
use Rattle.jc_ctl.specs.Audited.{IsAudited, IsPromised, OfAudit, PassesAudit, TellsVerdict, TellsVerdictFront}
use Rattle.jc_ctl.specs.Done.{ByAudit, ByOne, ByThreads, HasDone, IsPlayedBy}

-- What a run of an order has done, one of words that ask for it has.
pub done_as : {words other : Option Order} {source sink : Change} {ended : Status} → other ≡ words
    → HasDone words source sink ended → HasDone other source sink ended
done_as {words} {other} {source} {sink} {ended} same h = subst (λ o. HasDone o source sink ended) (sym same) h

-- ---- on threads

-- What holds of the commands gives more of them.
ok-more : (P Q : List Command → Type 0) (r : Result (List Command) BadLine) → ((commands : List Command) → P commands → Q commands)
    → IsOkAnd r P → IsOkAnd r Q
ok-more P Q (Ok commands) more h = more commands h
ok-more P Q (Err bad) more h = h

module _ (threads : ℕ) (lock : LockKind) (shape : Shape) where
  abbrev Told : Bool → List ℕ → List Command → Type 0
  Told full text commands = IsReport threads (record { commands = commands }) shape full text

  threads-told : (source sink : Change) (ended : Status) → (ended ≡ status.Ok) ⊎ (ended ≡ status.HistoryFull)
      → RunHasEnded (Run threads lock shape) source sink (IsPlayedBy threads shape) ended
      → IfSome source.old (λ input. IsOkAnd (script_of shape input) (λ commands.
      TellsHistory threads (record { commands = commands }) shape (ends_full ended) sink.old sink.new))
  threads-told source sink ended e h =
      all-written (Run threads lock shape) source sink ended (ends_full ended)
      (λ input. IsOkAnd (script_of shape input) (λ commands.
      TellsHistory threads (record { commands = commands }) shape (ends_full ended) sink.old sink.new))
      (λ input printed says full written. ok-more (Told printed.full printed.text)
      (λ commands. TellsHistory threads (record { commands = commands }) shape (ends_full ended) sink.old sink.new)
      (script_of shape input) (λ commands report. record {
        text = printed.text;
        report = subst (λ f. Told f printed.text commands) full report;
        written = written;
      }) says) (whole-of ended e) h

  threads-fronted : (source sink : Change) (ended : Status) → ended ≡ status.WriteFault
      → RunHasEnded (Run threads lock shape) source sink (IsPlayedBy threads shape) ended
      → IfSome source.old (λ input. IsOkAnd (script_of shape input) (λ commands.
      TellsFront threads (record { commands = commands }) shape sink.old sink.new))
  threads-fronted source sink ended e h =
      front-written (Run threads lock shape) source sink ended
      (λ input. IsOkAnd (script_of shape input) (λ commands. TellsFront threads (record { commands = commands }) shape sink.old sink.new))
      (λ input printed says front. ok-more (Told printed.full printed.text)
      (λ commands. TellsFront threads (record { commands = commands }) shape sink.old sink.new) (script_of shape input)
      (λ commands report. record { full = printed.full; text = printed.text; report = report; front = front }) says) e h

  -- A script that was played is not bad.
  threads-good : (input : List ℕ) (printed : Printed) → IsPlayedBy threads shape input printed
      → (bad : BadLine) → answer_of (Run threads lock shape) input ≡ Err bad → ⊥
  threads-good input printed says bad e =
      subst (λ r. IsOkAnd r (Told printed.full printed.text)) (said-bad threads lock shape input bad e) says

  may-end : (ended : Status) (full : Bool) (P : List Command → Type 0) (r : Result (List Command) BadLine) → IsOkAnd r P
      → ended ≡ whole full → MayEnd r ended
  may-end ended full P (Err bad) h e = absurd h
  may-end ended true P (Ok commands) h e = inr e
  may-end ended false P (Ok commands) h e = inl e

  threads-end : (source sink : Change) (ended : Status) → ¬ Rose source.faults_old source.faults_new
      → ¬ Rose sink.faults_old sink.faults_new
      → RunHasEnded (Run threads lock shape) source sink (IsPlayedBy threads shape) ended
      → IfSome source.old (λ input. length input ≤ most_bytes → MayEnd (script_of shape input) ended ⊎ (ended ≡ status.Want))
  threads-end source sink ended quiet silent h =
      quiet-ends (Run threads lock shape) source sink ended (λ input. MayEnd (script_of shape input) ended ⊎ (ended ≡ status.Want))
      (λ input printed says e. inl (may-end ended printed.full (Told printed.full printed.text) (script_of shape input) says e))
      (λ input bad answered e. inl (subst (λ r. MayEnd r ended) (sym (said-bad threads lock shape input bad answered)) e))
      (λ e input. inr e) (λ reads. quiet) silent h

-- The shape of a run.
abbrev run-shape : Order → Shape → Shape
run-shape (Run threads lock shape) other = shape
run-shape order other = other

-- Words ask for one shape.
same-run : (words : Option Order) (m : ℕ) (one : LockKind) (a : Shape) (n : ℕ) (other : LockKind) (b : Shape)
    → words ≡ Some (Run m one a) → words ≡ Some (Run n other b) → a ≡ b
same-run words m one a n other b is asks =
    ap (λ (o : Order). run-shape o a) (same_Some (Run m one a) (Run n other b) (sym is ∙ asks))

-- ---- of words

-- What a run on one thread tells is told where it was one.
only-one : (P : Order → Type 0) (words : Option Order) (source sink : Change) (ended : Status) → HasDone words source sink ended
    → (HasRun words source sink ended → IfSome words P) → IfSome words (λ order. IsSingle order → P order)
only-one P words source sink ended (ByThreads threads lock shape some is h) more =
    subst (λ o. IfSome o (λ order. IsSingle order → P order)) (sym is) (λ (zero : threads ≡ 0). absurd (omega (arith, zero, some)))
only-one P words source sink ended (ByAudit shape is h) more =
    subst (λ o. IfSome o (λ order. IsSingle order → P order)) (sym is) (λ none. absurd none)
only-one P words source sink ended (ByOne single h) more = by words (more h)
  where
    by : (words : Option Order) → IfSome words P → IfSome words (λ order. IsSingle order → P order)
    by None h = tt
    by (Some order) h = λ alone. h

pub one-of : (words : Option Order) (source sink : Change) (ended : Status) → HasDone words source sink ended
    → (order : Order) → words ≡ Some order → IsSingle order → (P : Type 0) → (HasRun words source sink ended → P) → P
one-of words source sink ended (ByThreads threads lock shape some is h) order asks alone P more =
    let zero : threads ≡ 0 = subst IsSingle (sym (order_same order (Run threads lock shape) words is asks)) alone in
    absurd (omega (arith, zero, some))
one-of words source sink ended (ByAudit shape is h) order asks alone P more =
    absurd (subst IsSingle (sym (order_same order (Audit shape) words is asks)) alone)
one-of words source sink ended (ByOne single h) order asks alone P more = more h

ok_of : (words : Option Order) (source sink : Change) (ended : Status) → HasDone words source sink ended → ended ≡ status.Ok
    → IfSome words (λ order. IsSingle order → OfInput order source.old (λ input. IsOkAnd (answer_of order input)
    (λ printed. (printed.full ≡ false) × Appends sink.old sink.new printed.text)))
ok_of words source sink ended h e =
    only-one (λ order. OfInput order source.old (λ input. IsOkAnd (answer_of order input)
    (λ printed. (printed.full ≡ false) × Appends sink.old sink.new printed.text))) words source sink ended h (λ ran. ok_is ran e)

history_full_of : (words : Option Order) (source sink : Change) (ended : Status) → HasDone words source sink ended → ended ≡ status.HistoryFull
    → IfSome words (λ order. IsSingle order → OfInput order source.old (λ input. IsOkAnd (answer_of order input)
    (λ printed. (printed.full ≡ true) × Appends sink.old sink.new printed.text)))
history_full_of words source sink ended h e =
    only-one (λ order. OfInput order source.old (λ input. IsOkAnd (answer_of order input)
    (λ printed. (printed.full ≡ true) × Appends sink.old sink.new printed.text))) words source sink ended h (λ ran. history_full_is ran e)

front_of : (words : Option Order) (source sink : Change) (ended : Status) → HasDone words source sink ended → ended ≡ status.WriteFault
    → IfSome words (λ order. IsSingle order → OfInput order source.old (λ input. IsOkAnd (answer_of order input)
    (λ printed. AppendsFront sink.old sink.new printed.text)))
front_of words source sink ended h e =
    only-one (λ order. OfInput order source.old (λ input. IsOkAnd (answer_of order input)
    (λ printed. AppendsFront sink.old sink.new printed.text))) words source sink ended h (λ ran. front_is ran e)

pub headline_of : (words : Option Order) (source sink : Change) (ended : Status)
    → HasDone words source sink ended
    → ((order : Order) → words ≡ Some order → IsSingle order → Tells order)
    → (ended ≡ status.Ok) ⊎ (ended ≡ status.HistoryFull)
    → (order : Order) → words ≡ Some order
    → TellsAll order source sink ended
headline_of words source sink ended (ByThreads threads lock shape some is h) tells e order asks =
    told_by (λ n script shape. TellsHistory n script shape (ends_full ended) sink.old sink.new) threads lock shape order source.old
    (order_same order (Run threads lock shape) words is asks) (threads-told threads lock shape source sink ended e h)
headline_of words source sink ended (ByAudit shape is h) tells e order asks =
    subst (λ o. TellsAll o source sink ended) (order_same order (Audit shape) words is asks) tt
headline_of words source sink ended (ByOne single h) tells e order asks =
    headline_is h single (λ order asks. tells order asks (single order asks)) e order asks

pub headline_front_of : (words : Option Order) (source sink : Change) (ended : Status)
    → HasDone words source sink ended
    → ended ≡ status.WriteFault
    → (order : Order) → words ≡ Some order
    → Tells order
    → TellsSome order source sink
headline_front_of words source sink ended (ByThreads threads lock shape some is h) e order asks tells =
    told_by (λ n script shape. TellsFront n script shape sink.old sink.new) threads lock shape order source.old
    (order_same order (Run threads lock shape) words is asks) (threads-fronted threads lock shape source sink ended e h)
headline_front_of words source sink ended (ByAudit shape is h) e order asks tells =
    subst (λ o. TellsSome o source sink) (order_same order (Audit shape) words is asks) tt
headline_front_of words source sink ended (ByOne single h) e order asks tells =
    headline_front_is h e order asks (single order asks) tells

-- What was written passes an audit, where the report of the script that was played last does.
passing : (source sink : Change) (ended : Status) (order : Order) (o : Option Staging) (left : Option (List ℕ))
    → ((input : List ℕ) → IfSome o (λ staging. IsOkAnd (script_played order input) (λ script.
    TellsHistory staging.threads script staging.shape (ends_full ended) sink.old sink.new) → PassesAudit staging.shape sink.old sink.new))
    → IfSome o (λ staging. IfSome left (λ input. IsOkAnd (script_played order input) (λ script.
    TellsHistory staging.threads script staging.shape (ends_full ended) sink.old sink.new)))
    → IfSome o (λ staging. IfSome left (λ input. PassesAudit staging.shape sink.old sink.new))
passing source sink ended order None left law told = tt
passing source sink ended order (Some staging) None law told = tt
passing source sink ended order (Some staging) (Some input) law told = law input told

pub passes_of : (words : Option Order) (source sink : Change) (ended : Status)
    → HasDone words source sink ended
    → ((order : Order) → words ≡ Some order → IsSingle order → Tells order)
    → ((order : Order) → words ≡ Some order → (input : List ℕ) → IfSome (staging_of order) (λ staging.
    IsOkAnd (script_played order input) (λ script. TellsHistory staging.threads script staging.shape (ends_full ended) sink.old sink.new)
    → PassesAudit staging.shape sink.old sink.new))
    → (ended ≡ status.Ok) ⊎ (ended ≡ status.HistoryFull)
    → (order : Order) → words ≡ Some order
    → IfSome (staging_of order) (λ staging. IfSome source.old (λ input. PassesAudit staging.shape sink.old sink.new))
passes_of words source sink ended h tells law e order asks =
    passing source sink ended order (staging_of order) source.old (law order asks) (headline_of words source sink ended h tells e order asks)

bad_words_of : (words : Option Order) (source sink : Change) (ended : Status)
    → HasDone words source sink ended
    → (ended ≡ status.BadWords → words ≡ None) × (words ≡ None → ended ≡ status.BadWords)
bad_words_of words source sink ended (ByThreads threads lock shape some is h) =
    ((λ e. absurd (good-words (Run threads lock shape) source sink ended e h)), (λ e. absurd (cc (is, e))))
bad_words_of words source sink ended (ByAudit shape is h) =
    ((λ e. absurd (audit_words shape source sink ended e h)), (λ e. absurd (cc (is, e))))
bad_words_of words source sink ended (ByOne single h) =
    bad_words_is h

nothing_read_of : (words : Option Order) (source sink : Change) (ended : Status)
    → HasDone words source sink ended
    → ended ≡ status.BadWords
    → Keeps source.old source.new
nothing_read_of words source sink ended (ByThreads threads lock shape some is h) e =
    absurd (good-words (Run threads lock shape) source sink ended e h)
nothing_read_of words source sink ended (ByAudit shape is h) e =
    absurd (audit_words shape source sink ended e h)
nothing_read_of words source sink ended (ByOne single h) e =
    nothing_read_is h e

generates_of : (words : Option Order) (source sink : Change) (ended : Status)
    → HasDone words source sink ended
    → (number jobs pods : ℕ) → words ≡ Some (Generate number jobs pods)
    → Keeps source.old source.new
generates_of words source sink ended (ByThreads threads lock shape some is h) number jobs pods asks =
    absurd (cc (is, asks))
generates_of words source sink ended (ByAudit shape is h) number jobs pods asks =
    absurd (cc (is, asks))
generates_of words source sink ended (ByOne single h) number jobs pods asks =
    generates_is h number jobs pods asks

generates_only_of : (words : Option Order) (source sink : Change) (ended : Status)
    → HasDone words source sink ended
    → (number jobs pods : ℕ) → words ≡ Some (Generate number jobs pods)
    → EndsUnread ended
generates_only_of words source sink ended (ByThreads threads lock shape some is h) number jobs pods asks =
    absurd (cc (is, asks))
generates_only_of words source sink ended (ByAudit shape is h) number jobs pods asks =
    absurd (cc (is, asks))
generates_only_of words source sink ended (ByOne single h) number jobs pods asks =
    generates_only_is h number jobs pods asks

read_fault_of : (words : Option Order) (source sink : Change) (ended : Status)
    → HasDone words source sink ended
    → ended ≡ status.ReadFault
    → Rose source.faults_old source.faults_new
read_fault_of words source sink ended (ByThreads threads lock shape some is h) e =
    read-rose (Run threads lock shape) source sink ended e h
read_fault_of words source sink ended (ByAudit shape is h) e =
    audit_read shape source sink ended e h
read_fault_of words source sink ended (ByOne single h) e =
    read_fault_is h e

write_fault_of : (words : Option Order) (source sink : Change) (ended : Status)
    → HasDone words source sink ended
    → ended ≡ status.WriteFault
    → Rose sink.faults_old sink.faults_new
write_fault_of words source sink ended (ByThreads threads lock shape some is h) e =
    write-rose (Run threads lock shape) source sink ended e h
write_fault_of words source sink ended (ByAudit shape is h) e =
    audit_write shape source sink ended e h
write_fault_of words source sink ended (ByOne single h) e =
    write_fault_is h e

bad_script_of : (words : Option Order) (source sink : Change) (ended : Status)
    → HasDone words source sink ended
    → (line : ℕ) (cause : Cause) → ended ≡ status.BadScript line cause
    → IfSome words (λ order. OfInput order source.old (λ input.
    answer_of order input ≡ Err (record { number = line; cause = cause })))
bad_script_of words source sink ended (ByThreads threads lock shape some is h) line cause e =
    subst (λ o. IfSome o (λ order. OfInput order source.old (λ input.
    answer_of order input ≡ Err (record { number = line; cause = cause })))) (sym is)
    (bad-found (Run threads lock shape) source sink ended line cause e h)
bad_script_of words source sink ended (ByAudit shape is h) line cause e =
    absurd (audit_line shape source sink ended line cause e h)
bad_script_of words source sink ended (ByOne single h) line cause e =
    bad_script_is h line cause e

too_long_of : (words : Option Order) (source sink : Change) (ended : Status)
    → HasDone words source sink ended
    → ended ≡ status.TooLong
    → TakesCount source.old source.new (most_bytes + 1)
too_long_of words source sink ended (ByThreads threads lock shape some is h) e =
    long-taken (Run threads lock shape) source sink ended e h
too_long_of words source sink ended (ByAudit shape is h) e =
    audit_long shape source sink ended e h
too_long_of words source sink ended (ByOne single h) e =
    too_long_is h e

not_too_long_of : (words : Option Order) (source sink : Change) (ended : Status)
    → HasDone words source sink ended
    → (ended ≡ status.TooLong → ⊥)
    → TakesAtMost source.old source.new most_bytes
not_too_long_of words source sink ended (ByThreads threads lock shape some is h) short =
    most-taken (Run threads lock shape) source sink ended short h
not_too_long_of words source sink ended (ByAudit shape is h) short =
    audit_most shape source sink ended short h
not_too_long_of words source sink ended (ByOne single h) short =
    not_too_long_is h short

pub nothing_written_of : (words : Option Order) (source sink : Change) (ended : Status)
    → HasDone words source sink ended
    → (ended ≡ status.Ok → ⊥) → (ended ≡ status.HistoryFull → ⊥)
    → ((line : ℕ) → ended ≡ status.AuditNo line → ⊥) → (ended ≡ status.WriteFault → ⊥)
    → Keeps sink.old sink.new
nothing_written_of words source sink ended (ByThreads threads lock shape some is h) ok full unjudged none =
    none-written (Run threads lock shape) source sink ended ok full none h
nothing_written_of words source sink ended (ByAudit shape is h) ok full unjudged none =
    audit_kept shape source sink ended ok unjudged none h
nothing_written_of words source sink ended (ByOne single h) ok full unjudged none =
    nothing_written_is h ok full none

pub yes_of : (words : Option Order) (source sink : Change) (ended : Status)
    → HasDone words source sink ended
    → ((shape : Shape) (input : List ℕ) → words ≡ Some (Audit shape) → VerdictHolds shape input Yes → IsPromised shape input)
    → ended ≡ status.Ok
    → (shape : Shape) → words ≡ Some (Audit shape)
    → IfSome source.old (λ input. TellsVerdict shape input Yes sink.old sink.new × IsPromised shape input)
yes_of words source sink ended (ByThreads threads lock own some is h) keeps e shape asks =
    absurd (cc (is, asks))
yes_of words source sink ended (ByAudit own is h) keeps e shape asks =
    promised-too shape source.old sink.old sink.new (λ input says. keeps shape input asks says)
    (subst (λ (s : Shape). IfSome source.old (λ input. TellsVerdict s input Yes sink.old sink.new)) (same-shape words own shape is asks) (yes_said own source sink ended e h))
yes_of words source sink ended (ByOne single h) keeps e shape asks =
    absurd (single (Audit shape) asks)

pub no_of : (words : Option Order) (source sink : Change) (ended : Status)
    → HasDone words source sink ended
    → (line : ℕ) → ended ≡ status.AuditNo line
    → IfSome words (λ order. OfAudit order (λ shape. IfSome source.old (λ input. TellsVerdict shape input (No line) sink.old sink.new)))
no_of words source sink ended (ByThreads threads lock shape some is h) line e =
    absurd (no-line (Run threads lock shape) source sink ended line e h)
no_of words source sink ended (ByAudit shape is h) line e =
    of-audit words shape (λ shape. IfSome source.old (λ input. TellsVerdict shape input (No line) sink.old sink.new)) is
    (no_said shape source sink ended line e h)
no_of words source sink ended (ByOne single h) line e =
    absurd (no_audit_is h line e)

pub verdict_front_of : (words : Option Order) (source sink : Change) (ended : Status)
    → HasDone words source sink ended
    → ended ≡ status.WriteFault
    → (shape : Shape) → words ≡ Some (Audit shape)
    → IfSome source.old (λ input. TellsVerdictFront shape input sink.old sink.new)
verdict_front_of words source sink ended (ByThreads threads lock own some is h) e shape asks =
    absurd (cc (is, asks))
verdict_front_of words source sink ended (ByAudit own is h) e shape asks =
    subst (λ (s : Shape). IfSome source.old (λ input. TellsVerdictFront s input sink.old sink.new)) (same-shape words own shape is asks)
    (front_said own source sink ended e h)
verdict_front_of words source sink ended (ByOne single h) e shape asks =
    absurd (single (Audit shape) asks)

pub audit_not_full_of : (words : Option Order) (source sink : Change) (ended : Status)
    → HasDone words source sink ended
    → (shape : Shape) → words ≡ Some (Audit shape) → ended ≡ status.HistoryFull
    → ⊥
audit_not_full_of words source sink ended (ByThreads threads lock own some is h) shape asks e =
    cc (is, asks)
audit_not_full_of words source sink ended (ByAudit own is h) shape asks e =
    audit_full own source sink ended e h
audit_not_full_of words source sink ended (ByOne single h) shape asks e =
    single (Audit shape) asks

pub audit_no_script_of : (words : Option Order) (source sink : Change) (ended : Status)
    → HasDone words source sink ended
    → (shape : Shape) → words ≡ Some (Audit shape)
    → (line : ℕ) (cause : Cause) → ended ≡ status.BadScript line cause
    → ⊥
audit_no_script_of words source sink ended (ByThreads threads lock own some is h) shape asks line cause e =
    cc (is, asks)
audit_no_script_of words source sink ended (ByAudit own is h) shape asks line cause e =
    audit_line own source sink ended line cause e h
audit_no_script_of words source sink ended (ByOne single h) shape asks line cause e =
    single (Audit shape) asks

pub complete_audit_of : (words : Option Order) (source sink : Change) (ended : Status)
    → HasDone words source sink ended
    → (shape : Shape) → words ≡ Some (Audit shape)
    → ¬ Rose source.faults_old source.faults_new → ¬ Rose sink.faults_old sink.faults_new
    → IfSome source.old (λ input. length input ≤ most_bytes → IsAudited shape input ended ⊎ (ended ≡ status.Want))
complete_audit_of words source sink ended (ByThreads threads lock own some is h) shape asks quiet silent =
    absurd (cc (is, asks))
complete_audit_of words source sink ended (ByAudit own is h) shape asks quiet silent =
    subst (λ (s : Shape). IfSome source.old (λ input. length input ≤ most_bytes → IsAudited s input ended ⊎ (ended ≡ status.Want))) (same-shape words own shape is asks)
    (audit_ends own source sink ended quiet silent h)
complete_audit_of words source sink ended (ByOne single h) shape asks quiet silent =
    absurd (single (Audit shape) asks)

complete_of : (words : Option Order) (source sink : Change) (ended : Status) → HasDone words source sink ended
    → (order : Order) → words ≡ Some order → IsSingle order
    → ¬ Rose source.faults_old source.faults_new → ¬ Rose sink.faults_old sink.faults_new → OfInput order source.old (λ input. length input ≤ most_bytes
    → (ended ≡ status_of (answer_of order input)) ⊎ (ended ≡ status.Want))
complete_of words source sink ended h order asks alone quiet silent =
    one-of words source sink ended h order asks alone (OfInput order source.old (λ input. length input ≤ most_bytes
    → (ended ≡ status_of (answer_of order input)) ⊎ (ended ≡ status.Want)))
    (λ ran. complete_is ran order asks quiet silent)

pub complete_on_threads_of : (words : Option Order) (source sink : Change) (ended : Status)
    → HasDone words source sink ended
    → (threads : ℕ) (lock : LockKind) (shape : Shape) → words ≡ Some (Run threads lock shape) → 1 ≤ threads
    → ¬ Rose source.faults_old source.faults_new → ¬ Rose sink.faults_old sink.faults_new
    → IfSome source.old (λ input. length input ≤ most_bytes
    → MayEnd (script_of shape input) ended ⊎ (ended ≡ status.Want))
complete_on_threads_of words source sink ended (ByThreads count kind own some is h) threads lock shape asks many quiet silent =
    subst (λ (s : Shape). IfSome source.old (λ input. length input ≤ most_bytes
    → MayEnd (script_of s input) ended ⊎ (ended ≡ status.Want)))
    (same-run words count kind own threads lock shape is asks) (threads-end count kind own source sink ended quiet silent h)
complete_on_threads_of words source sink ended (ByAudit own is h) threads lock shape asks many quiet silent =
    absurd (cc (is, asks))
complete_on_threads_of words source sink ended (ByOne single h) threads lock shape asks many quiet silent =
    let zero = single (Run threads lock shape) asks in absurd (omega (arith, zero, many))

complete_generated_of : (words : Option Order) (source sink : Change) (ended : Status)
    → HasDone words source sink ended
    → (number jobs pods : ℕ) → words ≡ Some (Generate number jobs pods)
    → ¬ Rose sink.faults_old sink.faults_new
    → (ended ≡ status_of (answer_of (Generate number jobs pods) [])) ⊎ (ended ≡ status.Want)
complete_generated_of words source sink ended (ByThreads threads lock shape some is h) number jobs pods asks silent =
    absurd (cc (is, asks))
complete_generated_of words source sink ended (ByAudit shape is h) number jobs pods asks silent =
    absurd (cc (is, asks))
complete_generated_of words source sink ended (ByOne single h) number jobs pods asks silent =
    complete_generated_is h number jobs pods asks silent

complete_bad_script_of : (words : Option Order) (source sink : Change) (ended : Status)
    → HasDone words source sink ended
    → (order : Order) → words ≡ Some order
    → ¬ Rose source.faults_old source.faults_new
    → OfInput order source.old (EndsBad order ended)
complete_bad_script_of words source sink ended (ByThreads threads lock shape some is h) order asks quiet =
    subst (λ o. OfInput o source.old (EndsBad o ended)) (order_same order (Run threads lock shape) words is asks)
    (bad-ends (Run threads lock shape) source sink ended (threads-good threads lock shape) quiet h)
complete_bad_script_of words source sink ended (ByAudit shape is h) order asks quiet =
    none-bad words shape source.old ended is order asks
complete_bad_script_of words source sink ended (ByOne single h) order asks quiet =
    complete_bad_script_is h order asks quiet

complete_too_long_of : (words : Option Order) (source sink : Change) (ended : Status)
    → HasDone words source sink ended
    → (order : Order) → words ≡ Some order
    → ¬ Rose source.faults_old source.faults_new
    → OfInput order source.old (EndsLong ended)
complete_too_long_of words source sink ended (ByThreads threads lock shape some is h) order asks quiet =
    subst (λ o. OfInput o source.old (EndsLong ended)) (order_same order (Run threads lock shape) words is asks) (long-ends (Run threads lock shape) source sink ended quiet h)
complete_too_long_of words source sink ended (ByAudit shape is h) order asks quiet =
    subst (λ o. OfInput o source.old (EndsLong ended)) (order_same order (Audit shape) words is asks)
    (audit_ends_long shape source sink ended quiet h)
complete_too_long_of words source sink ended (ByOne single h) order asks quiet =
    complete_too_long_is h order asks quiet

-- So a run of the words has ended.
pub told_of : (words : Option Order) (source sink : Change) (ended : Status) → HasDone words source sink ended
    → EndsAsTold IsSingle words source sink ended
told_of words source sink ended h = record {
  ok = ok_of words source sink ended h;
  history_full = history_full_of words source sink ended h;
  front = front_of words source sink ended h;
  bad_words = bad_words_of words source sink ended h;
  nothing_read = nothing_read_of words source sink ended h;
  generates = generates_of words source sink ended h;
  generates_only = generates_only_of words source sink ended h;
  read_fault = read_fault_of words source sink ended h;
  write_fault = write_fault_of words source sink ended h;
  bad_script = bad_script_of words source sink ended h;
  too_long = too_long_of words source sink ended h;
  not_too_long = not_too_long_of words source sink ended h;
  complete = complete_of words source sink ended h;
  complete_generated = complete_generated_of words source sink ended h;
  complete_bad_script = complete_bad_script_of words source sink ended h;
  complete_too_long = complete_too_long_of words source sink ended h;
}
