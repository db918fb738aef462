-- What the ends of an audit tell of it.
use Rattle.std.proofs.Common.{◌≡◌, ℕ, ◌+◌, ◌≤◌, ◌⊎◌, inl, inr, List, length, Err, ap, subst, sym, true≢false, ◌∙◌}
use Rattle.std.specs.Prelude.{IfSome, is_ok}
use Rattle.std.specs.Io.KnownBytes.{Keeps}
use Rattle.jc_io.specs.Faults.{Rose}
use Rattle.jc_io.specs.Moved.{TakesAtMost, TakesCount}
use Rattle.jc_types.specs.declared.runs.Shape.{Shape}
use Rattle.jc_audit.specs.declared.verdicts.Verdict.TheVariants.{No, Yes}
use Rattle.jc_script.specs.Cause.{Cause}
use Rattle.jc_script.specs.Scripts.{BadLine, most_bytes}
use Rattle.jc_words.specs.declared.words.Order.TheVariants.{Audit}
use Rattle.jc_single.proofs.EndFacts.{EndsLong, good-words, is-whole, long-ends, long-taken, most-taken, no-line, read-rose, stopped-not-front, stopped-not-whole}
use Rattle.jc_single.proofs.RunFacts.{long_input, of_each, of_read, of_short}
use Rattle.jc_single.specs.RunEnds.{AtLength, AtLine, AtMemory, AtRead, Change, RunHasEnded, HasStopped, Stopped}
use Rattle.jc_single.specs.RunAnswers.{Printed, answer_of}
use Rattle.jc_single.specs.declared.status.Status.{Status}
use Rattle.jc_single.specs.declared.status.Status.TheVariants as status
use Rattle.jc_ctl.specs.Audited.{IsAudited, TellsVerdict, TellsVerdictFront}
use Rattle.jc_ctl.specs.Done.{HasAudited, Judged, Said, SaidFront, Unjudged, Unsaid}

pub audit-good : (shape : Shape) (input : List ℕ) (bad : BadLine) → answer_of (Audit shape) input ≡ Err bad → ⊥
unfolding answer_of
audit-good shape input bad e = true≢false (ap is_ok e)

abbrev Nothing : List ℕ → Printed → Type 0
Nothing input printed = ⊥

-- An audit that has nothing to write ends as a run that has nothing to.
as-ended : (shape : Shape) (source sink : Change) (ended : Status) → HasStopped (Audit shape) source ended → Keeps sink.old sink.new
    → RunHasEnded (Audit shape) source sink Nothing ended
as-ended shape source sink ended stopped kept = Stopped stopped kept

-- The verdict was written.
pub yes_said : (shape : Shape) (source sink : Change) (ended : Status)
    → ended ≡ status.Ok
    → HasAudited shape source sink ended → IfSome source.old (λ input. TellsVerdict shape input Yes sink.old sink.new)
yes_said shape source sink ended e (Judged input Yes read says (Said written is)) =
    of_read (λ input. TellsVerdict shape input Yes sink.old sink.new) source.old input read.all (record { says = says; written = written })
yes_said shape source sink ended e (Judged input (No other) read says (Said written is)) =
    absurd (cc (is, e))
yes_said shape source sink ended e (Judged input verdict read says (SaidFront front rose is)) =
    absurd (cc (is, e))
yes_said shape source sink ended e (Judged input verdict read says (Unsaid kept is)) =
    absurd (cc (is, e))
yes_said shape source sink ended e (Unjudged stopped kept) =
    absurd (true≢false (sym (ap is-whole e) ∙ stopped-not-whole stopped))

pub no_said : (shape : Shape) (source sink : Change) (ended : Status)
    (line : ℕ) → ended ≡ status.AuditNo line
    → HasAudited shape source sink ended → IfSome source.old (λ input. TellsVerdict shape input (No line) sink.old sink.new)
no_said shape source sink ended line e (Judged input Yes read says (Said written is)) =
    absurd (cc (is, e))
no_said shape source sink ended line e (Judged input (No other) read says (Said written is)) =
    let same : other ≡ line = cc (is, e) in
    of_read (λ input. TellsVerdict shape input (No line) sink.old sink.new) source.old input read.all
    (subst (λ n. TellsVerdict shape input (No n) sink.old sink.new) same (record { says = says; written = written }))
no_said shape source sink ended line e (Judged input verdict read says (SaidFront front rose is)) =
    absurd (cc (is, e))
no_said shape source sink ended line e (Judged input verdict read says (Unsaid kept is)) =
    absurd (cc (is, e))
no_said shape source sink ended line e (Unjudged stopped kept) =
    absurd (no-line (Audit shape) source sink ended line e (as-ended shape source sink ended stopped kept))

-- A front of it was.
pub front_said : (shape : Shape) (source sink : Change) (ended : Status)
    → ended ≡ status.WriteFault
    → HasAudited shape source sink ended → IfSome source.old (λ input. TellsVerdictFront shape input sink.old sink.new)
front_said shape source sink ended e (Judged input Yes read says (Said written is)) =
    absurd (cc (is, e))
front_said shape source sink ended e (Judged input (No other) read says (Said written is)) =
    absurd (cc (is, e))
front_said shape source sink ended e (Judged input verdict read says (SaidFront front rose is)) =
    of_read (λ input. TellsVerdictFront shape input sink.old sink.new) source.old input read.all
    (record { verdict = verdict; says = says; front = front })
front_said shape source sink ended e (Judged input verdict read says (Unsaid kept is)) =
    absurd (cc (is, e))
front_said shape source sink ended e (Unjudged stopped kept) =
    absurd (stopped-not-front stopped e)

-- Of an audit no words are bad, no script is, and no history is full.
pub audit_words : (shape : Shape) (source sink : Change) (ended : Status)
    → ended ≡ status.BadWords
    → HasAudited shape source sink ended → ⊥
audit_words shape source sink ended e (Judged input Yes read says (Said written is)) =
    absurd (cc (is, e))
audit_words shape source sink ended e (Judged input (No other) read says (Said written is)) =
    absurd (cc (is, e))
audit_words shape source sink ended e (Judged input verdict read says (SaidFront front rose is)) =
    absurd (cc (is, e))
audit_words shape source sink ended e (Judged input verdict read says (Unsaid kept is)) =
    absurd (cc (is, e))
audit_words shape source sink ended e (Unjudged stopped kept) =
    good-words (Audit shape) source sink ended e (as-ended shape source sink ended stopped kept)

pub audit_line : (shape : Shape) (source sink : Change) (ended : Status)
    (line : ℕ) (cause : Cause) → ended ≡ status.BadScript line cause
    → HasAudited shape source sink ended → ⊥
audit_line shape source sink ended line cause e (Judged input Yes read says (Said written is)) =
    absurd (cc (is, e))
audit_line shape source sink ended line cause e (Judged input (No other) read says (Said written is)) =
    absurd (cc (is, e))
audit_line shape source sink ended line cause e (Judged input verdict read says (SaidFront front rose is)) =
    absurd (cc (is, e))
audit_line shape source sink ended line cause e (Judged input verdict read says (Unsaid kept is)) =
    absurd (cc (is, e))
audit_line shape source sink ended line cause e (Unjudged (AtRead reads rose taken is) kept) =
    absurd (cc (is, e))
audit_line shape source sink ended line cause e (Unjudged (AtLength reads count is) kept) =
    absurd (cc (is, e))
audit_line shape source sink ended line cause e (Unjudged (AtLine input bad read answered is) kept) =
    audit-good shape input bad answered
audit_line shape source sink ended line cause e (Unjudged (AtMemory taken is) kept) =
    absurd (cc (is, e))

pub audit_full : (shape : Shape) (source sink : Change) (ended : Status)
    → ended ≡ status.HistoryFull
    → HasAudited shape source sink ended → ⊥
audit_full shape source sink ended e (Judged input Yes read says (Said written is)) =
    absurd (cc (is, e))
audit_full shape source sink ended e (Judged input (No other) read says (Said written is)) =
    absurd (cc (is, e))
audit_full shape source sink ended e (Judged input verdict read says (SaidFront front rose is)) =
    absurd (cc (is, e))
audit_full shape source sink ended e (Judged input verdict read says (Unsaid kept is)) =
    absurd (cc (is, e))
audit_full shape source sink ended e (Unjudged stopped kept) =
    absurd (true≢false (sym (ap is-whole e) ∙ stopped-not-whole stopped))

-- A call failed.
pub audit_read : (shape : Shape) (source sink : Change) (ended : Status)
    → ended ≡ status.ReadFault
    → HasAudited shape source sink ended → Rose source.faults_old source.faults_new
audit_read shape source sink ended e (Judged input Yes read says (Said written is)) =
    absurd (cc (is, e))
audit_read shape source sink ended e (Judged input (No other) read says (Said written is)) =
    absurd (cc (is, e))
audit_read shape source sink ended e (Judged input verdict read says (SaidFront front rose is)) =
    absurd (cc (is, e))
audit_read shape source sink ended e (Judged input verdict read says (Unsaid kept is)) =
    absurd (cc (is, e))
audit_read shape source sink ended e (Unjudged stopped kept) =
    read-rose (Audit shape) source sink ended e (as-ended shape source sink ended stopped kept)

pub audit_write : (shape : Shape) (source sink : Change) (ended : Status)
    → ended ≡ status.WriteFault
    → HasAudited shape source sink ended → Rose sink.faults_old sink.faults_new
audit_write shape source sink ended e (Judged input Yes read says (Said written is)) =
    absurd (cc (is, e))
audit_write shape source sink ended e (Judged input (No other) read says (Said written is)) =
    absurd (cc (is, e))
audit_write shape source sink ended e (Judged input verdict read says (SaidFront front rose is)) =
    rose
audit_write shape source sink ended e (Judged input verdict read says (Unsaid kept is)) =
    absurd (cc (is, e))
audit_write shape source sink ended e (Unjudged stopped kept) =
    absurd (stopped-not-front stopped e)

-- How much was taken.
pub audit_long : (shape : Shape) (source sink : Change) (ended : Status)
    → ended ≡ status.TooLong
    → HasAudited shape source sink ended → TakesCount source.old source.new (most_bytes + 1)
audit_long shape source sink ended e (Judged input Yes read says (Said written is)) =
    absurd (cc (is, e))
audit_long shape source sink ended e (Judged input (No other) read says (Said written is)) =
    absurd (cc (is, e))
audit_long shape source sink ended e (Judged input verdict read says (SaidFront front rose is)) =
    absurd (cc (is, e))
audit_long shape source sink ended e (Judged input verdict read says (Unsaid kept is)) =
    absurd (cc (is, e))
audit_long shape source sink ended e (Unjudged stopped kept) =
    long-taken (Audit shape) source sink ended e (as-ended shape source sink ended stopped kept)

pub audit_most : (shape : Shape) (source sink : Change) (ended : Status)
    → (ended ≡ status.TooLong → ⊥)
    → HasAudited shape source sink ended → TakesAtMost source.old source.new most_bytes
audit_most shape source sink ended short (Judged input verdict read says said) =
    read.taken.most
audit_most shape source sink ended short (Unjudged stopped kept) =
    most-taken (Audit shape) source sink ended short (as-ended shape source sink ended stopped kept)

-- Nothing was written.
pub audit_kept : (shape : Shape) (source sink : Change) (ended : Status)
    → (ended ≡ status.Ok → ⊥) → ((line : ℕ) → ended ≡ status.AuditNo line → ⊥) → (ended ≡ status.WriteFault → ⊥)
    → HasAudited shape source sink ended → Keeps sink.old sink.new
audit_kept shape source sink ended ok unjudged none (Judged input Yes read says (Said written is)) =
    absurd (ok is)
audit_kept shape source sink ended ok unjudged none (Judged input (No other) read says (Said written is)) =
    absurd (unjudged other is)
audit_kept shape source sink ended ok unjudged none (Judged input verdict read says (SaidFront front rose is)) =
    absurd (none is)
audit_kept shape source sink ended ok unjudged none (Judged input verdict read says (Unsaid kept is)) =
    kept
audit_kept shape source sink ended ok unjudged none (Unjudged stopped kept) =
    kept

-- Without a fault the verdict was written, or memory ran out.
pub audit_ends : (shape : Shape) (source sink : Change) (ended : Status)
    → ¬ Rose source.faults_old source.faults_new → ¬ Rose sink.faults_old sink.faults_new
    → HasAudited shape source sink ended → IfSome source.old (λ input. length input ≤ most_bytes → IsAudited shape input ended ⊎ (ended ≡ status.Want))
audit_ends shape source sink ended quiet silent (Judged input Yes read says (Said written is)) =
    of_read (λ input. length input ≤ most_bytes → IsAudited shape input ended ⊎ (ended ≡ status.Want)) source.old input read.all
    (λ few. inl (record { verdict = Yes; says = says; is = is }))
audit_ends shape source sink ended quiet silent (Judged input (No other) read says (Said written is)) =
    of_read (λ input. length input ≤ most_bytes → IsAudited shape input ended ⊎ (ended ≡ status.Want)) source.old input read.all
    (λ few. inl (record { verdict = No other; says = says; is = is }))
audit_ends shape source sink ended quiet silent (Judged input verdict read says (SaidFront front rose is)) =
    absurd (silent rose)
audit_ends shape source sink ended quiet silent (Judged input verdict read says (Unsaid kept is)) =
    of_each (λ input. length input ≤ most_bytes → IsAudited shape input ended ⊎ (ended ≡ status.Want)) (Audit shape) source.old (λ input few. inr is)
audit_ends shape source sink ended quiet silent (Unjudged (AtRead reads rose taken is) kept) =
    absurd (quiet rose)
audit_ends shape source sink ended quiet silent (Unjudged (AtLength reads count is) kept) =
    long_input (λ input. IsAudited shape input ended ⊎ (ended ≡ status.Want)) (Audit shape) source.old source.new reads count
audit_ends shape source sink ended quiet silent (Unjudged (AtLine input bad read answered is) kept) =
    absurd (audit-good shape input bad answered)
audit_ends shape source sink ended quiet silent (Unjudged (AtMemory taken is) kept) =
    of_each (λ input. length input ≤ most_bytes → IsAudited shape input ended ⊎ (ended ≡ status.Want)) (Audit shape) source.old (λ input few. inr is)

pub audit_ends_long : (shape : Shape) (source sink : Change) (ended : Status)
    → ¬ Rose source.faults_old source.faults_new
    → HasAudited shape source sink ended → IfSome source.old (EndsLong ended)
audit_ends_long shape source sink ended quiet (Judged input verdict read says said) =
    of_short (λ input. (ended ≡ status.TooLong) ⊎ (ended ≡ status.Want)) (Audit shape) source.old input read.all read.few
audit_ends_long shape source sink ended quiet (Unjudged stopped kept) =
    long-ends (Audit shape) source sink ended quiet (as-ended shape source sink ended stopped kept)
