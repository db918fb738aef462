-- What the ends of a run tell of it.
use Rattle.std.proofs.Common.{◌≡◌, ℕ, ◌+◌, ◌<◌, ◌≤◌, ◌⊎◌, inl, inr, Bool, true, false, List, [], length, Option, Some, None, Err, arith, ap, subst, sym, true≢false, ◌∙◌}
use Rattle.std.specs.Prelude.{if◌then◌else◌}
use Rattle.std.specs.Io.KnownBytes.{Appends, Keeps}
use Rattle.jc_io.specs.Faults.{Rose}
use Rattle.jc_io.specs.Moved.{AppendsFront, TakesAtMost, TakesCount}
use Rattle.jc_script.specs.Cause.{Cause}
use Rattle.jc_script.specs.Scripts.{BadLine, most_bytes}
use Rattle.jc_words.specs.declared.words.Order.{Order}
use Rattle.jc_words.specs.declared.words.Order.TheVariants.{Audit, Generate, Reap, Run}
use Rattle.jc_single.proofs.RunFacts.{bad_ends, ends_unread, full_is, generated_is_good, long_input, of_each, of_input, of_short}
use Rattle.jc_single.specs.RunEnds.{AtLength, AtLine, AtMemory, AtRead, Change, Front, RunHasEnded, HasStopped, InputIsRead, IsUnread, Stopped, Whole, Wrote}
use Rattle.jc_single.specs.RunAnswers.{EndsUnread, OfInput, Printed, answer_of}
use Rattle.jc_single.specs.Headlines.{ends_full}
use Rattle.jc_single.specs.declared.status.Status.{Status}
use Rattle.jc_single.specs.declared.status.Status.TheVariants as status

-- ---- ends that all was written in

abbrev pub whole : Bool → Status
whole full = if full then status.HistoryFull else status.Ok

abbrev pub is-whole : Status → Bool
is-whole status.Ok = true
is-whole status.HistoryFull = true
is-whole other = false

whole-is : (full : Bool) (ended : Status) → ended ≡ whole full → is-whole ended ≡ true
whole-is true ended e = ap is-whole e
whole-is false ended e = ap is-whole e

pub not-whole : (full : Bool) (ended : Status) → is-whole ended ≡ false → ended ≡ whole full → ⊥
not-whole full ended other e = true≢false (sym (whole-is full ended e) ∙ other)

-- A run that has written all ends in one of two ways.
one-whole : (full : Bool) (ended : Status) → ended ≡ whole full → (ended ≡ status.Ok → ⊥) → (ended ≡ status.HistoryFull → ⊥) → ⊥
one-whole true ended e ok full = full e
one-whole false ended e ok full = ok e

pub whole-of : (ended : Status) → (ended ≡ status.Ok) ⊎ (ended ≡ status.HistoryFull) → ended ≡ whole (ends_full ended)
whole-of ended (inl e) = e ∙ ap (λ s. whole (ends_full s)) (sym e)
whole-of ended (inr e) = e ∙ ap (λ s. whole (ends_full s)) (sym e)

pub stopped-not-whole : {order : Order} {source : Change} {ended : Status} → HasStopped order source ended → is-whole ended ≡ false
stopped-not-whole (AtRead reads rose taken is) = ap is-whole is
stopped-not-whole (AtLength reads count is) = ap is-whole is
stopped-not-whole (AtLine input bad read answered is) = ap is-whole is
stopped-not-whole (AtMemory taken is) = ap is-whole is

pub stopped-not-front : {order : Order} {source : Change} {ended : Status} → HasStopped order source ended → ended ≡ status.WriteFault → ⊥
stopped-not-front (AtRead reads rose taken is) e = cc (is, e)
stopped-not-front (AtLength reads count is) e = cc (is, e)
stopped-not-front (AtLine input bad read answered is) e = cc (is, e)
stopped-not-front (AtMemory taken is) e = cc (is, e)

-- ---- what each end tells

unread-good : (order : Order) (input : List ℕ) (bad : BadLine) → IsUnread order → answer_of order input ≡ Err bad → ⊥
unread-good (Generate number jobs pods) input bad unread answered = generated_is_good number jobs pods input bad answered
unread-good (Run threads lock shape) input bad unread answered = unread
unread-good (Reap shape) input bad unread answered = unread
unread-good (Audit shape) input bad unread answered = unread

-- The bad line of a status.
abbrev line-of : Status → BadLine → BadLine
line-of (status.BadScript number cause) other = record { number = number; cause = cause }
line-of ended other = other

-- How a run ends whose script is bad.
abbrev pub EndsBad : Order → Status → List ℕ → Type 0
EndsBad order ended input = length input ≤ most_bytes → (bad : BadLine) → answer_of order input ≡ Err bad
    → (ended ≡ status.BadScript bad.number bad.cause) ⊎ (ended ≡ status.Want)

-- How a run ends whose input is too long.
abbrev pub EndsLong : Status → List ℕ → Type 0
EndsLong ended input = most_bytes < length input → (ended ≡ status.TooLong) ⊎ (ended ≡ status.Want)

short-ends : (order : Order) (source : Change) (ended : Status) (input : List ℕ) → InputIsRead order source input
    → OfInput order source.old (EndsLong ended)
short-ends order source ended input read =
    of_short (λ input. (ended ≡ status.TooLong) ⊎ (ended ≡ status.Want)) order source.old input read.all read.few

-- A run that reads nothing ends as one.
pub unread-ends : {Holds : List ℕ → Printed → Type 0} (order : Order) (source sink : Change) (ended : Status)
    → IsUnread order
    → RunHasEnded order source sink Holds ended → EndsUnread ended
unread-ends order source sink ended unread (Wrote input printed read says (Whole written is)) =
    ends_unread printed.full ended is
unread-ends order source sink ended unread (Wrote input printed read says (Front front rose is)) =
    subst EndsUnread (sym is) tt
unread-ends order source sink ended unread (Stopped (AtRead reads rose taken is) kept) =
    absurd (reads unread)
unread-ends order source sink ended unread (Stopped (AtLength reads count is) kept) =
    absurd (reads unread)
unread-ends order source sink ended unread (Stopped (AtLine input bad read answered is) kept) =
    absurd (unread-good order input bad unread answered)
unread-ends order source sink ended unread (Stopped (AtMemory taken is) kept) =
    subst EndsUnread (sym is) tt

-- And takes nothing.
pub unread-kept : {Holds : List ℕ → Printed → Type 0} (order : Order) (source sink : Change) (ended : Status)
    → IsUnread order
    → RunHasEnded order source sink Holds ended → Keeps source.old source.new
unread-kept order source sink ended unread (Wrote input printed read says written) =
    read.taken.none unread
unread-kept order source sink ended unread (Stopped (AtRead reads rose taken is) kept) =
    taken.none unread
unread-kept order source sink ended unread (Stopped (AtLength reads count is) kept) =
    absurd (reads unread)
unread-kept order source sink ended unread (Stopped (AtLine input bad read answered is) kept) =
    read.taken.none unread
unread-kept order source sink ended unread (Stopped (AtMemory taken is) kept) =
    taken.none unread

-- Where there is an order the words are good.
pub good-words : {Holds : List ℕ → Printed → Type 0} (order : Order) (source sink : Change) (ended : Status)
    → ended ≡ status.BadWords
    → RunHasEnded order source sink Holds ended → ⊥
good-words order source sink ended e (Wrote input printed read says (Whole written is)) =
    absurd (not-whole printed.full ended (ap is-whole e) is)
good-words order source sink ended e (Wrote input printed read says (Front front rose is)) =
    absurd (cc (is, e))
good-words order source sink ended e (Stopped (AtRead reads rose taken is) kept) =
    absurd (cc (is, e))
good-words order source sink ended e (Stopped (AtLength reads count is) kept) =
    absurd (cc (is, e))
good-words order source sink ended e (Stopped (AtLine input bad read answered is) kept) =
    absurd (cc (is, e))
good-words order source sink ended e (Stopped (AtMemory taken is) kept) =
    absurd (cc (is, e))

-- No report was judged.
pub no-line : {Holds : List ℕ → Printed → Type 0} (order : Order) (source sink : Change) (ended : Status)
    (line : ℕ) → ended ≡ status.AuditNo line
    → RunHasEnded order source sink Holds ended → ⊥
no-line order source sink ended line e (Wrote input printed read says (Whole written is)) =
    absurd (not-whole printed.full ended (ap is-whole e) is)
no-line order source sink ended line e (Wrote input printed read says (Front front rose is)) =
    absurd (cc (is, e))
no-line order source sink ended line e (Stopped (AtRead reads rose taken is) kept) =
    absurd (cc (is, e))
no-line order source sink ended line e (Stopped (AtLength reads count is) kept) =
    absurd (cc (is, e))
no-line order source sink ended line e (Stopped (AtLine input bad read answered is) kept) =
    absurd (cc (is, e))
no-line order source sink ended line e (Stopped (AtMemory taken is) kept) =
    absurd (cc (is, e))

-- A call of the source failed.
pub read-rose : {Holds : List ℕ → Printed → Type 0} (order : Order) (source sink : Change) (ended : Status)
    → ended ≡ status.ReadFault
    → RunHasEnded order source sink Holds ended → Rose source.faults_old source.faults_new
read-rose order source sink ended e (Wrote input printed read says (Whole written is)) =
    absurd (not-whole printed.full ended (ap is-whole e) is)
read-rose order source sink ended e (Wrote input printed read says (Front front rose is)) =
    absurd (cc (is, e))
read-rose order source sink ended e (Stopped (AtRead reads rose taken is) kept) =
    rose
read-rose order source sink ended e (Stopped (AtLength reads count is) kept) =
    absurd (cc (is, e))
read-rose order source sink ended e (Stopped (AtLine input bad read answered is) kept) =
    absurd (cc (is, e))
read-rose order source sink ended e (Stopped (AtMemory taken is) kept) =
    absurd (cc (is, e))

-- A call of the sink failed.
pub write-rose : {Holds : List ℕ → Printed → Type 0} (order : Order) (source sink : Change) (ended : Status)
    → ended ≡ status.WriteFault
    → RunHasEnded order source sink Holds ended → Rose sink.faults_old sink.faults_new
write-rose order source sink ended e (Wrote input printed read says (Whole written is)) =
    absurd (not-whole printed.full ended (ap is-whole e) is)
write-rose order source sink ended e (Wrote input printed read says (Front front rose is)) =
    rose
write-rose order source sink ended e (Stopped stopped kept) =
    absurd (stopped-not-front stopped e)

-- One byte more was taken than an input may have.
pub long-taken : {Holds : List ℕ → Printed → Type 0} (order : Order) (source sink : Change) (ended : Status)
    → ended ≡ status.TooLong
    → RunHasEnded order source sink Holds ended → TakesCount source.old source.new (most_bytes + 1)
long-taken order source sink ended e (Wrote input printed read says (Whole written is)) =
    absurd (not-whole printed.full ended (ap is-whole e) is)
long-taken order source sink ended e (Wrote input printed read says (Front front rose is)) =
    absurd (cc (is, e))
long-taken order source sink ended e (Stopped (AtRead reads rose taken is) kept) =
    absurd (cc (is, e))
long-taken order source sink ended e (Stopped (AtLength reads count is) kept) =
    count
long-taken order source sink ended e (Stopped (AtLine input bad read answered is) kept) =
    absurd (cc (is, e))
long-taken order source sink ended e (Stopped (AtMemory taken is) kept) =
    absurd (cc (is, e))

-- At no other end so many were.
pub most-taken : {Holds : List ℕ → Printed → Type 0} (order : Order) (source sink : Change) (ended : Status)
    → (ended ≡ status.TooLong → ⊥)
    → RunHasEnded order source sink Holds ended → TakesAtMost source.old source.new most_bytes
most-taken order source sink ended short (Wrote input printed read says written) =
    read.taken.most
most-taken order source sink ended short (Stopped (AtRead reads rose taken is) kept) =
    taken.most
most-taken order source sink ended short (Stopped (AtLength reads count is) kept) =
    absurd (short is)
most-taken order source sink ended short (Stopped (AtLine input bad read answered is) kept) =
    read.taken.most
most-taken order source sink ended short (Stopped (AtMemory taken is) kept) =
    taken.most

-- Nothing was written.
pub none-written : {Holds : List ℕ → Printed → Type 0} (order : Order) (source sink : Change) (ended : Status)
    → (ended ≡ status.Ok → ⊥) → (ended ≡ status.HistoryFull → ⊥) → (ended ≡ status.WriteFault → ⊥)
    → RunHasEnded order source sink Holds ended → Keeps sink.old sink.new
none-written order source sink ended ok full none (Wrote input printed read says (Whole written is)) =
    absurd (one-whole printed.full ended is ok full)
none-written order source sink ended ok full none (Wrote input printed read says (Front front rose is)) =
    absurd (none is)
none-written order source sink ended ok full none (Stopped stopped kept) =
    kept

-- The line is bad.
pub bad-found : {Holds : List ℕ → Printed → Type 0} (order : Order) (source sink : Change) (ended : Status)
    (number : ℕ) (cause : Cause) → ended ≡ status.BadScript number cause
    → RunHasEnded order source sink Holds ended → OfInput order source.old (λ input. answer_of order input ≡ Err (record { number = number; cause = cause }))
bad-found order source sink ended number cause e (Wrote input printed read says (Whole written is)) =
    absurd (not-whole printed.full ended (ap is-whole e) is)
bad-found order source sink ended number cause e (Wrote input printed read says (Front front rose is)) =
    absurd (cc (is, e))
bad-found order source sink ended number cause e (Stopped (AtRead reads rose taken is) kept) =
    absurd (cc (is, e))
bad-found order source sink ended number cause e (Stopped (AtLength reads count is) kept) =
    absurd (cc (is, e))
bad-found order source sink ended number cause e (Stopped (AtLine input bad read answered is) kept) =
    of_input (λ input. answer_of order input ≡ Err (record { number = number; cause = cause })) order source.old input read.all
    (subst (λ (b : BadLine). answer_of order input ≡ Err b) (ap (λ s. line-of s bad) (sym is ∙ e)) answered)
bad-found order source sink ended number cause e (Stopped (AtMemory taken is) kept) =
    absurd (cc (is, e))

-- A bad script ends so without a fault of the source, or memory ran out.
pub bad-ends : {Holds : List ℕ → Printed → Type 0} (order : Order) (source sink : Change) (ended : Status)
    → ((input : List ℕ) (printed : Printed) → Holds input printed → (bad : BadLine) → answer_of order input ≡ Err bad → ⊥)
    → ¬ Rose source.faults_old source.faults_new
    → RunHasEnded order source sink Holds ended → OfInput order source.old (EndsBad order ended)
bad-ends order source sink ended good quiet (Wrote input printed read says written) =
    of_input (EndsBad order ended) order source.old input read.all (λ few bad is. absurd (good input printed says bad is))
bad-ends order source sink ended good quiet (Stopped (AtRead reads rose taken is) kept) =
    absurd (quiet rose)
bad-ends order source sink ended good quiet (Stopped (AtLength reads count is) kept) =
    long_input (λ input. (bad : BadLine) → answer_of order input ≡ Err bad
    → (ended ≡ status.BadScript bad.number bad.cause) ⊎ (ended ≡ status.Want)) order source.old source.new reads count
bad-ends order source sink ended good quiet (Stopped (AtLine input bad read answered is) kept) =
    of_input (EndsBad order ended) order source.old input read.all
    (λ few other e. inl (is ∙ bad_ends (answer_of order input) bad other answered e))
bad-ends order source sink ended good quiet (Stopped (AtMemory taken is) kept) =
    of_each (EndsBad order ended) order source.old (λ input few bad e. inr is)

-- So does too long an input.
pub long-ends : {Holds : List ℕ → Printed → Type 0} (order : Order) (source sink : Change) (ended : Status)
    → ¬ Rose source.faults_old source.faults_new
    → RunHasEnded order source sink Holds ended → OfInput order source.old (EndsLong ended)
long-ends order source sink ended quiet (Wrote input printed read says written) =
    short-ends order source ended input read
long-ends order source sink ended quiet (Stopped (AtRead reads rose taken is) kept) =
    absurd (quiet rose)
long-ends order source sink ended quiet (Stopped (AtLength reads count is) kept) =
    of_each (EndsLong ended) order source.old (λ input long. inl is)
long-ends order source sink ended quiet (Stopped (AtLine input bad read answered is) kept) =
    short-ends order source ended input read
long-ends order source sink ended quiet (Stopped (AtMemory taken is) kept) =
    of_each (EndsLong ended) order source.old (λ input long. inr is)

-- All was written.
pub all-written : {Holds : List ℕ → Printed → Type 0} (order : Order) (source sink : Change) (ended : Status)
    (full : Bool) (P : List ℕ → Type 0)
    → ((input : List ℕ) (printed : Printed) → Holds input printed → printed.full ≡ full
    → Appends sink.old sink.new printed.text → P input) → ended ≡ whole full
    → RunHasEnded order source sink Holds ended → OfInput order source.old P
all-written order source sink ended full P more e (Wrote input printed read says (Whole written is)) =
    of_input P order source.old input read.all
    (more input printed says (sym (full_is printed.full ended is) ∙ full_is full ended e) written)
all-written order source sink ended full P more e (Wrote input printed read says (Front front rose is)) =
    absurd (not-whole full ended (ap is-whole is) e)
all-written order source sink ended full P more e (Stopped stopped kept) =
    absurd (not-whole full ended (stopped-not-whole stopped) e)

-- A front of it was.
pub front-written : {Holds : List ℕ → Printed → Type 0} (order : Order) (source sink : Change) (ended : Status)
    (P : List ℕ → Type 0)
    → ((input : List ℕ) (printed : Printed) → Holds input printed
    → AppendsFront sink.old sink.new printed.text → P input) → ended ≡ status.WriteFault
    → RunHasEnded order source sink Holds ended → OfInput order source.old P
front-written order source sink ended P more e (Wrote input printed read says (Whole written is)) =
    absurd (not-whole printed.full ended (ap is-whole e) is)
front-written order source sink ended P more e (Wrote input printed read says (Front front rose is)) =
    of_input P order source.old input read.all (more input printed says front)
front-written order source sink ended P more e (Stopped stopped kept) =
    absurd (stopped-not-front stopped e)

-- Without a fault it has ended as the answer says, or memory ran out. Of an order that reads nothing no fault of the
-- source counts.
pub quiet-ends : {Holds : List ℕ → Printed → Type 0} (order : Order) (source sink : Change) (ended : Status)
    (P : List ℕ → Type 0)
    → ((input : List ℕ) (printed : Printed) → Holds input printed → ended ≡ whole printed.full → P input)
    → ((input : List ℕ) (bad : BadLine) → answer_of order input ≡ Err bad → ended ≡ status.BadScript bad.number bad.cause → P input)
    → (ended ≡ status.Want → (input : List ℕ) → P input)
    → (¬ IsUnread order → ¬ Rose source.faults_old source.faults_new) → ¬ Rose sink.faults_old sink.faults_new
    → RunHasEnded order source sink Holds ended → OfInput order source.old (λ input. length input ≤ most_bytes → P input)
quiet-ends order source sink ended P good wrong want quiet silent (Wrote input printed read says (Whole written is)) =
    of_input (λ input. length input ≤ most_bytes → P input) order source.old input read.all
    (λ few. good input printed says is)
quiet-ends order source sink ended P good wrong want quiet silent (Wrote input printed read says (Front front rose is)) =
    absurd (silent rose)
quiet-ends order source sink ended P good wrong want quiet silent (Stopped (AtRead reads rose taken is) kept) =
    absurd (quiet reads rose)
quiet-ends order source sink ended P good wrong want quiet silent (Stopped (AtLength reads count is) kept) =
    long_input P order source.old source.new reads count
quiet-ends order source sink ended P good wrong want quiet silent (Stopped (AtLine input bad read answered is) kept) =
    of_input (λ input. length input ≤ most_bytes → P input) order source.old input read.all
    (λ few. wrong input bad answered is)
quiet-ends order source sink ended P good wrong want quiet silent (Stopped (AtMemory taken is) kept) =
    of_each (λ input. length input ≤ most_bytes → P input) order source.old (λ input few. want is input)

-- Where nothing was taken, no more was than an input may have.
pub none-taken : (old new : Option (List ℕ)) → Keeps old new → TakesAtMost old new most_bytes
none-taken None new kept = record { taken = []; consumes = tt; within = omega arith }
none-taken (Some xs) None kept = absurd kept
none-taken (Some xs) (Some ys) kept = record { taken = []; consumes = sym kept; within = omega arith }
