-- What a run has read, and how it has ended.
use Rattle.std.proofs.Common.{◌≡◌, ℕ, ◌+◌, ◌<◌, ◌≤◌, Bool, true, false, List, [], length, Option, Some, None, Result, Ok, Err, arith, ap, subst, sym, true≢false, ◌∙◌}
use Rattle.std.proofs.lemmas.List.{length-append}
use Rattle.std.specs.Prelude.{IfSome, IsOkAnd, if◌then◌else◌, is_ok}
use Rattle.std.specs.Io.KnownBytes.{Appends, Consumes}
use Rattle.jc_io.specs.Moved.{AppendsFront, TakesCount}
use Rattle.jc_types.specs.declared.actions.Command.{Command}
use Rattle.jc_types.specs.declared.actions.Script.{Script}
use Rattle.jc_types.specs.declared.runs.Shape.{Shape}
use Rattle.jc_script.specs.Scripts.{BadLine, most_bytes, script_of}
use Rattle.jc_words.specs.declared.words.LockKind.{LockKind}
use Rattle.jc_words.specs.declared.words.Order.{Order}
use Rattle.jc_words.specs.declared.words.Order.TheVariants.{Audit, Generate, Reap, Run}
use Rattle.jc_single.specs.declared.status.Status.{Status}
use Rattle.jc_single.specs.declared.status.Status.TheVariants as status
use Rattle.jc_single.specs.RunEnds.{IsUnread}
use Rattle.jc_single.specs.Played.{as_script, script_played, staging_of}
use Rattle.jc_single.specs.RunAnswers.{EndsUnread, IsSingle, OfInput, Printed, answer_of}
use Rattle.jc_single.specs.Headlines.{IsReport, TellsFront, TellsHistory, ends_full}

-- The order that the words ask for is the one.
pub order_same : (asked given : Order) (o : Option Order) → o ≡ Some given → o ≡ Some asked → given ≡ asked
order_same asked given o is e = ap (λ x. elim x as (λ x. Order) [ None ↦ asked | Some y ↦ y ]) (sym is ∙ e)

-- What is taken of the source is a front of what it has left.
front-taken : (A : List ℕ → Type 0) (left new : Option (List ℕ)) (taken : List ℕ) → length taken ≡ most_bytes + 1
    → Consumes left new taken → IfSome left (λ input. length input ≤ most_bytes → A input)
front-taken A None new taken count k = tt
front-taken A (Some xs) None taken count k = absurd k
front-taken A (Some xs) (Some ys) taken count k = λ few.
    let long = ap length k ∙ length-append taken ys in
    absurd (omega (arith, long, count, few))

-- An input of which too much was taken is longer than it may be.
pub long_input : (A : List ℕ → Type 0) (order : Order) (left new : Option (List ℕ))
    → ¬ IsUnread order → TakesCount left new (most_bytes + 1)
    → OfInput order left (λ input. length input ≤ most_bytes → A input)
long_input A (Generate number jobs pods) left new reads takes = absurd (reads tt)
long_input A (Run threads lock shape) left new reads takes = front-taken A left new takes.taken takes.counted takes.consumes
long_input A (Reap shape) left new reads takes = front-taken A left new takes.taken takes.counted takes.consumes
long_input A (Audit shape) left new reads takes = front-taken A left new takes.taken takes.counted takes.consumes

-- What holds of the bytes that were read holds of the input.
pub of_read : (A : List ℕ → Type 0) (left : Option (List ℕ)) (bytes : List ℕ)
    → IfSome left (λ input. input ≡ bytes) → A bytes → IfSome left A
of_read A None bytes all a = tt
of_read A (Some input) bytes all a = subst A (sym all) a

pub of_input : (A : List ℕ → Type 0) (order : Order) (left : Option (List ℕ)) (bytes : List ℕ)
    → OfInput order left (λ input. input ≡ bytes) → A bytes → OfInput order left A
of_input A (Generate number jobs pods) left bytes all a = subst A (sym all) a
of_input A (Run threads lock shape) left bytes all a = of_read A left bytes all a
of_input A (Reap shape) left bytes all a = of_read A left bytes all a
of_input A (Audit shape) left bytes all a = of_read A left bytes all a

-- What holds of no input that could be read holds of none.
pub of_short : (A : List ℕ → Type 0) (order : Order) (left : Option (List ℕ)) (bytes : List ℕ)
    → OfInput order left (λ input. input ≡ bytes) → length bytes ≤ most_bytes
    → OfInput order left (λ input. most_bytes < length input → A input)
of_short A (Generate number jobs pods) left bytes all few = λ long. absurd (omega (arith, long))
of_short A (Run threads lock shape) left bytes all few =
    of_read (λ input. most_bytes < length input → A input) left bytes all (λ long. absurd (omega (arith, long, few)))
of_short A (Reap shape) left bytes all few =
    of_read (λ input. most_bytes < length input → A input) left bytes all (λ long. absurd (omega (arith, long, few)))
of_short A (Audit shape) left bytes all few =
    of_read (λ input. most_bytes < length input → A input) left bytes all (λ long. absurd (omega (arith, long, few)))

-- What holds of each input holds of that of an order.
pub of_each : (A : List ℕ → Type 0) (order : Order) (left : Option (List ℕ)) → ((input : List ℕ) → A input) → OfInput order left A
of_each A (Generate number jobs pods) left each = each []
of_each A (Run threads lock shape) None each = tt
of_each A (Run threads lock shape) (Some input) each = each input
of_each A (Reap shape) None each = tt
of_each A (Reap shape) (Some input) each = each input
of_each A (Audit shape) None each = tt
of_each A (Audit shape) (Some input) each = each input

-- The status tells whether the history is full.
pub full_is : (full : Bool) (ended : Status) → ended ≡ (if full then status.HistoryFull else status.Ok) → ends_full ended ≡ full
full_is true ended e = ap ends_full e
full_is false ended e = ap ends_full e

-- A run that has written all may have read nothing.
pub ends_unread : (full : Bool) (ended : Status) → ended ≡ (if full then status.HistoryFull else status.Ok) → EndsUnread ended
ends_unread true ended e = subst EndsUnread (sym e) tt
ends_unread false ended e = subst EndsUnread (sym e) tt

-- What is printed is no bad line.
pub not_bad : (answer : Result Printed BadLine) (printed : Printed) (bad : BadLine) → answer ≡ Ok printed → answer ≡ Err bad → ⊥
not_bad answer printed bad e is = true≢false (ap is_ok (sym e ∙ is))

-- A generated script has no bad line.
pub generated_is_good : (number jobs pods : ℕ) (input : List ℕ) (bad : BadLine) → answer_of (Generate number jobs pods) input ≡ Err bad → ⊥
unfolding answer_of
generated_is_good number jobs pods input bad e = true≢false (ap is_ok e)

bad-in : Result Printed BadLine → BadLine → BadLine
bad-in (Ok printed) other = other
bad-in (Err bad) other = bad

-- A bad line is one.
pub same_bad : (answer : Result Printed BadLine) (one other : BadLine) → answer ≡ Err one → answer ≡ Err other → one ≡ other
unfolding bad-in
same_bad answer one other e is = ap (λ r. bad-in r other) (sym e ∙ is)

-- A run ends so that has found it.
pub bad_ends : (answer : Result Printed BadLine) (one other : BadLine) → answer ≡ Err one → answer ≡ Err other
    → status.BadScript one.number one.cause ≡ status.BadScript other.number other.cause
bad_ends answer one other e is = ap (λ (bad : BadLine). status.BadScript bad.number bad.cause) (same_bad answer one other e is)

-- What holds of the script gives more of it.
of_script : (P Q : Script → Type 0) (r : Result Script BadLine) → ((script : Script) → P script → Q script) → IsOkAnd r P → IsOkAnd r Q
of_script P Q (Ok script) more h = more script h
of_script P Q (Err bad) more h = h

-- What is told of a report of the script on one thread is told of the input, of an order that is played on one.
of_staging : (P : Script → Shape → Type 0) (Q : ℕ → Script → Shape → Type 0) (order : Order) (left : Option (List ℕ)) (bytes : List ℕ)
    → ((script : Script) (shape : Shape) → P script shape → Q 0 script shape) → IsSingle order
    → OfInput order left (λ input. input ≡ bytes)
    → IfSome (staging_of order) (λ staging. IsOkAnd (script_played order bytes) (λ script. P script staging.shape))
    → IfSome (staging_of order) (λ staging. IfSome left (λ input.
    IsOkAnd (script_played order input) (λ script. Q staging.threads script staging.shape)))
of_staging P Q (Generate number jobs pods) left bytes more single all h = tt
of_staging P Q (Audit shape) left bytes more single all h = tt
of_staging P Q (Run threads lock shape) left bytes more single all h =
    let order = Run threads lock shape in
    of_read (λ input. IsOkAnd (script_played order input) (λ script. Q threads script shape)) left bytes all
    (of_script (λ script. P script shape) (λ script. Q threads script shape) (script_played order bytes)
    (λ script p. subst (λ n. Q n script shape) (sym single) (more script shape p)) h)
of_staging P Q (Reap shape) left bytes more single all h =
    let order = Reap shape in
    of_read (λ input. IsOkAnd (script_played order input) (λ script. Q 0 script shape)) left bytes all
    (of_script (λ script. P script shape) (λ script. Q 0 script shape) (script_played order bytes) (λ script p. more script shape p) h)

-- A report that was written is told.
pub told : (order : Order) (left : Option (List ℕ)) (input : List ℕ) (full : Bool) (ended : Status) (text bytes : List ℕ)
    (old new : Option (List ℕ)) → IsSingle order → OfInput order left (λ other. other ≡ input)
    → ended ≡ (if full then status.HistoryFull else status.Ok) → bytes ≡ text → Appends old new bytes
    → IfSome (staging_of order) (λ staging. IsOkAnd (script_played order input) (λ script. IsReport 0 script staging.shape full text))
    → IfSome (staging_of order) (λ staging. IfSome left (λ input. IsOkAnd (script_played order input) (λ script.
    TellsHistory staging.threads script staging.shape (ends_full ended) old new)))
told order left input full ended text bytes old new single all ends value written =
    of_staging (λ script shape. IsReport 0 script shape full text)
    (λ threads script shape. TellsHistory threads script shape (ends_full ended) old new) order left input
    (λ script shape report. record {
      text = text;
      report = subst (λ f. IsReport 0 script shape f text) (sym (full_is full ended ends)) report;
      written = subst (Appends old new) value written;
    }) single all

-- And one of which the front was written.
pub fronted : (order : Order) (left : Option (List ℕ)) (input : List ℕ) (full : Bool) (text bytes : List ℕ)
    (old new : Option (List ℕ)) → IsSingle order → OfInput order left (λ other. other ≡ input)
    → bytes ≡ text → AppendsFront old new bytes
    → IfSome (staging_of order) (λ staging. IsOkAnd (script_played order input) (λ script. IsReport 0 script staging.shape full text))
    → IfSome (staging_of order) (λ staging. IfSome left (λ input. IsOkAnd (script_played order input) (λ script.
    TellsFront staging.threads script staging.shape old new)))
fronted order left input full text bytes old new single all value front =
    of_staging (λ script shape. IsReport 0 script shape full text)
    (λ threads script shape. TellsFront threads script shape old new) order left input
    (λ script shape report. record {
      full = full;
      text = text;
      report = report;
      front = subst (AppendsFront old new) value front;
    }) single all

-- ---- on threads

-- What holds of the commands that a text says holds of their script.
pub as_commands : (P : Script → Type 0) (r : Result (List Command) BadLine) → IsOkAnd r (λ commands. P (record { commands = commands }))
    → IsOkAnd (as_script r) P
as_commands P (Ok commands) h = h
as_commands P (Err bad) h = h

-- What a run on threads tells of the script in the input is told of the words.
pub told_by : (P : ℕ → Script → Shape → Type 0) (threads : ℕ) (lock : LockKind) (shape : Shape) (order : Order) (left : Option (List ℕ))
    → Run threads lock shape ≡ order
    → IfSome left (λ input. IsOkAnd (script_of shape input) (λ commands. P threads (record { commands = commands }) shape))
    → IfSome (staging_of order) (λ staging. IfSome left (λ input. IsOkAnd (script_played order input) (λ script.
    P staging.threads script staging.shape)))
told_by P threads lock shape order left same h =
    subst (λ o. IfSome (staging_of o) (λ staging. IfSome left (λ input. IsOkAnd (script_played o input) (λ script.
    P staging.threads script staging.shape)))) same (by left h)
  where
    by : (left : Option (List ℕ))
        → IfSome left (λ input. IsOkAnd (script_of shape input) (λ commands. P threads (record { commands = commands }) shape))
        → IfSome left (λ input. IsOkAnd (as_script (script_of shape input)) (λ script. P threads script shape))
    by None h = tt
    by (Some input) h = as_commands (λ script. P threads script shape) (script_of shape input) h
