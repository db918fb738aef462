-- What a run of the program has done, by how it has ended.
--     IsPlayedBy threads shape input printed   this is the report of a play on threads
--     HasJudged shape source judged            there is a verdict, or the run has ended with nothing to write
--     HasSaid verdict sink ended               the run has ended in writing a verdict
--     HasAudited shape source sink ended       so has an audit
--     HasDone words source sink ended          so has a run of these words
--     ProgramRun                               a run of the program, with its words, its source, its sink and its end
--     MeetsNoFault run                         no call of its source or its sink fails
use Rattle.std.specs.Prelude.{◌≡◌, ℕ, ◌≤◌, List, Option, Some, Result, Ok, Err, IsOkAnd}
use Rattle.std.specs.Io.KnownBytes.{Appends, Keeps}
use Rattle.jc_io.specs.Moved.{AppendsFront}
use Rattle.jc_types.specs.declared.runs.Shape.{Shape}
use Rattle.jc_audit.specs.Audits.{VerdictHolds}
use Rattle.jc_audit.specs.declared.verdicts.Verdict.{Verdict}
use Rattle.jc_script.specs.Scripts.{script_of}
use Rattle.jc_words.specs.declared.words.LockKind.{LockKind}
use Rattle.jc_words.specs.declared.words.Order.{Order}
use Rattle.jc_words.specs.declared.words.Order.TheVariants as order
use Rattle.jc_single.specs.RunEnds.{Change, HasFailed, RunHasEnded, HasRun, HasStopped, InputIsRead}
use Rattle.jc_single.specs.RunAnswers.{IsSingle, Printed}
use Rattle.jc_single.specs.Headlines.{IsReport}
use Rattle.jc_single.specs.declared.status.Status.{Status}
use Rattle.jc_single.specs.declared.status.Status.TheVariants as status
use Rattle.jc_ctl.specs.Audited.{verdict_status, verdict_text}

-- It is the report of a history of the script that the input says, as threads play it.
abbrev pub IsPlayedBy : ℕ → Shape → List ℕ → Printed → Type 0
IsPlayedBy threads shape input printed =
    IsOkAnd (script_of shape input) (λ commands.
    IsReport threads (record { commands = commands }) shape printed.full printed.text)

-- All was read and judged, or the run has ended.
abbrev pub HasJudged : Shape → Change → Result Verdict Status → Type 0
HasJudged shape source (Ok verdict) =
    (input : List ℕ) × InputIsRead (order.Audit shape) source input × VerdictHolds shape input verdict
HasJudged shape source (Err ended) = HasStopped (order.Audit shape) source ended

-- The verdict was written; or a call of the sink failed behind a front of it; or there was no memory for its text.
pub data HasSaid (verdict : Verdict) (sink : Change) (ended : Status) : Type 0 where
  Said : Appends sink.old sink.new (verdict_text verdict) → ended ≡ verdict_status verdict → HasSaid verdict sink ended
  SaidFront : AppendsFront sink.old sink.new (verdict_text verdict) → HasFailed sink
      → ended ≡ status.WriteFault → HasSaid verdict sink ended
  Unsaid : Keeps sink.old sink.new → ended ≡ status.Want → HasSaid verdict sink ended

-- There was a verdict to write, or there was none, and nothing was written.
pub data HasAudited (shape : Shape) (source sink : Change) (ended : Status) : Type 0 where
  Judged : (input : List ℕ) (verdict : Verdict) → InputIsRead (order.Audit shape) source input → VerdictHolds shape input verdict → HasSaid verdict sink ended
      → HasAudited shape source sink ended
  Unjudged : HasStopped (order.Audit shape) source ended → Keeps sink.old sink.new → HasAudited shape source sink ended

-- The words ask for a run on threads, for an audit, or for none of both.
pub data HasDone (words : Option Order) (source sink : Change) (ended : Status) : Type 0 where
  ByThreads : (threads : ℕ) (lock : LockKind) (shape : Shape) → 1 ≤ threads → words ≡ Some (order.Run threads lock shape)
      → RunHasEnded (order.Run threads lock shape) source sink (IsPlayedBy threads shape) ended
      → HasDone words source sink ended
  ByAudit : (shape : Shape) → words ≡ Some (order.Audit shape) → HasAudited shape source sink ended
      → HasDone words source sink ended
  ByOne : ((order : Order) → words ≡ Some order → IsSingle order) → HasRun words source sink ended
      → HasDone words source sink ended

-- A run of the program: its words, what its source and its sink tell before and after, and how it has ended.
pub record ProgramRun : Type 0 where
  pub words : Option Order
  pub source : Change
  pub sink : Change
  pub ended : Status
  pub has_done : HasDone words source sink ended

-- No call of its source or of its sink fails.
pub record MeetsNoFault (run : ProgramRun) : Type 0 where
  pub source : ¬ HasFailed run.source
  pub sink : ¬ HasFailed run.sink
