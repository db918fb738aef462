-- What an audit of a report says.
--     verdict_text verdict             what is written of it
--     verdict_status verdict           how a run ends that has written it
--     OfAudit order P                  the order is an audit, of whose shape P holds
--     IsAudited shape input status     so the run is to end
--     TellsVerdict shape input verdict old new    it is the verdict on the input, and was written
--     TellsVerdictFront shape input old new       the front of a verdict on the input was
--     IsPromised shape input           all promises hold of the history that the input tells
--     PassesAudit shape old new        what the sink was given is what an audit says yes to
use Rattle.std.specs.Prelude.{◌≡◌, ℕ, List, ◌++◌, Option, codes, decimal}
use Rattle.std.specs.Io.KnownBytes.{Appends}
use Rattle.jc_io.specs.Moved.{AppendsFront}
use Rattle.jc_types.specs.declared.runs.Shape.{Shape}
use Rattle.jc_audit.specs.Audits.{VerdictHolds}
use Rattle.jc_audit.specs.Reported.{IsReported}
use Rattle.jc_audit.specs.declared.verdicts.Verdict.{Verdict}
use Rattle.jc_audit.specs.declared.verdicts.Verdict.TheVariants.{Yes, No}
use Rattle.jc_single.specs.Promises.{KeepsPromises}
use Rattle.jc_lines.specs.Told.{AreEvents}
use Rattle.jc_words.specs.declared.words.Order.{Order}
use Rattle.jc_words.specs.declared.words.Order.TheVariants as order
use Rattle.jc_single.specs.declared.status.Status.{Status}
use Rattle.jc_single.specs.declared.status.Status.TheVariants as status

-- What is written of a verdict.
abbrev pub verdict_text : Verdict → List ℕ
verdict_text Yes = codes "yes\n"
verdict_text (No line) = codes "no " ++ (decimal line ++ codes "\n")

-- How a run ends that has written it.
abbrev pub verdict_status : Verdict → Status
verdict_status Yes = status.Ok
verdict_status (No line) = status.AuditNo line

-- The order is an audit, of whose shape it holds.
abbrev pub OfAudit : Order → (Shape → Type 0) → Type 0
OfAudit (order.Audit shape) P = P shape
OfAudit other P = ⊥

-- How an audit ends that meets no fault and no want of memory.
pub record IsAudited (shape : Shape) (input : List ℕ) (ended : Status) : Type 0 where
  pub verdict : Verdict
  pub says : VerdictHolds shape input verdict
  pub is : ended ≡ verdict_status verdict

-- It is what is to be said of the input, and the sink was given it.
pub record TellsVerdict (shape : Shape) (input : List ℕ) (verdict : Verdict) (old new : Option (List ℕ)) : Type 0 where
  pub says : VerdictHolds shape input verdict
  pub written : Appends old new (verdict_text verdict)

-- The sink was given the front of what is to be said of the input.
pub record TellsVerdictFront (shape : Shape) (input : List ℕ) (old new : Option (List ℕ)) : Type 0 where
  pub verdict : Verdict
  pub says : VerdictHolds shape input verdict
  pub front : AppendsFront old new (verdict_text verdict)

-- The input is the report of a legal and orderly history, of which all promises hold. The numbers of its events are such
-- as the code's types hold.
pub record IsPromised (shape : Shape) (input : List ℕ) : Type 0 where
  pub reported : IsReported shape input
  pub keeps : KeepsPromises reported.script shape reported.history
  pub events : AreEvents reported.history.events.items

-- The sink was given a text of which an audit in the shape says yes.
pub record PassesAudit (shape : Shape) (old new : Option (List ℕ)) : Type 0 where
  pub text : List ℕ
  pub says : VerdictHolds shape text Yes
  pub written : Appends old new text
