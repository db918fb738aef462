-- When bytes are a report, and else which line is named.
--     begins_event bytes         the first line is that of an event: it begins with a digit
--     IsRecognised shape bytes   the bytes are a report
--     NamesLine shape bytes n    they are none, and the line is the first that differs
--     VerdictHolds shape bytes verdict   what the auditor is to say
use Rattle.std.specs.Prelude.{◌≡◌, ℕ, ◌+◌, Bool, true, false, ◌&&◌, nat_le, List, [], ◌∷◌, ◌++◌, length, ◌⊎◌}
use Rattle.jc_types.specs.declared.runs.Shape.{Shape}
use Rattle.jc_lines.specs.Summaries.{full_line}
use Rattle.jc_runs.specs.Seen.{Seen, deeds_seen}
use Rattle.jc_audit.specs.declared.verdicts.Verdict.{Verdict}
use Rattle.jc_audit.specs.declared.verdicts.Verdict.TheVariants.{Yes, No}
use Rattle.jc_audit.specs.Tails.{tail_text, tail_verdict}
use Rattle.jc_audit.specs.Walks.{NoneIsTaken, Walks}

-- The first line is that of an event: it begins with a digit.
abbrev pub begins_event : List ℕ → Bool
begins_event [] = false
begins_event (b ∷ bs) = nat_le 48 b && nat_le b 57

-- Lines of events that are taken one after another, then the tail of that history. The last line `full` may stand where
-- the history is full.
pub record IsRecognised (shape : Shape) (bytes : List ℕ) : Type 0 where
  pub last : Seen
  pub text : List ℕ
  pub full : Bool
  pub walked : Walks shape last text
  pub are : bytes ≡ text ++ (tail_text shape (deeds_seen last) ++ full_line full)
  pub history_full : full ≡ true → length last.pasts ≡ shape.events

-- The line of an event stands next, and is not taken.
pub record IsNotTaken (seen : Seen) (rest : List ℕ) : Type 0 where
  pub begins : begins_event rest ≡ true
  pub none : NoneIsTaken seen rest

-- No line of an event stands next, and what stands there is no tail.
pub record IsNoTail (shape : Shape) (seen : Seen) (rest : List ℕ) (n : ℕ) : Type 0 where
  pub begins : begins_event rest ≡ false
  pub other : tail_verdict shape (deeds_seen seen) rest ≡ No n

-- The lines of events that are taken are followed by one that is not, or by no tail of that history; and this is the
-- number of the line.
pub record NamesLine (shape : Shape) (bytes : List ℕ) (n : ℕ) : Type 0 where
  pub last : Seen
  pub text : List ℕ
  pub rest : List ℕ
  pub walked : Walks shape last text
  pub are : bytes ≡ text ++ rest
  pub line : (IsNotTaken last rest × (n ≡ 1 + length last.pasts)) ⊎ IsNoTail shape last rest n

abbrev pub VerdictHolds : Shape → List ℕ → Verdict → Type 0
VerdictHolds shape bytes Yes = IsRecognised shape bytes
VerdictHolds shape bytes (No line) = NamesLine shape bytes line
