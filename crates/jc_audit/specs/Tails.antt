-- What stands behind the lines of the events.
--     line_len text                        how long the first line is
--     whole_lines text                     the lines, each with its line feed
--     tail_text shape deeds                the lines of the Jobs that are there
--     lines_compared n lines wanted full   what is said of these lines, the first of which has the number n
--     tail_verdict shape deeds rest        what is said of what stands behind the lines of the events
use Rattle.std.specs.Prelude.{ℕ, suc, ◌+◌, ◌==◌, Bool, true, false, List, [], ◌∷◌, bytes_eq, if◌then◌else◌, nat_eq, length, codes}
use Rattle.jc_types.specs.declared.runs.Shape.{Shape}
use Rattle.jc_log.specs.Deeds.{Deed}
use Rattle.jc_log.specs.Log.{jobs_in}
use Rattle.jc_runs.specs.Ledger.{ledger_of, verdicts_of}
use Rattle.jc_history.specs.Replies.{log_given}
use Rattle.jc_lines.specs.Reports.{in_order, jobs_text}
use Rattle.jc_audit.specs.declared.verdicts.Verdict.{Verdict}
use Rattle.jc_audit.specs.declared.verdicts.Verdict.TheVariants.{Yes, No}

-- How long the first line is, with its line feed.
abbrev pub line_len : List ℕ → ℕ
line_len [] = 0
line_len (b ∷ bs) = if b == 10 then 1 else suc (line_len bs)

-- The byte in front of the first line.
abbrev pub byte_in_front : ℕ → List (List ℕ) → List (List ℕ)
byte_in_front b [] = (b ∷ []) ∷ []
byte_in_front b (line ∷ lines) = (b ∷ line) ∷ lines

-- The lines, each with its line feed; the last one may have none.
abbrev pub whole_lines : List ℕ → List (List ℕ)
whole_lines [] = []
whole_lines (b ∷ bs) = if b == 10 then (b ∷ []) ∷ whole_lines bs else byte_in_front b (whole_lines bs)

-- The two lines of each Job that is there.
abbrev pub tail_text : Shape → List Deed → List ℕ
tail_text shape past =
    jobs_text (λ j. verdicts_of (ledger_of j past (log_given shape past))) (in_order (jobs_in (log_given shape past)))

-- Nothing may follow, but for one line `full` where the history is full.
abbrev pub at_end : ℕ → List (List ℕ) → Bool → Verdict
at_end n [] full = Yes
at_end n (line ∷ []) true = if bytes_eq line (codes "full\n") then Yes else No n
at_end n (line ∷ more ∷ lines) true = if bytes_eq line (codes "full\n") then No (n + 1) else No n
at_end n (line ∷ lines) false = No n

-- The first line that differs from what is wanted; the one after the last, where they are cut.
abbrev pub lines_compared : ℕ → List (List ℕ) → List (List ℕ) → Bool → Verdict
lines_compared n lines [] full = at_end n lines full
lines_compared n [] (wanted ∷ more) full = No n
lines_compared n (line ∷ lines) (wanted ∷ more) full =
    if bytes_eq line wanted then lines_compared (n + 1) lines more full else No n

-- What is said of what stands behind the lines of the events.
unfoldable pub tail_verdict : Shape → List Deed → List ℕ → Verdict
tail_verdict shape past rest =
    lines_compared (1 + length past) (whole_lines rest) (whole_lines (tail_text shape past)) (nat_eq (length past) shape.events)
