-- The play of a script in a new machine is that of the whole script.
use Rattle.std.proofs.Common.{◌≡◌, ℕ, ◌≤◌, Bool, false, List, [], reverse, Result, Ok, Err, ap, ap₂, refl, subst, sym, ◌∙◌}
use Rattle.std.specs.Prelude.{IfOk}
use Rattle.jc_types.specs.declared.actions.Script.{Script}
use Rattle.jc_types.specs.declared.runs.Shape.{Shape}
use Rattle.jc_promise.specs.Play.{Playing, nothing, rest_played, whole_play}
use Rattle.jc_report.specs.Reports.{report_text, summary_of}
use Rattle.jc_promise.specs.Seen.{Seen, log_seen}
use Rattle.jc_script.specs.Scripts.{script_of}
use Rattle.jc_report.specs.Turns.{playing_of}
use Rattle.jc_words.specs.FitOrders.{IsFitShape}
use Rattle.jc_single.specs.Played.{as_script}
use Rattle.jc_single.specs.RunAnswers.{Printed, printed_by, report_printed, reported, summary_printed, writing_text}
use Rattle.jc_single.specs.declared.orders.Output.{Output}
use Rattle.jc_single.specs.declared.plays.Played.{Played}

pub whole_is : (script : Script) (shape : Shape) (old new : Seen) (full : Bool)
    → ((seen : Seen) → seen.pasts ≡ [] → playing_of false seen ≡ nothing)
    → old ≡ record { script = script; shape = shape; pasts = [] }
    → rest_played old.script old.shape 0 old.script.commands (playing_of false old) ≡ playing_of full new
    → whole_play script shape ≡ playing_of full new
unfolding whole_play
whole_is script shape old new full begins e h =
    let start : Seen = record { script = script; shape = shape; pasts = [] } in
    ap (rest_played script shape 0 script.commands) (sym (begins start refl))
    ∙ ap (λ (s : Seen). rest_played s.script s.shape 0 s.script.commands (playing_of false s)) (sym e) ∙ h

-- What is printed of a play.
abbrev printed_from : Script → Playing → Printed
printed_from script p = record { text = report_text script (reverse p.pasts) p.log p.full; full = p.full }

abbrev printed_of : List ℕ → Bool → Printed
printed_of text full = record { text = text; full = full }

pub report_is : {E : Type 0} (script : Script) (shape : Shape) (played : Played) (r : Result Output E)
    → played.machine.script ≡ script → whole_play script shape ≡ playing_of played.full played.machine
    → IfOk r (λ output. writing_text output.text
    ≡ report_text played.machine.script (reverse played.machine.pasts) (log_seen played.machine) played.full)
    → IfOk r (λ output. output.full ≡ played.full)
    → IfOk r (λ output. printed_by output ≡ report_printed script shape)
unfolding report_printed
report_is script shape played (Err want) is e text full = tt
report_is script shape played (Ok output) is e text full =
    ap₂ printed_of text full ∙ ap (λ s. printed_from s (playing_of played.full played.machine)) is
    ∙ ap (printed_from script) (sym e)

-- What is counted of a play.
abbrev counted_from : Playing → Printed
counted_from p = record { text = summary_of p.log p.full; full = p.full }

pub summary_is : {E : Type 0} (script other : Script) (shape that : Shape) (played : Played) (r : Result Output E)
    → script ≡ other → shape ≡ that → whole_play script shape ≡ playing_of played.full played.machine
    → IfOk r (λ output. writing_text output.text ≡ summary_of (log_seen played.machine) played.full)
    → IfOk r (λ output. output.full ≡ played.full)
    → IfOk r (λ output. printed_by output ≡ summary_printed other that)
unfolding summary_printed
summary_is script other shape that played (Err want) scripts shapes e text full = tt
summary_is script other shape that played (Ok output) scripts shapes e text full =
    ap₂ printed_of text full ∙ ap counted_from (sym e) ∙ ap₂ (λ s t. counted_from (whole_play s t)) scripts shapes

pub few_events : (shape that : Shape) → shape ≡ that → IsFitShape that → shape.events ≤ 200000
few_events shape that e fits = subst (λ (s : Shape). s.events ≤ 200000) (sym e) fits.few_events

-- A text that says a script has its report.
pub reported_is : (shape : Shape) (input : List ℕ) (script : Script) (output : Output)
    → script_of shape input ≡ Ok script.commands → printed_by output ≡ report_printed script shape
    → reported shape (as_script (script_of shape input)) ≡ Ok (printed_by output)
reported_is shape input script output e is =
    ap (λ r. reported shape (as_script r)) e ∙ ap (λ (p : Printed). Ok p) (sym is)
