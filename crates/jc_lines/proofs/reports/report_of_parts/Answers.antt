use Rattle.std.proofs.Common.{◌≡◌, ◌∙◌, ap, List, ℕ, ◌++◌, map, string_bytes}
use Rattle.jc_lines.specs.Events.{event_lines}
use Rattle.jc_lines.specs.Summaries.{full_line}
use Rattle.jc_log.specs.Deeds.{deed}
use Rattle.jc_types.specs.declared.runs.Past.{Past}
use Rattle.jc_lines.proofs.Texts.{parts}
use Rattle.jc_lines.proofs.reports.report_of_parts.Goals as goal

-- The lines of the events, those of the Jobs, and the last line.
pub returns : goal.returns
returns c =
    let script = c.args.script.now in
    let events : string_bytes c.in_ok-text.text ≡ event_lines 1 (map (deed script) c.args.history.now.events.items) =
    c.in_ok-text.ensures ∙ ap (λ (l : List Past). event_lines 1 (map (deed script) l)) c.as_slice.ensures in
    parts _ (string_bytes c.in_ok-last.last) _ _ _
    (c.in_ok-print_full.ensures.line
    ∙ ap (λ (l : List ℕ). l ++ full_line c.args.full)
    (c.in_ok-push_str.ensures.bytes
    ∙ ap (λ (l : List ℕ). string_bytes c.in_ok-text.text ++ l) c.as_str.ensures.value
    ∙ ap (λ (l : List ℕ). l ++ string_bytes c.in_ok-last.last) events))
    c.in_ok-last.ensures
