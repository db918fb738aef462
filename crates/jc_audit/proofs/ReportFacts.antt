-- The two laws on reports.
use Rattle.std.proofs.Common.{◌≡◌, ℕ, ◌≤◌, Bool, true, List, [], ◌∷◌, ◌++◌, length, map, reverse, refl, sym, ap, ap₂, ◌∙◌, subst, arith}
use Rattle.std.proofs.lemmas.List.{length-reverse, map-append, reverse-append, reverse-reverse as twice}
use Rattle.std.specs.List.{AllByRecursion as Each}
use Rattle.jc_types.specs.declared.actions.Script.{Script}
use Rattle.jc_types.specs.declared.objects.Entry.{Entry}
use Rattle.jc_types.specs.declared.runs.History.{History}
use Rattle.jc_types.specs.declared.runs.Past.{Past}
use Rattle.jc_types.specs.declared.runs.Shape.{Shape}
use Rattle.jc_log.specs.Deeds.{Deed, deed, deeds}
use Rattle.jc_history.specs.Available.{IsOrderly}
use Rattle.jc_history.specs.Legal.{InLanes, IsHistory, IsLegal}
use Rattle.jc_history.specs.Replies.{log_given}
use Rattle.jc_lines.specs.Events.{event_lines}
use Rattle.jc_reading.specs.Proper.{IsProperCommand}
use Rattle.jc_lines.specs.Summaries.{full_line}
use Rattle.jc_runs.specs.Ledger.{ledger_of, verdicts_of}
use Rattle.jc_log.specs.Log.{jobs_in}
use Rattle.jc_lines.specs.Reports.{in_order, jobs_text, report_text, verdicts_in}
use Rattle.jc_runs.specs.Seen.{Seen, deeds_seen, log_seen}
use Rattle.jc_audit.specs.Audits.{IsRecognised}
use Rattle.jc_audit.specs.Reported.{IsReported}
use Rattle.jc_audit.specs.Tails.{tail_text}
use Rattle.jc_audit.proofs.BackFacts.{Comes, comes_back}
use Rattle.jc_audit.proofs.WalkFacts.{IsWalked, walked}
use Rattle.jc_play.proofs.Starts.{map-reverse}

-- The text of a report, by its deeds, newest first.
text_is : (script : Script) (shape : Shape) (items : List Past) (full : Bool)
    → report_text script items (log_given shape (reverse (map (deed script) items))) full
    ≡ event_lines 1 (reverse (reverse (map (deed script) items))) ++ (tail_text shape (reverse (map (deed script) items)) ++ full_line full)
text_is script shape items full =
    ap (λ (ds : List Deed). event_lines 1 ds ++ (tail_text shape (reverse (map (deed script) items)) ++ full_line full)) (sym (twice (map (deed script) items)))

-- The lines of the Jobs of a machine, by its deeds.
pub tail_is : (seen : Seen) (script : Script) (items : List Past) (log : List Entry) → script ≡ seen.script → reverse items ≡ seen.pasts → reverse log ≡ log_seen seen
    → jobs_text (verdicts_in script items (reverse log)) (in_order (jobs_in (reverse log))) ≡ tail_text seen.shape (deeds_seen seen)
tail_is seen script items log same back entries =
    let turned : reverse (map (deed script) items) ≡ deeds_seen seen =
    map-reverse (deed script) items ∙ ap (map (deed script)) back ∙ ap (λ (s : Script). map (deed s) seen.pasts) same in
    ap (λ (l : List Entry). jobs_text (verdicts_in script items l) (in_order (jobs_in l))) entries
    ∙ ap (λ (ds : List Deed). jobs_text (λ j. verdicts_of (ledger_of j ds (log_seen seen))) (in_order (jobs_in (log_seen seen)))) turned

pub prints_report : (script : Script) (shape : Shape) (history : History) (full : Bool) → Each IsProperCommand script.commands → IsHistory script shape history → IsOrderly shape (deeds script history)
    → (full ≡ true → length history.events.items ≡ shape.events)
    → IsRecognised shape (report_text script history.events.items (log_given shape (deeds script history)) full)
prints_report script shape history full proper legal orderly filled =
    let items = history.events.items in
    let turned : deeds script history ≡ map (deed script) (reverse items) = map-reverse (deed script) items in
    let long = length-reverse items in
    let few = legal.few in
    let c : Comes shape (map (deed script) (reverse items)) =
    comes_back script shape proper (reverse items) legal.lanes (subst (λ (ds : List Deed). IsLegal shape ds) turned legal.legal)
    (subst (λ (ds : List Deed). IsOrderly shape ds) turned orderly) (omega (arith, few, long)) in
    let same : deeds_seen c.seen ≡ deeds script history = c.deeds ∙ sym turned in
    record {
      last = c.seen;
      text = event_lines 1 (reverse (map (deed script) (reverse items)));
      full = full;
      walked = c.walks;
      are =
          text_is script shape items full
          ∙ ap₂ (λ (ds es : List Deed). event_lines 1 (reverse ds) ++ (tail_text shape es ++ full_line full)) turned (sym same);
      history_full = λ e. many c.seen (map (deed script) (reverse items)) c.deeds ∙ length_map (reverse items) ∙ long ∙ filled e;
    }
  where
    length_map : (xs : List Past) → length (map (deed script) xs) ≡ length xs
    length_map [] = refl
    length_map (x ∷ xs) = let more = length_map xs in omega (arith, more)

    lengths : (s : Script) (xs : List Past) → length (map (deed s) xs) ≡ length xs
    lengths s [] = refl
    lengths s (x ∷ xs) = let more = lengths s xs in omega (arith, more)

    many : (seen : Seen) (ds : List Deed) → deeds_seen seen ≡ ds → length seen.pasts ≡ length ds
    many seen ds e = sym (lengths seen.script seen.pasts) ∙ ap length e

-- A history of the events that were walked.
abbrev history_of : List Past → History
history_of pasts = record { events = record { items = reverse pasts; room = 0 } }

pub is_of_history : (shape : Shape) (bytes : List ℕ) → IsRecognised shape bytes → IsReported shape bytes
is_of_history shape bytes report =
    let seen = report.last in
    let w : IsWalked shape seen report.text = walked shape seen report.text report.walked in
    let long = length-reverse seen.pasts in
    let turned : deeds seen.script (history_of seen.pasts) ≡ deeds_seen seen = map-reverse (deed seen.script) (reverse seen.pasts) ∙ ap (map (deed seen.script)) (twice seen.pasts) in
    let legal : IsLegal shape (deeds_seen seen) = subst (λ (s : Shape). IsLegal s (deeds_seen seen)) w.of_shape w.legal in
    let orderly : IsOrderly shape (deeds_seen seen) = subst (λ (s : Shape). IsOrderly s (deeds_seen seen)) w.of_shape w.orderly in
    let few : length seen.pasts ≤ shape.events = subst (λ (s : Shape). length seen.pasts ≤ s.events) w.of_shape w.few in
    record {
      script = seen.script;
      history = history_of seen.pasts;
      full = report.full;
      printable = record {
        proper = w.proper;
        legal = record {
          few = omega (arith, few, long);
          lanes = subst (λ (l : List Past). InLanes seen.script.commands l) (sym (twice seen.pasts)) w.lanes;
          legal = subst (λ (ds : List Deed). IsLegal shape ds) (sym turned) legal;
        };
        orderly = subst (λ (ds : List Deed). IsOrderly shape ds) (sym turned) orderly;
        history_full = λ e. long ∙ report.history_full e;
      };
      prints =
          report.are
          ∙ ap (λ t. t ++ (tail_text shape (deeds_seen seen) ++ full_line report.full)) w.lines
          ∙ ap (λ (ds : List Deed). event_lines 1 (reverse ds) ++ (tail_text shape ds ++ full_line report.full)) (sym turned)
          ∙ sym (text_is seen.script shape (reverse seen.pasts) report.full);
    }
