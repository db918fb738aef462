-- What is printed of a cluster that a run on threads has left.
use Rattle.std.proofs.Common.{◌≡◌, ℕ, ◌≤◌, Bool, true, List, length, reverse, Result, Ok, Err, ap, subst, sym, ◌∙◌, arith}
use Rattle.std.specs.Prelude.{IfOk}
use Rattle.std.proofs.lemmas.List.{length-reverse, reverse-reverse}
use Rattle.jc_types.specs.declared.actions.Script.{Script}
use Rattle.jc_types.specs.declared.runs.History.{History}
use Rattle.jc_types.specs.declared.runs.Past.{Past}
use Rattle.jc_types.specs.declared.runs.Shape.{Shape}
use Rattle.jc_single.specs.Deeds.{deeds}
use Rattle.jc_single.specs.Available.{IsOrderly, is_quiescent}
use Rattle.jc_single.specs.Legal.{AreUsed, IsHistory}
use Rattle.jc_single.specs.Replies.{log_given}
use Rattle.jc_single.specs.Seen.{Seen, deeds_in, deeds_seen, log_seen}
use Rattle.jc_single.specs.Promises.{KeepsPromises}
use Rattle.jc_single.proofs.DeedFacts.{deeds-are}
use Rattle.jc_lines.specs.Reports.{report_text}
use Rattle.jc_lines.specs.Told.{AreEvents}
use Rattle.jc_shared.specs.SharedEnds.{IsEndOfRun, IsLeft}
use Rattle.jc_single.specs.RunAnswers.{writing_text}
use Rattle.jc_single.specs.declared.orders.Output.{Output}
use Rattle.jc_single.specs.Headlines.{IsReport}

module _ (seen : Seen) (h : History) (events : reverse h.events.items ≡ seen.pasts) where
  -- The deeds are those of the history.
  same-deeds : deeds_seen seen ≡ deeds seen.script h
  same-deeds = ap (deeds_in seen.script) (sym events) ∙ deeds-are seen.script h.events.items

  items-are : reverse seen.pasts ≡ h.events.items
  items-are = ap (λ (l : List Past). reverse l) (sym events) ∙ reverse-reverse h.events.items

  pub is_report : (threads : ℕ) (full : Bool) (text : List ℕ) → IsHistory seen.script seen.shape h
      → KeepsPromises seen.script seen.shape h → (IsOrderly seen.shape (deeds seen.script h) → AreEvents h.events.items) → text ≡ report_text seen.script (reverse seen.pasts) (log_seen seen) full
      → IsEndOfRun seen.script seen.shape seen full
      → IsReport threads seen.script seen.shape full text
  is_report threads full text legal keeps numbers is end = record {
    history = h;
    told = record {
      text_is = is ∙ ap (λ l. report_text seen.script l (log_seen seen) full) items-are
          ∙ ap (λ ds. report_text seen.script h.events.items (log_given seen.shape ds) full) same-deeds;
      legal = legal;
      orderly = subst (λ ds. IsOrderly seen.shape ds) same-deeds end.left.orderly;
      keeps = keeps;
      used = λ e. subst (λ l. AreUsed seen.script.commands l) (sym events) (end.whole e).used;
      rests = λ e ends. subst (λ ds. is_quiescent seen.shape ds (log_given seen.shape ds) ≡ true) same-deeds (end.whole e).rests;
      filled = λ e. let count = end.filled e in let same = ap (λ (l : List Past). length l) events in let back = length-reverse h.events.items in omega (arith, count, same, back);
      to_come = λ e some played. end.to_come e (record {
        used = subst (λ l. AreUsed seen.script.commands l) events played.used;
        rests = subst (λ ds. is_quiescent seen.shape ds (log_given seen.shape ds) ≡ true) (sym same-deeds) played.rests;
      });
    };
    events = numbers (subst (λ ds. IsOrderly seen.shape ds) same-deeds end.left.orderly);
  }

-- The report of a cluster that was left is one of the script and the shape that were given.
pub report_of : {E : Type 0} (r : Result Output E) (threads : ℕ) (script : Script) (shape : Shape) (seen : Seen) (full : Bool)
    → IsLeft script shape seen → 1 ≤ threads → IfOk r (λ output. output.full ≡ full)
    → IfOk r (λ output. (n : ℕ) → 1 ≤ n → IsReport n seen.script seen.shape full (writing_text output.text))
    → IfOk r (λ output. IsReport threads script shape output.full (writing_text output.text))
report_of (Err e) threads script shape seen full left some same report = tt
report_of (Ok output) threads script shape seen full left some same report =
    subst (λ s. IsReport threads s shape output.full (writing_text output.text)) left.script_is
    (subst (λ s. IsReport threads seen.script s output.full (writing_text output.text)) left.shape_is
    (subst (λ f. IsReport threads seen.script seen.shape f (writing_text output.text)) (sym same) (report threads some)))
