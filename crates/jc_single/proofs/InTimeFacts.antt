-- Runs that are allowed events enough.
use Rattle.std.proofs.Common.{◌≡◌, List, ℕ, Result, Ok, Err, ap, false, sym, true≢false, ◌∙◌}
use Rattle.std.specs.Prelude.{IfOk, IfSome, if◌then◌else◌}
use Rattle.jc_types.specs.declared.actions.Command.{Command}
use Rattle.jc_types.specs.declared.runs.Shape.{Shape}
use Rattle.jc_script.specs.Scripts.{BadLine, script_of}
use Rattle.jc_single.specs.declared.status.Status.{Status}
use Rattle.jc_single.specs.declared.status.Status.TheVariants as status
use Rattle.jc_single.specs.Headlines.{ends_full}
use Rattle.jc_single.specs.InTime.{EndsInTime}
use Rattle.jc_single.specs.Played.{as_script}
use Rattle.jc_single.specs.RunAnswers.{Printed, report_printed, reported, answer_of}
use Rattle.jc_single.proofs.RunFacts.{full_is, of_each, of_read}
use Rattle.jc_words.specs.declared.words.LockKind.{LockKind}
use Rattle.jc_words.specs.declared.words.Order.TheVariants as order
use Rattle.jc_single.specs.RunEnds.{Answers, AtLength, AtLine, AtMemory, AtRead, Change, Front, HasStopped, RunHasEnded, Stopped, Whole, Wrote}

full-in : Result Printed BadLine → Printed → Printed
full-in (Ok printed) other = printed
full-in (Err bad) other = other

-- A run that was written whole is full only where its play is.
whole-in-time : (shape : Shape) (ended : Status) (said : Result (List Command) BadLine) (printed : Printed)
    → reported shape (as_script said) ≡ Ok printed → ended ≡ (if printed.full then status.HistoryFull else status.Ok)
    → IfOk (as_script said) (EndsInTime shape ended)
unfolding report_printed full-in
whole-in-time shape ended (Err bad) printed is done = tt
whole-in-time shape ended (Ok commands) printed is done = λ play few full.
    true≢false (sym (ap ends_full full) ∙ full_is printed.full ended done ∙ sym (ap (λ r. (full-in r printed).full) is)
    ∙ play.unfull shape.events few)

-- One that does not end as full has events enough.
other-in-time : (shape : Shape) (ended : Status) (said : Result (List Command) BadLine) → ends_full ended ≡ false
    → IfOk (as_script said) (EndsInTime shape ended)
other-in-time shape ended (Err bad) other = tt
other-in-time shape ended (Ok commands) other = λ play few full. true≢false (sym (ap ends_full full) ∙ other)

-- ---- a run

module _ (lock : LockKind) (shape : Shape) (source sink : Change) (ended : Status) where
  abbrev InTime : List ℕ → Type 0
  InTime input = IfOk (as_script (script_of shape input)) (EndsInTime shape ended)

  stopped-unfull : HasStopped (order.Run 0 lock shape) source ended → ends_full ended ≡ false
  stopped-unfull (AtRead reads rose taken is) = ap ends_full is
  stopped-unfull (AtLength reads count is) = ap ends_full is
  stopped-unfull (AtLine input bad read answered is) = ap ends_full is
  stopped-unfull (AtMemory taken is) = ap ends_full is

  each : ends_full ended ≡ false → IfSome source.old InTime
  each other = of_each InTime (order.Run 0 lock shape) source.old (λ input. other-in-time shape ended (script_of shape input) other)

  pub in-time : RunHasEnded (order.Run 0 lock shape) source sink (Answers (order.Run 0 lock shape)) ended → IfSome source.old InTime
  unfolding answer_of
  in-time (Wrote input printed read says (Whole written is)) =
      of_read InTime source.old input read.all (whole-in-time shape ended (script_of shape input) printed says is)
  in-time (Wrote input printed read says (Front front rose is)) = each (ap ends_full is)
  in-time (Stopped stopped kept) = each (stopped-unfull stopped)
