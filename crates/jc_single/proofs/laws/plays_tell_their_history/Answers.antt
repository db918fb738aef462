-- The history is that of the play.
use Rattle.std.proofs.Common.{◌≡◌, List, inl, inr, ap, arith, false, length, reverse, refl, subst, sym, ◌∙◌, true}
use Rattle.jc_types.specs.declared.actions.Script.{Script}
use Rattle.jc_types.specs.declared.runs.History.{History}
use Rattle.jc_types.specs.declared.runs.Past.{Past}
use Rattle.jc_types.specs.declared.runs.Shape.{Shape}
use Rattle.jc_promise.specs.Available.{IsOrderly, is_quiescent}
use Rattle.jc_promise.specs.Deeds.{deeds}
use Rattle.jc_promise.specs.Legal.{AreUsed, IsHistory}
use Rattle.jc_promise.specs.Play.{is_full, play_of, whole_play}
use Rattle.jc_promise.specs.Plays.{ends_in_settle}
use Rattle.jc_promise.specs.Promises.{KeepsPromises}
use Rattle.jc_promise.specs.Replies.{log_given}
use Rattle.jc_report.specs.Reports.{report_text}
use Rattle.jc_single.specs.RunAnswers.{report_printed}
use Rattle.jc_single.specs.Headlines.{EndsAtRest, IsReportOf}
use Rattle.jc_single.proofs.laws.plays_tell_their_history.Goals as goal

-- On one thread a script is played until nothing is left to do where it ends in a settle.
settles : (script : Script) → EndsAtRest 0 script → ends_in_settle script.commands ≡ true
settles script (inl some) = absurd (omega (arith, some))
settles script (inr ends) = ends

-- The report of the play is that of a history which has its events.
of_play : (script : Script) (shape : Shape) (h : History) → h.events.items ≡ play_of script shape → IsHistory script shape h
    → IsOrderly shape (deeds script h) → KeepsPromises script shape h
    → (whole_play script shape).log ≡ log_given shape (deeds script h)
    → (is_full script shape ≡ false → AreUsed script.commands (reverse (play_of script shape)))
    → (is_full script shape ≡ false → ends_in_settle script.commands ≡ true
    → is_quiescent shape (deeds script h) (log_given shape (deeds script h)) ≡ true)
    → (is_full script shape ≡ true → length (play_of script shape) ≡ shape.events)
    → IsReportOf h 0 script shape (is_full script shape) (report_printed script shape).text
unfolding report_printed
of_play script shape h is legal orderly keeps log used rests filled = record {
  text_is = ap (λ l. report_text script l (whole_play script shape).log (is_full script shape)) (sym is)
      ∙ ap (λ l. report_text script h.events.items l (is_full script shape)) log;
  legal = legal;
  orderly = orderly;
  keeps = keeps;
  used = λ room. subst (λ l. AreUsed script.commands (reverse l)) (sym is) (used room);
  rests = λ room ends. rests room (settles script ends);
  filled = λ full. ap (λ (l : List Past). length l) is ∙ filled full;
  to_come = λ filled some. absurd (omega (arith, some));
}

pub returns-clause-history : goal.returns-clause-history
returns-clause-history c script shape h fine is =
    let proper = fine.fits in
    let played = c.plays_are_orderly_histories.ensures in
    let legal = played.history script shape proper h is in
    of_play script shape h is legal (played.orderly script shape proper h is)
    (c.legal_histories_keep_the_promises.ensures script shape h fine.valid fine.some_controllers fine.some_workers fine.few_events legal)
    (played.log script shape proper h is)
    (played.used script shape proper) (c.settled_plays_are_at_rest.ensures script shape proper h is) (played.full script shape proper)

pub returns-clause-report : goal.returns-clause-report
returns-clause-report c script shape fine small =
    let proper = fine.fits in
    let played = c.plays_are_orderly_histories.ensures in
    let h : History = record { events = record { items = play_of script shape; room = 0 } } in
    let legal = played.history script shape proper h refl in
    let orderly = played.orderly script shape proper h refl in
    record {
      history = h;
      told = of_play script shape h refl legal orderly
          (c.legal_histories_keep_the_promises.ensures script shape h fine.valid fine.some_controllers fine.some_workers fine.few_events
          legal)
          (played.log script shape proper h refl) (played.used script shape proper)
          (c.settled_plays_are_at_rest.ensures script shape proper h refl) (played.full script shape proper);
      events = c.orderly_histories_have_small_numbers.ensures script shape h small.lanes small.few_controllers small.few_workers legal orderly;
    }
