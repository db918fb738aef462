-- The script is what the text says, or what a reaper makes of it.
use Rattle.std.proofs.Common.{◌≡◌, ℕ, ◌<◌, ◌^◌, arith, List, Option, Result, Ok, Err, ap, refl, subst, sym, true≢false}
use Rattle.std.specs.Prelude.{IfOk, IsOkAnd, is_ok}
use Rattle.std.specs.List.{AllByRecursion as Each}
use Rattle.jc_types.specs.declared.actions.Command.{Command}
use Rattle.jc_types.specs.declared.actions.Script.{Script}
use Rattle.jc_types.specs.declared.runs.Shape.{Shape}
use Rattle.jc_promise.specs.Deeds.{act_of_action}
use Rattle.jc_promise.specs.ValidActions.{IsValidAction}
use Rattle.jc_promise.specs.Legal.{IsOfShape}
use Rattle.jc_promise.specs.Play.{is_full}
use Rattle.jc_promise.specs.Plays.{AreWithin}
use Rattle.jc_reap.specs.Finds.{seen_at_end}
use Rattle.jc_reap.specs.Reaping.{reap_list}
use Rattle.jc_reap.specs.TtlLines.{ttls_of}
use Rattle.jc_promise.specs.Seen.{Seen}
use Rattle.jc_script.specs.Scripts.{BadLine, script_of}
use Rattle.jc_words.specs.FitOrders.{IsFitShape}
use Rattle.jc_words.specs.declared.words.Order.TheVariants as order
use Rattle.jc_single.proofs.ReapFacts.{AreByteLanes, AreValid, both, last-holds, settled_lanes, settled_valid, settled_within}
use Rattle.jc_single.proofs.ShapeFacts.{first_lane, read_lanes, read_within}
use Rattle.jc_single.specs.Played.{as_script, at_rest, reaped_of}
use Rattle.jc_single.specs.RunAnswers.{Printed, answer_of, report_printed, reported}
use Rattle.jc_single.specs.Headlines.{HasSmallNumbers, IsPlayable, IsReport}
use Rattle.jc_single.proofs.laws.runs_tell_their_history.Goals as goal

printed-in : Result Printed BadLine → Printed → Printed
printed-in (Ok printed) other = printed
printed-in (Err bad) other = other

-- What the play of a script asks of its commands.
record IsFine (shape : Shape) (commands : List Command) : Type 0 where
  valid : AreValid commands
  lanes : AreByteLanes commands
  within : AreWithin shape commands

module _ (shape : Shape) where
  -- The commands of a text are fine.
  read-fine : (r : Result (List Command) BadLine) → ((commands : List Command) → r ≡ Ok commands → IsFine shape commands)
      → IfOk (as_script r) (λ script. IsFine shape script.commands)
  read-fine (Ok commands) fine = fine commands refl
  read-fine (Err bad) fine = tt

  -- So are a settle and a reaper's behind them.
  module _ (valid : (seen : Seen) (ttls : List (Option ℕ)) → AreValid (reap_list seen ttls))
      (lane : (seen : Seen) (ttls : List (Option ℕ)) → Each (λ (command : Command). command.lane ≡ 0) (reap_list seen ttls))
      (within : (seen : Seen) (ttls : List (Option ℕ)) → AreWithin shape (reap_list seen ttls)) where
    last-fine : (script : Script) (ttls : List (Option ℕ)) → IsFine shape script.commands
        → IfOk (reaped_of shape (Ok script.commands) (Ok ttls)) (λ script. IsFine shape script.commands)
    last-fine script ttls fine =
        let first = at_rest script.commands in
        let rested : IsFine shape first.commands = record {
          valid = settled_valid script.commands fine.valid;
          lanes = settled_lanes script.commands fine.lanes;
          within = settled_within shape script.commands fine.within;
        } in
        last-holds (λ s. IsFine shape s.commands) first shape ttls rested (record {
          valid = both (λ (c : Command). IsValidAction c.action) first.commands (reap_list (seen_at_end first shape) ttls)
              rested.valid (valid (seen_at_end first shape) ttls);
          lanes = both (λ (c : Command). c.lane < 2 ^ 8) first.commands (reap_list (seen_at_end first shape) ttls)
              rested.lanes (first_lane (reap_list (seen_at_end first shape) ttls) (lane (seen_at_end first shape) ttls));
          within = both (λ (c : Command). IsOfShape shape (act_of_action c.action)) first.commands
              (reap_list (seen_at_end first shape) ttls) rested.within (within (seen_at_end first shape) ttls);
        })

    reaped-fine : (r : Result (List Command) BadLine) (t : Result (List (Option ℕ)) BadLine)
        → ((commands : List Command) → r ≡ Ok commands → IsFine shape commands)
        → IfOk (reaped_of shape r t) (λ script. IsFine shape script.commands)
    reaped-fine (Err bad) t fine = tt
    reaped-fine (Ok commands) (Err bad) fine = tt
    reaped-fine (Ok commands) (Ok ttls) fine = last-fine (record { commands = commands }) ttls (fine commands refl)

  -- The report of a script whose commands are fine.
  of-fine : IsFitShape shape → ((script : Script) (shape : Shape) → IsPlayable script shape → HasSmallNumbers script shape
      → IsReport 0 script shape (is_full script shape) (report_printed script shape).text)
      → (script : Script) → IsFine shape script.commands
      → IsReport 0 script shape (report_printed script shape).full (report_printed script shape).text
  unfolding report_printed
  of-fine fits tells script fine =
      let controllers = fits.few_controllers in
      let workers = fits.few_workers in
      tells script shape (record {
        valid = fine.valid;
        fits = fine.within;
        some_controllers = fits.some_controllers;
        some_workers = fits.some_workers;
        few_events = fits.few_events;
      }) (record {
        lanes = fine.lanes;
        few_controllers = omega (arith, controllers);
        few_workers = omega (arith, workers);
      })

  -- What is printed of a script whose commands are fine is the report of a history of it.
  told-of : (printed : Printed) (r : Result Script BadLine) → IfOk r (λ script. IsFine shape script.commands)
      → ((script : Script) → IsFine shape script.commands
      → IsReport 0 script shape (report_printed script shape).full (report_printed script shape).text)
      → reported shape r ≡ Ok printed → IsOkAnd r (λ script. IsReport 0 script shape printed.full printed.text)
  unfolding printed-in
  told-of printed (Err bad) fine tells said = absurd (true≢false (sym (ap is_ok said)))
  told-of printed (Ok script) fine tells said =
      subst (λ (p : Printed). IsReport 0 script shape p.full p.text) (ap (λ r. printed-in r printed) said) (tells script fine)

pub returns : goal.returns
unfolding answer_of report_printed
returns c (order.Generate number jobs pods) input printed fits said = tt
returns c (order.Audit shape) input printed fits said = tt
returns c (order.Run threads lock shape) input printed fits said =
    told-of shape printed (as_script (script_of shape input)) (read-fine shape (script_of shape input) (λ commands e. record {
      valid = c.scripts_fit_their_shape.ensures.valid shape input commands e;
      lanes = read_lanes commands (c.scripts_fit_their_shape.ensures.lanes shape input commands e);
      within = read_within shape commands (c.scripts_fit_their_shape.ensures.within shape input commands fits.shape_fits.some_controllers
          fits.shape_fits.some_workers e);
    })) (of-fine shape fits.shape_fits c.plays_tell_their_history.ensures.report) said
returns c (order.Reap shape) input printed fits said =
    told-of shape printed (reaped_of shape (script_of shape input) (ttls_of shape input))
    (reaped-fine shape c.reaped_commands_fit.ensures.valid c.reaped_commands_fit.ensures.lane
    (c.reaped_commands_fit.ensures.within shape)
    (script_of shape input) (ttls_of shape input) (λ commands e. record {
      valid = c.scripts_fit_their_shape.ensures.valid shape input commands e;
      lanes = read_lanes commands (c.scripts_fit_their_shape.ensures.lanes shape input commands e);
      within = read_within shape commands (c.scripts_fit_their_shape.ensures.within shape input commands fits.some_controllers
          fits.some_workers e);
    })) (of-fine shape fits c.plays_tell_their_history.ensures.report) said
