-- The cluster that was left is of the script and the shape.
use Rattle.std.proofs.Common.{◌<◌, ◌≤◌, ◌^◌, refl, subst, sym}
use Rattle.std.specs.List.{AllByRecursion as Each}
use Rattle.jc_types.specs.declared.actions.Command.{Command}
use Rattle.jc_types.specs.declared.actions.Script.{Script}
use Rattle.jc_types.specs.declared.runs.Shape.{Shape}
use Rattle.jc_single.specs.ValidActions.{AreValidCommands}
use Rattle.jc_shared.proofs.LeftFacts.{ended-as}
use Rattle.jc_ctl.proofs.LeftFacts.{report_of}
use Rattle.jc_ctl.proofs.threaded.threaded_report.Goals as goal

pub told-requires-clause-some_controllers : goal.told-requires-clause-some_controllers
told-requires-clause-some_controllers g c = subst (λ (s : Shape). 0 < s.controllers) (sym c.in_ok-ended.ensures.left.shape_is) c.requires.fit_shape.some_controllers

pub told-requires-clause-some_workers : goal.told-requires-clause-some_workers
told-requires-clause-some_workers g c = subst (λ (s : Shape). 0 < s.workers) (sym c.in_ok-ended.ensures.left.shape_is) c.requires.fit_shape.some_workers

pub told-requires-clause-few_controllers : goal.told-requires-clause-few_controllers
told-requires-clause-few_controllers g c = subst (λ (s : Shape). s.controllers ≤ 4) (sym c.in_ok-ended.ensures.left.shape_is) c.requires.fit_shape.few_controllers

pub told-requires-clause-few_workers : goal.told-requires-clause-few_workers
told-requires-clause-few_workers g c = subst (λ (s : Shape). s.workers ≤ 16) (sym c.in_ok-ended.ensures.left.shape_is) c.requires.fit_shape.few_workers

pub told-requires-clause-few_events : goal.told-requires-clause-few_events
told-requires-clause-few_events g c = subst (λ (s : Shape). s.events ≤ 200000) (sym c.in_ok-ended.ensures.left.shape_is) c.requires.fit_shape.few_events

pub told-requires-clause-lanes : goal.told-requires-clause-lanes
told-requires-clause-lanes g c = subst (λ (s : Script). Each (λ (command : Command). command.lane < 2 ^ 8) s.commands) (sym c.in_ok-ended.ensures.left.script_is) c.requires.lanes

pub told-requires-clause-valid_actions : goal.told-requires-clause-valid_actions
told-requires-clause-valid_actions g c = subst (λ (s : Script). AreValidCommands s.commands) (sym c.in_ok-ended.ensures.left.script_is) c.requires.valid_actions

pub told-requires-clause-ended : goal.told-requires-clause-ended
told-requires-clause-ended g c =
    ended-as c.args.play.script.now c.in_ok-ended.ended.cluster.seen.script c.args.play.shape.now c.in_ok-ended.ended.cluster.seen.shape
    c.in_ok-ended.ended.cluster.seen c.in_ok-ended.ended.full refl refl c.in_ok-ended.ensures

pub returns : goal.returns
returns g c =
    report_of c.told.result c.args.play.threads c.args.play.script.now c.args.play.shape.now c.in_ok-ended.ended.cluster.seen c.in_ok-ended.ended.full
    c.in_ok-ended.ensures.left c.args.play.some c.told.ensures.full c.told.ensures.report
