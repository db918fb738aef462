-- A generated script is valid and names neither controllers nor workers.
use Rattle.jc_single.proofs.ShapeFacts.{generated_is_few, generated_is_fine, generated_is_proper}
use Rattle.jc_single.proofs.WholeFacts.{few_events, summary_is}
use Rattle.jc_single.proofs.orders.generate_answer.Goals as goal

pub play_whole-requires-clause-valid_actions : goal.play_whole-requires-clause-valid_actions
play_whole-requires-clause-valid_actions c =
    generated_is_fine c.args.number c.args.jobs c.args.pods _ c.in_ok-script.ensures
    (c.generated_commands_are_valid.ensures.valid c.args.number c.args.jobs c.args.pods c.requires.some_pods
    c.requires.few_pods)

pub play_whole-requires-clause-fits_shape : goal.play_whole-requires-clause-fits_shape
play_whole-requires-clause-fits_shape c =
    generated_is_proper c.default_shape.result c.args.number c.args.jobs c.args.pods _ c.in_ok-script.ensures
    (c.generated_commands_are_valid.ensures.each c.args.number c.args.jobs c.args.pods)

pub play_whole-requires-clause-fits : goal.play_whole-requires-clause-fits
play_whole-requires-clause-fits c =
    generated_is_few c.args.number c.args.jobs c.args.pods _ c.in_ok-script.ensures
    (c.generated_scripts_are_fit.ensures.length c.args.number c.args.jobs c.args.pods) c.requires.few_jobs

pub play_whole-requires-clause-few_events : goal.play_whole-requires-clause-few_events
play_whole-requires-clause-few_events c = few_events _ _ c.default_shape.ensures c.orders_fit.ensures.default

pub returns : goal.returns
returns c =
    summary_is _ _ _ _ c.in_ok-played.played c.print_summary.result c.in_ok-script.ensures c.default_shape.ensures
    c.in_ok-played.ensures.play c.print_summary.ensures.text c.print_summary.ensures.full
