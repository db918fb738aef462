-- What is asked of the commands that were read is asked of those that are played.
use Rattle.std.proofs.Common.{◌∙◌, ap, sym}
use Rattle.jc_types.specs.declared.actions.Script.{Script}
use Rattle.jc_promise.specs.Play.{whole_play}
use Rattle.jc_promise.specs.Plays.{ends_in_settle}
use Rattle.jc_single.specs.Played.{at_rest, then_reaped}
use Rattle.jc_single.proofs.ReapFacts.{settled_ends}
use Rattle.jc_single.proofs.WholeFacts.{report_is}
use Rattle.jc_single.proofs.reaps.settled_answer.Goals as goal

pub play_last-requires-clause-ends : goal.play_last-requires-clause-ends
play_last-requires-clause-ends c =
    ap (λ (s : Script). ends_in_settle s.commands) c.in_ok-settle_at_end.ensures ∙ settled_ends c.args.script.commands

pub returns : goal.returns
returns c =
    let shape = c.args.shape.now in
    let ttls = c.args.ttls.now in
    report_is (then_reaped (at_rest c.args.script.commands) shape ttls) shape c.in_ok-played.played c.print_report.result
    (c.in_ok-played.ensures.script ∙ ap (λ (s : Script). then_reaped s shape ttls) c.in_ok-settle_at_end.ensures)
    (ap (λ (s : Script). whole_play (then_reaped s shape ttls) shape) (sym c.in_ok-settle_at_end.ensures)
    ∙ c.in_ok-played.ensures.play)
    c.print_report.ensures.text c.print_report.ensures.full
