use Rattle.std.proofs.Common.{ap, sym, ◌∙◌}
use Rattle.jc_history.specs.Play.{first_event}
use Rattle.jc_runs.specs.Seen.{deeds_seen, log_seen}
use Rattle.jc_play.proofs.FirstFacts.{first-here, first-later}
use Rattle.jc_play.proofs.UnheldFacts.{but-clock-left}
use Rattle.jc_play.proofs.unheld.but_clock_unheld.Goals as goal

pub returns-in-Some : goal.returns-in-Some
returns-in-Some c =
    let all = but-clock-left c.args.slots.now c.args.machine.now.shape (deeds_seen c.args.machine.now) (log_seen c.args.machine.now) in
    sym (ap first_event all ∙ first-here _ _ _ (sym c.first_list.ensures ∙ c.in-Some.is))

pub returns-in-Some-first_delivery : goal.returns-in-Some-first_delivery
returns-in-Some-first_delivery c =
    let all = but-clock-left c.args.slots.now c.args.machine.now.shape (deeds_seen c.args.machine.now) (log_seen c.args.machine.now) in
    sym (ap first_event all
    ∙ first-later _ _ (sym c.first_list.ensures ∙ c.in_default.is)
    ∙ first-here _ _ _ (sym c.first_delivery.ensures ∙ c.in-Some-first_delivery.is))

pub returns-in-Some-first_begin : goal.returns-in-Some-first_begin
returns-in-Some-first_begin c =
    let all = but-clock-left c.args.slots.now c.args.machine.now.shape (deeds_seen c.args.machine.now) (log_seen c.args.machine.now) in
    sym (ap first_event all
    ∙ first-later _ _ (sym c.first_list.ensures ∙ c.in_default.is)
    ∙ first-later _ _ (sym c.first_delivery.ensures ∙ c.in_default-first_delivery.is)
    ∙ first-later _ _ (sym c.first_unheld_step.ensures ∙ c.in_default-first_unheld_step.is)
    ∙ first-here _ _ _ (sym c.first_begin.ensures ∙ c.in-Some-first_begin.is))
