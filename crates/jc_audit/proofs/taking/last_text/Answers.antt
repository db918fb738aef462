use Rattle.std.proofs.Common.{sym, subst, ap, reverse, ◌∙◌}
use Rattle.jc_types.specs.declared.actions.Script.{Script}
use Rattle.jc_verdicts.specs.Verdicts.{IsPlace}
use Rattle.jc_audit.proofs.LastPlace.{newest_has_place}
use Rattle.jc_audit.proofs.taking.last_text.Goals as goal

pub put_event-requires : goal.put_event-requires
put_event-requires c =
    subst (λ (s : Script). IsPlace s.commands c.index-events-count.result.event) (sym c.script.ensures)
    (newest_has_place c.args.machine.now.script c.as_slice-events.result.now c.args.machine.now.pasts c.index-events-count.result
    (ap reverse c.as_slice-events.ensures ∙ c.history.ensures.events) c.index-events-count.is c.requires c.history.ensures.lanes)
