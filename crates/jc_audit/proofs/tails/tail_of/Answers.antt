use Rattle.std.proofs.Common.{◌∙◌}
use Rattle.jc_audit.proofs.ReportFacts.{tail_is}
use Rattle.jc_audit.proofs.tails.tail_of.Goals as goal

pub returns : goal.returns
returns c =
    c.in_ok-text.ensures
    ∙ tail_is c.args.machine.now c.script.result.now c.history.result.now.events.items c.log.result.now c.script.ensures c.history.ensures.events
    (c.log.ensures.entries ∙ c.store-store.ensures)
