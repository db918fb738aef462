use Rattle.std.proofs.Common.{◌<◌, ◌^◌, arith, ap, ◌∙◌, length, rules}
use Rattle.std.proofs.lemmas.List.{length-map, length-reverse}
use Rattle.jc_log.specs.Deeds.{deed}
use Rattle.jc_runs.specs.Seen.{deeds_seen}
use Rattle.jc_runs.proofs.BackoffFacts.{log_short}
use Rattle.jc_report.proofs.drafted.report_of_machine.Goals as goal

-- The log has at most one entry for each event, and there are no more events than a number of 32 bits says.
pub draft_of_parts-requires-clause-few_entries : goal.draft_of_parts-requires-clause-few_entries
draft_of_parts-requires-clause-few_entries c =
    let seen = c.args.machine in
    let few = c.history.ensures.few_events in
    let fits : seen.shape.events < 2 ^ 32 = search rules in
    let short = log_short seen.shape (deeds_seen seen) in
    let deeds = length-map seen.pasts (deed seen.script) in
    let same = ap length (c.log.ensures.entries ∙ c.store-store.ensures) in
    let back = length-reverse c.log.result.now in
    omega (arith, few, fits, short, deeds, same, back)
