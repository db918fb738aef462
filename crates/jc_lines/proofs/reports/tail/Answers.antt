use Rattle.std.proofs.Common.{◌∙◌, ap, reverse}
use Rattle.jc_verdicts.specs.Books.{verdicts_at}
use Rattle.jc_ledger.specs.declared.counts.Verdicts.{Verdicts}
use Rattle.jc_log.specs.Log.{jobs_in}
use Rattle.jc_types.specs.declared.numbers.Uid.{Uid}
use Rattle.jc_lines.specs.Reports.{in_order, jobs_text, verdicts_in}
use Rattle.jc_lines.proofs.Texts.{jobs_text-same}
use Rattle.jc_lines.proofs.reports.tail.Goals as goal

-- The lines of the Jobs by their verdicts.
pub returns : goal.returns
returns c =
    let log = reverse c.args.log.now in
    let counted = verdicts_in c.args.script.now c.args.history.now.events.items log in
    let written : Uid → Verdicts = λ j. verdicts_at j c.in_ok-rows.rows in
    c.in_ok-text.ensures
    ∙ ap (jobs_text written) (c.as_slice.ensures ∙ c.in_ok-list.ensures ∙ ap in_order c.requires.jobs)
    ∙ jobs_text-same written counted c.in_ok-rows.ensures.counts (in_order (jobs_in log))
