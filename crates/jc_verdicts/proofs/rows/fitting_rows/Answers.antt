use Rattle.std.proofs.Common.{ap, length, refl, sym, ◌∙◌}
use Rattle.std.proofs.lemmas.Bool.{eqb-true}
use Rattle.jc_types.specs.Keys.{same_uid}
use Rattle.jc_log.specs.Tables.{at}
use Rattle.jc_verdicts.proofs.FrontFacts.{rows-each}
use Rattle.jc_verdicts.proofs.VerdictRows.{fitting_result, no_rows}
use Rattle.jc_verdicts.proofs.rows.fitting_rows.Goals as goal

-- No pod is still to be judged.
pub returns-then-is_empty : goal.returns-then-is_empty
returns-then-is_empty c =
    let spec = c.args.spec.now in
    let known = at same_uid c.args.known.now.entries in
    no_rows spec known c.args.pods.now c.in_ok-rows.rows.items
    (rows-each spec known c.args.pods.now (length c.args.pods.now) c.in_ok-rows.rows.items refl c.in_ok-rows.ensures)
    (ap length (sym c.as_slice.ensures.value) ∙ eqb-true _ _ (sym c.is_empty.ensures ∙ c.if-is_empty.true))

-- The rows of those that are still to be judged for which there is room.
pub returns : goal.returns
returns c =
    let spec = c.args.spec.now in
    let known = at same_uid c.args.known.now.entries in
    let pods = c.args.pods.now in
    let are = rows-each spec known pods (length pods) c.in_ok-rows.rows.items refl c.in_ok-rows.ensures in
    fitting_result spec known pods c.space-space.result c.as_slice-2.result.now c.in_ok-rows.rows.items c.first_beyond-first.result c.requires.rising c.space-space.ensures
    (c.as_slice-2.ensures.value ∙ are) are c.first_beyond-first.ensures c.retain_within.new.rows.items c.retain_within.ensures
