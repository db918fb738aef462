use Rattle.std.proofs.Common.{◌-◌, ap, sym, ◌∙◌, arith}
use Rattle.jc_ranges.specs.Sets.{with_member}
use Rattle.jc_states.specs.UidLists.{join}
use Rattle.jc_account.proofs.JudgementFacts.{index-next}
use Rattle.jc_account.proofs.judgements.with_indexes.Goals as goal

-- The index comes before those from the next place on.
pub loop-place-preserved-in_ok-insert : goal.loop-place-preserved-in_ok-insert
loop-place-preserved-in_ok-insert c =
    c.in_ok-insert.ensures.members ∙ ap (with_member c.in-Some.index) c.loop-place.invariant
    ∙ sym (ap (join c.args.kept)
    (index-next c.args.completions c.in-Some.index (c.loop-place.place - 1) c.loop-place.place c.args.rows.now _ (omega arith) (omega arith) c.in-Some.ensures c.if-index-completions.true))
