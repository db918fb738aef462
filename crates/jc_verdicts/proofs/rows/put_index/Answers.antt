use Rattle.std.proofs.Common.{Ok, Err, ◌∙◌}
use Rattle.jc_verdicts.proofs.VerdictRows.{searched_place}
use Rattle.jc_verdicts.proofs.rows.put_index.Goals as goal

-- The index is new, and put in its place.
pub returns-in_ok-insert : goal.returns-in_ok-insert
returns-in_ok-insert c =
    c.in_ok-insert.ensures.items
    ∙ searched_place c.args.index c.args.done.now.items c.as_slice.result.now (Err c.in-Err.place) c.as_slice.ensures.value c.requires c.in-Err.ensures.position

-- The index is there.
pub returns-in_default : goal.returns-in_default
returns-in_default c =
    searched_place c.args.index c.args.done.now.items c.as_slice.result.now (Ok c.in_default.field-0) c.as_slice.ensures.value c.requires c.in_default.ensures.position
