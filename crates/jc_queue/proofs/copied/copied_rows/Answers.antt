use Rattle.std.proofs.Common.{◌+◌, arith}
use Rattle.jc_queue.proofs.DelayFacts.{row-copied}
use Rattle.jc_queue.proofs.copied.copied_rows.Goals as goal

-- The row at the place is copied next.
pub loop-place-preserved : goal.loop-place-preserved
loop-place-preserved g c =
    row-copied c.args.rows.now.entries c.loop-place.table.entries c.insert.new.self.entries c.loop-place.place (c.loop-place.place + 1) (c.in-Some.key.now, c.in-Some.value.now) c.in_ok-copy.field-0
    c.in_ok-copy-2.field-0 c.len-place-end.ensures.unique
    c.in-Some.ensures.entry (omega arith) c.in_ok-copy.ensures c.in_ok-copy-2.ensures c.loop-place.invariant c.in_ok-insert.ensures.entries
