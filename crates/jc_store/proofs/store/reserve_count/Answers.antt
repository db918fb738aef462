use Rattle.jc_store.proofs.Keeps.{counted_row, counts_with_row, row_put}
use Rattle.jc_store.proofs.store.reserve_count.Goals as goal

-- An owner that was counted has a row.
pub returns-then-count-gt0-clause-row : goal.returns-then-count-gt0-clause-row
returns-then-count-gt0-clause-row c =
    counted_row c.args.made.now.entries c.args.owner c.args.count c.requires c.if-count-gt0.true

pub returns-clause-counts : goal.returns-clause-counts
returns-clause-counts c =
    counts_with_row c.args.made.now.entries c.insert.new.self.entries c.args.owner c.args.count c.requires c.in_ok-insert.ensures.updates.0

pub returns-clause-row : goal.returns-clause-row
returns-clause-row c = row_put c.args.made.now.entries c.insert.new.self.entries c.args.owner c.args.count c.in_ok-insert.ensures.updates.0
