use Rattle.std.specs.Map.Iter.{deref}
use Rattle.std_collections.proofs.IterRuns.{shows_in_order}
use Rattle.jc_table.proofs.by_key.Table.values.Goals as goal

-- Each step hands out the first of what is left.
pub returns-clause-runs : goal.returns-clause-runs
returns-clause-runs g c = shows_in_order deref
