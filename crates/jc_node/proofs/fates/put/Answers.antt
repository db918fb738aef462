-- A map is written as a table is.
use Rattle.std.proofs.Common.{◌∙◌}
use Rattle.jc_types.specs.Keys.{same_key}
use Rattle.jc_cache.proofs.CopyFacts.{insert_entry-puts}
use Rattle.jc_node.proofs.fates.put.Goals as goal

pub returns-clause-puts : goal.returns-clause-puts
returns-clause-puts c = c.in_ok-insert.ensures.entries ∙ insert_entry-puts same_key c.args.key c.args.ends c.args.rows.now.entries

pub returns-clause-sets : goal.returns-clause-sets
returns-clause-sets c = c.in_ok-insert.ensures.updates.0
