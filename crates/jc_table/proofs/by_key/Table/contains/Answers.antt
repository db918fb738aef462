use Rattle.std.proofs.Common.{is_some, ap, ◌∙◌}
use Rattle.jc_log.specs.Tables.{at}
use Rattle.jc_table.proofs.RowFacts.{is_there}
use Rattle.jc_table.proofs.by_key.Table.contains.Goals as goal

-- A key has a number exactly where it has a row.
pub returns : goal.returns
returns g c =
    c.contains_key.ensures
    ∙ is_there g.K.PartialEq.eq c.self.inside.rows c.self.inside.numbers.entries c.self.inside.next c.self.invariant c.args.key.now
    ∙ ap (λ rows. is_some (at g.K.PartialEq.eq rows c.args.key.now)) c.self.view_is
