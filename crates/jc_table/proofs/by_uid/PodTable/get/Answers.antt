use Rattle.std.proofs.Common.{ap, nat_cmp, ◌∙◌}
use Rattle.std.specs.BTreeMap.{is_at}
use Rattle.std.specs.Map.{lookup}
use Rattle.jc_table.proofs.PodRows.{get-is}
use Rattle.jc_table.proofs.by_uid.PodTable.get.Goals as goal

pub returns : goal.returns
returns c =
    c.get.ensures ∙ ap (λ n. lookup (is_at (nat_cmp n)) c.self.inside.rows) c.from.ensures
    ∙ get-is c.self.inside.rows c.args.self.now c.self.invariant c.self.view_is c.args.uid
