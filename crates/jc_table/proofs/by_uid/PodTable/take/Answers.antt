use Rattle.std.proofs.Common.{ap, nat_cmp, ◌∙◌}
use Rattle.std.specs.BTreeMap.{is_at}
use Rattle.std.specs.Map.{lookup, remove_entry}
use Rattle.jc_table.proofs.PodRows.{get-is, take-drops, take-order}
use Rattle.jc_table.proofs.by_uid.PodTable.take.Goals as goal

pub invariant_of-self : goal.invariant_of-self
invariant_of-self c =
    take-order c.self.inside.rows c.args.self.now c.self.invariant c.self.view_is c.args.uid c.remove.new.self
    (c.remove.ensures.entries ∙ ap (λ n. remove_entry (is_at (nat_cmp n)) c.self.inside.rows) c.from.ensures)

pub returns-clause-taken : goal.returns-clause-taken
returns-clause-taken c =
    c.remove.ensures.value ∙ ap (λ n. lookup (is_at (nat_cmp n)) c.self.inside.rows) c.from.ensures
    ∙ get-is c.self.inside.rows c.args.self.now c.self.invariant c.self.view_is c.args.uid

pub returns-clause-drops : goal.returns-clause-drops
returns-clause-drops c =
    take-drops c.self.inside.rows c.args.self.now c.self.invariant c.self.view_is c.args.uid c.remove.new.self
    (c.remove.ensures.entries ∙ ap (λ n. remove_entry (is_at (nat_cmp n)) c.self.inside.rows) c.from.ensures)
