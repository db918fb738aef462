use Rattle.std.proofs.Common.{ap, is_some, nat_cmp, ◌∙◌}
use Rattle.std.specs.BTreeMap.{is_at}
use Rattle.std.specs.Map.{lookup, set_value}
use Rattle.jc_table.proofs.PodRows.{get-is, set-order, set-puts}
use Rattle.jc_table.proofs.by_uid.PodTable.replace.Goals as goal

pub set-requires : goal.set-requires
set-requires c =
    ap is_some
    (ap (λ n. lookup (is_at (nat_cmp n)) c.self.inside.rows) (c.from.ensures ∙ ap (λ pod. pod.uid.0) c.deref.ensures)
    ∙ get-is c.self.inside.rows c.args.self.now c.self.invariant c.self.view_is c.args.pod.uid)
    ∙ c.requires

pub invariant_of-self : goal.invariant_of-self
invariant_of-self c =
    set-order c.self.inside.rows c.args.self.now c.self.invariant c.self.view_is c.args.pod c.set.new.self c.requires
    (c.set.ensures ∙ ap (λ n. set_value (is_at (nat_cmp n)) c.self.inside.rows c.args.pod) (c.from.ensures ∙ ap (λ pod. pod.uid.0) c.deref.ensures))

pub returns : goal.returns
returns c =
    set-puts c.self.inside.rows c.args.self.now c.self.invariant c.self.view_is c.args.pod c.set.new.self c.requires
    (c.set.ensures ∙ ap (λ n. set_value (is_at (nat_cmp n)) c.self.inside.rows c.args.pod) (c.from.ensures ∙ ap (λ pod. pod.uid.0) c.deref.ensures))
