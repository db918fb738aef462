use Rattle.std.proofs.Common.{◌≡◌, None, ap, find, nat_cmp, sym, ◌∙◌}
use Rattle.std.specs.BTreeMap.{insert_entry, is_at}
use Rattle.std.specs.Map.{lookup}
use Rattle.jc_types.specs.Keys.{same_uid}
use Rattle.jc_table.proofs.PodRows.{get-is, insert-order, insert-puts}
use Rattle.jc_table.proofs.ResultFacts.{on_err}
use Rattle.jc_table.proofs.by_uid.PodTable.put.Goals as goal

pub returns-in_err-insert-clause-new_uid : goal.returns-in_err-insert-clause-new_uid
returns-in_err-insert-clause-new_uid c =
    on_err c.from_residual.result (find (λ p. same_uid p.uid c.args.pod.uid) c.args.self.now ≡ None)
    (sym (get-is c.self.inside.rows c.args.self.now c.self.invariant c.self.view_is c.args.pod.uid)
    ∙ ap (λ n. lookup (is_at (nat_cmp n)) c.self.inside.rows) (sym (c.from.ensures ∙ ap (λ pod. pod.uid.0) c.deref.ensures)) ∙ c.in_err-insert.ensures.absent)

pub invariant_of-self-2 : goal.invariant_of-self-2
invariant_of-self-2 c =
    insert-order c.self.inside.rows c.args.self.now c.self.invariant c.self.view_is c.args.pod c.insert.new.self
    (c.in_ok-insert.ensures.entries ∙ ap (λ n. insert_entry nat_cmp c.self.inside.rows n c.args.pod) (c.from.ensures ∙ ap (λ pod. pod.uid.0) c.deref.ensures))

pub returns-clause-puts : goal.returns-clause-puts
returns-clause-puts c =
    insert-puts c.self.inside.rows c.args.self.now c.self.invariant c.self.view_is c.args.pod c.insert.new.self
    (c.in_ok-insert.ensures.entries ∙ ap (λ n. insert_entry nat_cmp c.self.inside.rows n c.args.pod) (c.from.ensures ∙ ap (λ pod. pod.uid.0) c.deref.ensures))
