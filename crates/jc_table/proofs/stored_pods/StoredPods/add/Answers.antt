use Rattle.std.proofs.Common.{find, ap, nat_cmp, ◌∙◌}
use Rattle.std.specs.BTreeMap.{is_at}
use Rattle.std.specs.BTreeSet.{insert_key}
use Rattle.std.specs.Set.{remove_key}
use Rattle.jc_types.specs.Keys.{same_uid}
use Rattle.jc_table.proofs.OpenPods.{add-knows, back-knows}
use Rattle.jc_table.proofs.stored_pods.StoredPods.add.Goals as goal

pub invariant_of-self-in-Ok : goal.invariant_of-self-in-Ok
invariant_of-self-in-Ok c =
    add-knows c.self.inside.numbers.keys c.self.inside.all c.self.invariant c.args.pod c.insert.new.self.keys c.put.new.self
    c.requires.begins_open
    (c.in_ok-insert.ensures.keys ∙ ap (λ pod. insert_key nat_cmp c.self.inside.numbers.keys pod.uid.0) c.deref.ensures) c.in-Ok.ensures.puts

-- The number is taken back.
pub invariant_of-self-in-Err : goal.invariant_of-self-in-Err
invariant_of-self-in-Err c =
    back-knows c.self.inside.numbers.keys c.self.inside.all c.self.invariant c.args.pod c.insert.new.self.keys c.remove.new.self.keys c.put.new.self
    (ap (find (λ p. same_uid p.uid c.args.pod.uid)) c.self.view_is ∙ c.requires.absent)
    (c.in_ok-insert.ensures.keys ∙ ap (λ pod. insert_key nat_cmp c.self.inside.numbers.keys pod.uid.0) c.deref.ensures)
    (c.remove.ensures.keys ∙ ap (λ pod. remove_key (is_at (nat_cmp pod.uid.0)) c.insert.new.self.keys) c.deref.ensures) c.in-Err.ensures.kept
