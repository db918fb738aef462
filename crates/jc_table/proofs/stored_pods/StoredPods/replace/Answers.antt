use Rattle.std.proofs.Common.{ap, find, if◌then◌else◌, nat_cmp, subst, sym, ◌∙◌}
use Rattle.std.specs.BTreeMap.{is_at}
use Rattle.std.specs.Set.{remove_key}
use Rattle.jc_states.specs.Pods.{is_open}
use Rattle.jc_types.specs.Keys.{same_uid}
use Rattle.jc_table.specs.Open.{CanReplace}
use Rattle.jc_table.proofs.OpenPods.{replace-knows}
use Rattle.jc_table.proofs.stored_pods.StoredPods.replace.Goals as goal

pub invariant_of-self : goal.invariant_of-self
invariant_of-self c =
    replace-knows c.self.inside.numbers.keys c.self.inside.all c.self.invariant c.args.pod c.close.new.numbers.keys c.replace.new.self
    (subst (λ pods. CanReplace c.args.pod (find (λ p. same_uid p.uid c.args.pod.uid) pods)) (sym c.self.view_is) c.requires)
    (c.close.ensures
    ∙ ap (λ pod. if is_open pod then c.self.inside.numbers.keys else remove_key (is_at (nat_cmp pod.uid.0)) c.self.inside.numbers.keys) c.deref.ensures)
    c.replace.ensures
