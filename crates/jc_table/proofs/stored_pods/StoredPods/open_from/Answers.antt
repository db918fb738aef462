use Rattle.std.proofs.Common.{◌&&◌, None, Some, ap, find, nat_le, option_copied, refl, sym, ◌∙◌}
use Rattle.jc_states.specs.Pods.{is_open}
use Rattle.jc_table.proofs.OpenPods.{open_from-none, open_from-some}
use Rattle.jc_table.proofs.stored_pods.StoredPods.open_from.Goals as goal

-- No open pod's number lies there.
pub returns-in_err-number : goal.returns-in_err-number
returns-in_err-number c =
    ap option_copied c.from_residual.ensures
    ∙ sym (open_from-none c.self.inside.numbers.keys c.self.inside.all c.self.invariant c.args.uid None c.in_err-number.ensures refl)
    ∙ ap (find (λ pod. nat_le c.args.uid.0 pod.uid.0 && is_open pod)) c.self.view_is

-- The pod is that of the first number.
pub returns : goal.returns
returns c =
    c.get.ensures
    ∙ open_from-some c.self.inside.numbers.keys c.self.inside.all c.self.invariant c.args.uid (Some c.in_ok-number.number) c.in_ok-number.ensures c.in_ok-number.number refl
    ∙ ap (find (λ pod. nat_le c.args.uid.0 pod.uid.0 && is_open pod)) c.self.view_is
