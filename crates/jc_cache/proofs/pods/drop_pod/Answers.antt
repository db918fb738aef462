use Rattle.std.proofs.Common.{Some, ap, sym, ◌∙◌}
use Rattle.std.specs.Option.{option_copied_mut}
use Rattle.std.proofs.lemmas.Map.Steps.{set_value_same}
use Rattle.jc_types.specs.Keys.{same_key}
use Rattle.jc_table.proofs.ResultFacts.{on_err}
use Rattle.jc_cache.proofs.CacheFacts.{drop-last}
use Rattle.jc_cache.proofs.pods.drop_pod.Goals as goal

-- The pods of the owner are as before, and so are all rows.
pub returns-in_err-drop_pod-clause-kept : goal.returns-in_err-drop_pod-clause-kept
returns-in_err-drop_pod-clause-kept c =
    on_err c.from_residual.result _
    ((c.get_mut.follows.holds c.drop_pod.new.self).0
    ∙ set_value_same (same_key c.args.pod.now.owner) c.args.rows.now.entries c.drop_pod.new.self
    (sym c.get_mut.ensures.value ∙ ap option_copied_mut c.in-Some.is ∙ ap Some (sym c.in_err-drop_pod.ensures.kept)))

-- No pod of the owner is left.
pub returns-then-is_empty-clause-drops : goal.returns-then-is_empty-clause-drops
returns-then-is_empty-clause-drops c =
    drop-last c.args.rows.now.entries (c.get_mut.follows.lender c.drop_pod.new.self).entries c.swap_remove.new.self.entries c.args.pod.now c.drop_pod.new.self c.in-Some.pods.now
    (c.get_mut.follows.holds c.drop_pod.new.self).0
    (sym c.get_mut.ensures.value ∙ ap option_copied_mut c.in-Some.is)
    c.in_ok-drop_pod.ensures.drops (c.is_empty.ensures.0 c.if-is_empty.true) c.swap_remove.ensures.updates.0
