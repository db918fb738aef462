use Rattle.std.proofs.Common.{Some, ap, arith, length, subst, sym, ◌∙◌}
use Rattle.std.specs.Option.{option_copied_mut}
use Rattle.std.proofs.lemmas.Map.Steps.{set_value_same}
use Rattle.jc_types.specs.declared.objects.Pod.{Pod}
use Rattle.jc_types.specs.Keys.{same_key}
use Rattle.jc_log.specs.Tables.{Sets, at}
use Rattle.jc_states.specs.PodLists.{put_pod}
use Rattle.jc_table.proofs.ResultFacts.{on_err}
use Rattle.jc_cache.proofs.CacheFacts.{pods_there, put-first}
use Rattle.jc_cache.proofs.pods.put_pod.Goals as goal

-- The owner's pods are those that stand at its key.
pub put-requires : goal.put-requires
put-requires c =
    let are =
    pods_there c.args.pod.now.owner c.in-Some.pods.now c.args.rows.now.entries
    (ap (λ (pod : Pod). at same_key c.args.rows.now.entries pod.owner) (sym c.deref.ensures) ∙ sym c.get_mut.ensures.value ∙ ap option_copied_mut c.in-Some.is) in
    record { few_pods = omega (arith, c.requires.few_pods, ap length are) }

-- The pods of the owner are as before, and so are all rows.
pub returns-in_err-put-clause-kept : goal.returns-in_err-put-clause-kept
returns-in_err-put-clause-kept c =
    on_err c.from_residual-in_err-put.result _
    ((c.get_mut.follows.holds c.put.new.self).0
    ∙ set_value_same (same_key c.deref.result.now.owner) c.args.rows.now.entries c.put.new.self
    (sym c.get_mut.ensures.value ∙ ap option_copied_mut c.in-Some.is ∙ ap Some (sym c.in_err-put.ensures.kept)))

-- The owner had no row.
pub returns-clause-puts : goal.returns-clause-puts
returns-clause-puts c =
    put-first c.args.rows.now.entries c.get_mut.follows.lender-at-none.entries c.insert.new.self.entries c.args.pod.now c.in_ok-again.again c.in_ok-owner.owner c.in_ok-new.field-0
    (λ i. (c.get_mut.follows.holds-at-none i).entries) (c.in_ok-owner.ensures ∙ ap (λ (pod : Pod). pod.owner) c.deref.ensures) c.in_ok-again.ensures
    (c.in_ok-new.ensures ∙ c.in_ok-put-2.ensures.puts ∙ ap (put_pod c.in_ok-again.again) c.new-pods.ensures)
    (ap (λ (pod : Pod). at same_key c.args.rows.now.entries pod.owner) (sym c.deref.ensures) ∙ sym c.get_mut.ensures.value ∙ ap option_copied_mut c.in_default.is)
    (subst (λ key. Sets same_key c.get_mut.follows.lender-at-none.entries c.insert.new.self.entries key (Some c.in_ok-new.field-0)) c.owner.view_is c.in_ok-insert.ensures.updates.0)
