use Rattle.std.proofs.Common.{rules, tests, eqb, ap, ◌∙◌}
use Rattle.std.specs.Prelude.{filter}
use Rattle.std.proofs.lemmas.Fn.{filter_same}
use Rattle.jc_types.specs.declared.objects.Pod.{Pod}
use Rattle.jc_store.proofs.pod_table.owned.Goals as goal

pub returns : goal.returns
returns c =
    filter_same _ (λ (p : Pod). eqb p.owner_uid.0 c.args.owner.0) _ (λ x b f' r. search (rules, tests)) _ _ c.retain.ensures.filtered
    ∙ ap (filter (λ (p : Pod). eqb p.owner_uid.0 c.args.owner.0)) c.in_ok-pods.ensures
