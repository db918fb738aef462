use Rattle.std.proofs.Common.{◌∙◌, sym, ap, subst, Ok, option_map}
use Rattle.jc_rows.specs.ManifestRows.{IsRefusal}
use Rattle.jc_policies.specs.SuccessPolicies.{indexes_read}
use Rattle.jc_policies.proofs.IndexFacts.{indexes_kept, indexes_said, indexes_broken}
use Rattle.jc_policies.proofs.success_policies.read_indexes.Goals as goal

pub returns-in-Some-2 : goal.returns-in-Some-2
returns-in-Some-2 c =
    let read = c.in_ok-text.ensures ∙ ap (λ o. Ok (option_map (λ text. text.now) o)) c.in-Some.is in
    let named = sym c.in-Some-2.is ∙ c.in_ok-set.ensures in (
      indexes_kept c.args.completions c.args.path.now _ _ _ read named,
      indexes_said c.args.completions c.args.path.now _ _ _ read named,
    )

pub returns-in-None : goal.returns-in-None
returns-in-None c =
    let read = c.in_ok-text.ensures ∙ ap (λ o. Ok (option_map (λ text. text.now) o)) c.in-Some.is in
    let named = sym c.in-None.is ∙ c.in_ok-set.ensures in
    subst (IsRefusal c.broken.result) (sym (indexes_broken c.args.completions c.args.path.now _ _ read named)) c.broken.ensures
