use Rattle.std.proofs.Common.{ap, ◌∙◌}
use Rattle.std.specs.Prelude.{unwrap_or}
use Rattle.jc_log.specs.Log.{made_for}
use Rattle.jc_store.proofs.store.Store.made_for.Goals as goal

pub returns : goal.returns
returns c =
    c.unwrap_or.ensures
    ∙ ap (λ o. unwrap_or o 0) (c.copied.ensures ∙ c.get.ensures.value)
    ∙ c.self.invariant.made_before c.args.owner
    ∙ ap (made_for c.args.owner) c.self.view_is
