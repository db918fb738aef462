use Rattle.std.proofs.Common.{sym, ◌∙◌}
use Rattle.std.specs.List.{list_any}
use Rattle.jc_states.specs.Held.{is_between}
use Rattle.jc_states.proofs.RunFacts.{passes-further}
use Rattle.jc_states.proofs.held.Held.walk.Goals as goal

pub loop-index-preserved : goal.loop-index-preserved
loop-index-preserved c =
    passes-further (λ n. list_any (is_between n n) c.args.self.now) c.args.from c.loop-index.index c.loop-index.invariant
    (sym c.has_between.ensures ∙ c.if-not-has_between.false)
