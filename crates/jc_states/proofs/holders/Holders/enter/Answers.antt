use Rattle.std.proofs.Common.{◌+◌, ap, cond, sym, ◌∙◌}
use Rattle.std.proofs.lemmas.Result.{on_ok_weaker}
use Rattle.jc_states.specs.Holders.{held_in}
use Rattle.jc_states.proofs.HolderFacts.{holds-index, none-entered}
use Rattle.jc_states.proofs.holders.Holders.enter.Goals as goal

pub returns-in-None-clause-enters : goal.returns-in-None-clause-enters
returns-in-None-clause-enters c owner n = none-entered owner n (held_in owner n c.args.self.now) c.args.pod.now (sym c.held_index.ensures ∙ c.in-None.is)

pub returns-in-Some-clause-enters : goal.returns-in-Some-clause-enters
returns-in-Some-clause-enters c =
    on_ok_weaker c.add.result
    (λ counts owner n.
    counts owner n
    ∙ ap (λ b. held_in owner n c.args.self.now + cond b 1 0) (sym (holds-index owner n c.in-Some.index c.args.pod.now (sym c.held_index.ensures ∙ c.in-Some.is))))
    c.add.ensures.adds
