use Rattle.std.proofs.Common.{◌-◌, ap, cond, sym, ◌∙◌}
use Rattle.jc_states.specs.Holders.{held_in}
use Rattle.jc_states.proofs.HolderFacts.{holds-index, none-left}
use Rattle.jc_states.proofs.holders.Holders.leave.Goals as goal

pub returns-in-Some : goal.returns-in-Some
returns-in-Some c owner n =
    c.remove.ensures owner n
    ∙ ap (λ b. held_in owner n c.args.self.now - cond b 1 0) (sym (holds-index owner n c.in-Some.index c.args.pod.now (sym c.held_index.ensures ∙ c.in-Some.is)))

pub returns-in_default : goal.returns-in_default
returns-in_default c owner n = none-left owner n (held_in owner n c.args.self.now) c.args.pod.now (sym c.held_index.ensures ∙ c.in_default.is)
