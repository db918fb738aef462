use Rattle.std.proofs.Common.{◌≤◌, length, subst, sym, ◌∙◌, ℕ}
use Rattle.jc_states.specs.Holders.{holders_of}
use Rattle.jc_states.proofs.HolderFacts.{held-apart, held-twice}
use Rattle.jc_states.proofs.pod_lists.Pods.shares_index.Goals as goal

pub returns-clause-apart : goal.returns-clause-apart
returns-clause-apart c none n =
    subst (λ pods. length (holders_of c.args.owner n pods) ≤ 1) c.self.view_is
    (held-apart c.args.owner c.self.inside.pods.items c.self.inside.holders c.self.invariant.held (sym c.shares.ensures ∙ none) n)

pub returns-clause-shared : goal.returns-clause-shared
returns-clause-shared c more =
    subst (λ pods. (n : ℕ) × (2 ≤ length (holders_of c.args.owner n pods))) c.self.view_is
    (held-twice c.args.owner c.self.inside.pods.items c.self.inside.holders c.self.invariant.held (sym c.shares.ensures ∙ more))
