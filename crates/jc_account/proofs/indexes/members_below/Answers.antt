-- The members below a number are the first ones.
use Rattle.std.proofs.Common.{◌≡◌, List, ℕ, IfOk, take, ap, sym, subst, ◌∙◌}
use Rattle.jc_account.proofs.IndexFacts.{all-below, first-below}
use Rattle.jc_account.proofs.indexes.members_below.Goals as goal

pub returns-then-count-len : goal.returns-then-count-len
returns-then-count-len c =
    subst (λ (ys : List ℕ). IfOk c.copy.result (λ r. r ≡ ys))
    (all-below c.args.end c.args.set.now c.len.ensures.set.increasing (sym c.below-count.ensures ∙ c.if-count-len.true ∙ c.len.ensures.count)) c.copy.ensures

pub returns : goal.returns
returns c =
    subst (λ (ys : List ℕ). IfOk c.first_members.result (λ r. r ≡ ys))
    (ap (λ k. take k c.args.set.now) c.below-count.ensures ∙ first-below c.args.end c.args.set.now c.len.ensures.set.increasing) c.first_members.ensures
