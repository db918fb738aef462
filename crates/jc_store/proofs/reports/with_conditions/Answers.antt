-- At most one that is given where there was none is all.
use Rattle.std.proofs.Common.{◌≡◌, IfOk, arith, subst, sym}
use Rattle.jc_store.proofs.Patterns.{only_given}
use Rattle.jc_store.proofs.reports.with_conditions.Goals as goal

pub returns-then-len-le1 : goal.returns-then-len-le1
returns-then-len-le1 c =
    subst (λ l. IfOk c.copy.result (λ r. r ≡ l))
    (sym (only_given c.args.conditions.now c.args.given.now (c.is_empty.ensures.0 c.if-is_empty.true) (omega (arith, c.if-len-le1.true, c.len.ensures))))
    c.copy.ensures
