-- Where nothing was listed, the others are all.
use Rattle.std.proofs.Common.{◌≡◌, IfOk, List, subst}
use Rattle.jc_types.specs.declared.numbers.Uid.{Uid}
use Rattle.jc_account.proofs.ShortFacts.{merged-none}
use Rattle.jc_account.proofs.uids.merged.Goals as goal

pub returns-then-is_empty-2-clause-merged : goal.returns-then-is_empty-2-clause-merged
returns-then-is_empty-2-clause-merged c =
    subst (λ (us : List Uid). IfOk c.copy-then-is_empty-2.result (λ list. list ≡ us))
    (merged-none c.args.uids.now c.args.more.now (c.is_empty-2.ensures.0 c.if-is_empty-2.true) c.requires)
    c.copy-then-is_empty-2.ensures
