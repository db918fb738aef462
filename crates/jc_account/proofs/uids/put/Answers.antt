-- The UID is put at its place.
use Rattle.std.proofs.Common.{sym, ◌∙◌}
use Rattle.jc_account.proofs.Placed.{with_before, with_last, with_there}
use Rattle.jc_account.proofs.uids.put.Goals as goal

pub returns-then-index-uid : goal.returns-then-index-uid
returns-then-index-uid c =
    sym (with_there c.args.uid c.index.result.now c.args.uids.now.items c.in-Some.place
    c.in-Some.ensures.place c.index.ensures c.if-index-uid.true)

pub returns-in_ok-push_back-in-None : goal.returns-in_ok-push_back-in-None
returns-in_ok-push_back-in-None c =
    c.in_ok-push_back-in-None.ensures.items
    ∙ sym (with_last c.args.uid c.args.uids.now.items c.in-None.ensures.place)

pub returns-in_ok-insert-in-Some : goal.returns-in_ok-insert-in-Some
returns-in_ok-insert-in-Some c =
    c.in_ok-insert-in-Some.ensures.items
    ∙ sym (with_before c.args.uid c.index.result.now c.args.uids.now.items c.in-Some.place
    c.in-Some.ensures.place c.index.ensures c.if-index-uid.false)
