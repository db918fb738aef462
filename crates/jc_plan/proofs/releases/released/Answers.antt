-- Of the pods to look at the same lose their finalizer as of all.
use Rattle.std.proofs.Common.{◌≡◌, [], IfOk, filter, ap, sym, subst, ◌∙◌}
use Rattle.jc_states.specs.Noted.{needs_look}
use Rattle.jc_states.specs.PodLists.{IsRising}
use Rattle.jc_states.specs.UidLists.{Ascends, uids_of}
use Rattle.jc_plan.specs.Releases.{is_released}
use Rattle.jc_plan.proofs.NotedFacts.{due-ascends, releases-noted}
use Rattle.jc_plan.proofs.releases.released.Goals as goal

pub released_of-requires-clause-ascends : goal.released_of-requires-clause-ascends
released_of-requires-clause-ascends c =
    let basis = c.args.basis.now in
    subst Ascends (sym (c.as_slice-uids.ensures ∙ c.requires)) (due-ascends basis.job basis.pods (subst IsRising c.deref.ensures c.as_slice-pods.ensures.rising))

pub released_of-requires-2-clause-ascends : goal.released_of-requires-2-clause-ascends
released_of-requires-2-clause-ascends c =
    let basis = c.args.basis.now in
    subst Ascends (sym (c.as_slice-uids.ensures ∙ c.requires)) (due-ascends basis.job basis.pods (subst IsRising c.deref.ensures c.as_slice-pods.ensures.rising))

-- Where it is plain which do, those are told.
pub returns-then-are_just_due : goal.returns-then-are_just_due
returns-then-are_just_due c =
    subst (λ us. IfOk c.copy.result (λ uids. uids ≡ us)) (sym (c.are_just_due.ensures c.if-are_just_due.true)) c.copy.ensures

pub returns : goal.returns
returns c =
    let basis = c.args.basis.now in
    let due = c.as_slice-uids.result.now in
    subst (λ us. IfOk c.released_of-2.result (λ uids. uids ≡ us))
    (ap (λ pods. uids_of (filter (is_released basis) pods))
    (c.as_slice.ensures.value ∙ c.in_ok-noted.ensures.pods ∙ (λ i. filter (needs_look (c.deref-4.ensures i).uid due []) (c.deref-3.ensures i)))
    ∙ releases-noted basis c.in-Some.job due [] c.in-Some.is (c.as_slice-uids.ensures ∙ c.requires))
    c.released_of-2.ensures
