-- Of the pods to look at the same are marked as of all.
use Rattle.std.proofs.Common.{◌≡◌, [], IfOk, subst, ◌∙◌}
use Rattle.jc_manage.proofs.NotedFacts.{marks-noted}
use Rattle.jc_manage.proofs.let_goes.marks.Goals as goal

pub returns : goal.returns
returns c =
    subst (λ us. IfOk c.list_of-2.result (λ uids. uids ≡ us))
    (c.as_slice-3.ensures.value ∙ c.in_ok-uids-2.ensures
    ∙ marks-noted c.args.target c.if-target.false c.args.job.now c.args.pods.now _ [] [] (c.as_slice-2.ensures.value ∙ c.in_ok-noted.ensures.pods))
    c.list_of-2.ensures
