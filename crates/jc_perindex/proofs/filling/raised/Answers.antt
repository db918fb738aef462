-- Of the pods to look at the same have failed as of all.
use Rattle.std.proofs.Common.{◌≡◌, [], IfOk, ◌∙◌, subst, arith}
use Rattle.jc_perindex.specs.FillingSteps.{raise_each}
use Rattle.jc_perindex.proofs.NotedFacts.{some-failed, some-few, some-fit}
use Rattle.jc_perindex.proofs.filling.raised.Goals as goal

pub raise_each-requires-clause-few_pods : goal.raise_each-requires-clause-few_pods
raise_each-requires-clause-few_pods c =
    let few = some-few c.args.job.now c.args.pods.now _ c.args.uids.now [] (c.as_slice.ensures.value ∙ c.in_ok-noted.ensures.pods) in
    omega (arith, few, c.requires.few_pods)

pub raise_each-requires-clause-fit : goal.raise_each-requires-clause-fit
raise_each-requires-clause-fit c =
    let fit = some-fit c.args.job.now c.args.pods.now _ c.args.uids.now [] (c.as_slice.ensures.value ∙ c.in_ok-noted.ensures.pods) c.requires.failures in
    fit.fit

pub returns : goal.returns
returns c =
    let job = c.args.job.now in
    subst (λ pods. IfOk c.raise_each.result (λ counts. counts ≡ raise_each job.spec.failure job.status.index_failures pods))
    (some-failed job c.args.pods.now _ c.args.uids.now [] (c.as_slice.ensures.value ∙ c.in_ok-noted.ensures.pods))
    c.raise_each.ensures
