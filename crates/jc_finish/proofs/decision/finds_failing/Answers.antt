-- One of the own pods fails the Job where one of the pods is own and does.
use Rattle.std.proofs.Common.{◌∙◌, ◌&&◌, sym, rules, tests}
use Rattle.std.proofs.lemmas.Iterator.{YieldsList-from_slice}
use Rattle.std.proofs.lemmas.Iterator.Search.{any_from_yields_List}
use Rattle.jc_states.specs.Bases.{is_own}
use Rattle.jc_states.specs.Pods.{is_tracked}
use Rattle.jc_types.proofs.ListFacts.{any_filter}
use Rattle.jc_failpol.specs.FailJob.{fails_job}
use Rattle.jc_finish.proofs.decision.finds_failing.Goals as goal

pub returns : goal.returns
returns c =
    let pods = c.args.pods.now in
    let job = c.args.job.now in
    any_from_yields_List (λ pod. is_own job pod && (is_tracked pod && fails_job job.spec pod)) _ _ _ c.any.ensures.ran (YieldsList-from_slice pods cc) (λ x b q k. search (rules, tests))
    ∙ sym (any_filter (λ pod. is_tracked pod && fails_job job.spec pod) (is_own job) pods)
