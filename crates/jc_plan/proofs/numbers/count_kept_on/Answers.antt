-- The pods that both filters let through are counted.
use Rattle.std.proofs.Common.{◌&&◌, rules, tests}
use Rattle.std.proofs.lemmas.Iterator.{YieldsList-from_slice}
use Rattle.std.proofs.lemmas.Iterator.Consumers.{count_from_yields_List, YieldsList-from_filter, YieldsList-at}
use Rattle.jc_states.specs.Bases.{is_own}
use Rattle.jc_states.specs.Pods.{is_ready}
use Rattle.jc_plan.specs.PodNumbers.{keeps_on}
use Rattle.jc_plan.proofs.numbers.count_kept_on.Goals as goal

pub returns : goal.returns
returns c =
    count_from_yields_List c.filter-2.result _ c.count.ensures.ran
    (YieldsList-from_filter _ (λ pod. is_ready pod && keeps_on c.args.wants.now pod)
    (YieldsList-at c.filter-2.ensures.source
    (YieldsList-from_filter _ (is_own c.args.job.now) (YieldsList-at c.filter.ensures.source (YieldsList-from_slice c.args.pods.now (cc))) c.filter.ensures.closure
    (λ x r q k. search (rules, tests))))
    c.filter-2.ensures.closure (λ x r q k. search (rules, tests)))
