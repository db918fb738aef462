use Rattle.std.proofs.Common.{not, nat_eq, unwrap_or, rules, tests}
use Rattle.std.proofs.lemmas.Iterator.{YieldsList-from_map, YieldsList-from_slice, items_from_collect}
use Rattle.std.proofs.lemmas.Iterator.Consumers.{YieldsList-at, YieldsList-from_filter}
use Rattle.jc_states.specs.Bases.{is_own}
use Rattle.std.specs.HashMap.{get}
use Rattle.jc_states.specs.Pods.{is_tracked_active}
use Rattle.jc_manage.specs.LetGoes.{is_needless}
use Rattle.jc_manage.specs.Ranks.{is_spare_by, rank_of}
use Rattle.jc_manage.proofs.let_goes.ranks_of.Goals as goal

-- The list that the chain gives, from the pods on.
pub returns : goal.returns
returns c =
    items_from_collect _ c.collect.ensures.ran
    (YieldsList-from_map _ (rank_of c.args.job.now.spec.mode)
    (YieldsList-at c.map.ensures.source
    (YieldsList-from_filter _ (λ pod. not (is_spare_by c.args.job.now.spec.mode (is_needless (unwrap_or c.args.job.now.spec.completions 0) c.args.counted.now) (λ index. get nat_eq c.args.holders.now index) pod))
    (YieldsList-at c.filter-3.ensures.source
    (YieldsList-from_filter _ is_tracked_active
    (YieldsList-at c.filter-2.ensures.source
    (YieldsList-from_filter _ (is_own c.args.job.now) (YieldsList-at c.filter.ensures.source (YieldsList-from_slice c.args.pods.now (cc))) c.filter.ensures.closure (λ x r q k. search (rules, tests))))
    c.filter-2.ensures.closure (λ x r q k. search (rules, tests))))
    c.filter-3.ensures.closure (λ x r q k. search (rules, tests))))
    c.map.ensures.closure (λ x r q k. search rules))
