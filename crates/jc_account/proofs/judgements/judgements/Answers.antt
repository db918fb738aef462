use Rattle.std.proofs.Common.{◌≡◌, List, IfOk, rules, tests, subst}
use Rattle.std.proofs.lemmas.Iterator.{YieldsList-from_slice, items_from_collect}
use Rattle.std.proofs.lemmas.Iterator.Consumers.{YieldsList-at, YieldsList-from_filter, YieldsList-from_filter_map}
use Rattle.jc_states.specs.Bases.{is_own, own_pods}
use Rattle.jc_account.specs.declared.judgements.Judgement.{Judgement}
use Rattle.jc_account.specs.Judgements.{judgement_if_new}
use Rattle.jc_account.proofs.JudgementFacts.{rows-new}
use Rattle.jc_account.proofs.judgements.judgements.Goals as goal

-- The list that the chain gives, from the pods on.
pub returns : goal.returns
returns c =
    subst (λ (list : List Judgement). IfOk c.collect.result (λ rows. rows.items ≡ list))
    (rows-new c.args.job.now (own_pods c.args.job.now c.args.pods.now))
    (items_from_collect _ c.collect.ensures.ran
    (YieldsList-from_filter_map _ (judgement_if_new c.args.job.now)
    (YieldsList-at c.filter_map.ensures.source
    (YieldsList-from_filter _ (is_own c.args.job.now) (YieldsList-at c.filter.ensures.source (YieldsList-from_slice c.args.pods.now (cc))) c.filter.ensures.closure (λ x r q k. search (rules, tests))))
    c.filter_map.ensures.closure (λ x r q k. search rules)))
