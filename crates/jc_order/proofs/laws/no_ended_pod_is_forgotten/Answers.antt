-- The lemmas on keys that find no rest.
use Rattle.jc_order.proofs.ForgetFacts.{both, no-rest}
use Rattle.jc_order.proofs.HonestFacts as honesty
use Rattle.jc_order.proofs.RestlessFacts as restless
use Rattle.jc_order.proofs.laws.no_ended_pod_is_forgotten.Goals as goal

pub returns : goal.returns
returns c = record { since = both; busy = restless.busy; adds_or_retries = honesty.honest; rest = λ shape deeds over. no-rest shape deeds over.legal over.working over.quiet }
