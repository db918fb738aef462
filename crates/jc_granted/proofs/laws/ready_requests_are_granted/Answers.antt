-- The lemmas on requests that find what they ask for.
use Rattle.jc_granted.proofs.GrantFacts.{is-granted, stays-ready}
use Rattle.jc_granted.proofs.laws.ready_requests_are_granted.Goals as goal

pub returns : goal.returns
returns c = record {
  granted = λ log now flight ask left stored flies. is-granted log now flight stored flies ask left;
  stay = λ log now flight ask left stored flies. stays-ready log now flight stored flies ask left;
}
