use Rattle.jc_states.proofs.BasisFacts.{basis-exact}
use Rattle.jc_states.proofs.laws.bases_are_compared.Goals as goal

pub returns : goal.returns
returns c = basis-exact
