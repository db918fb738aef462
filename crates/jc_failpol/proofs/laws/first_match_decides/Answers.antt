-- The lemmas on places, at the rules of a policy.
use Rattle.jc_failpol.specs.Rules.{matches}
use Rattle.jc_types.proofs.FirstPlaceFacts.{first_is_least, none_passes}
use Rattle.jc_failpol.proofs.laws.first_match_decides.Goals as goal

pub returns : goal.returns
returns c = record {
  least = λ policy pod n h. first_is_least (λ rule. matches rule pod) policy.rules n h;
  none = λ policy pod h. none_passes (λ rule. matches rule pod) policy.rules h;
}
