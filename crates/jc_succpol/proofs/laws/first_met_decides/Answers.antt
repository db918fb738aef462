-- The lemmas on places, at the rules of a policy.
use Rattle.jc_succpol.specs.SuccessRules.{is_met}
use Rattle.jc_types.proofs.FirstPlaceFacts.{first_is_least, none_passes}
use Rattle.jc_succpol.proofs.laws.first_met_decides.Goals as goal

pub returns : goal.returns
returns c = record {
  least = λ policy completed n h. first_is_least (λ rule. is_met rule completed) policy.rules n h;
  none = λ policy completed h. none_passes (λ rule. is_met rule completed) policy.rules h;
}
