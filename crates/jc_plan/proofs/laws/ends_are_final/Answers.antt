-- The lemmas on the two statuses.
use Rattle.jc_plan.proofs.ValueFacts.{first-closed, first-keeps, second-closed, second-keeps}
use Rattle.jc_plan.proofs.laws.ends_are_final.Goals as goal

pub returns : goal.returns
returns c = record {
  first_keeps = first-keeps;
  second_keeps = second-keeps;
  first_closed = λ job basis gains. first-closed job basis gains.none gains.new;
  second_closed = λ job basis gains. second-closed job basis gains.none gains.new;
}
