-- The lemmas on a new end.
use Rattle.jc_plan.proofs.PlanBounds.{first-released, first-rests, first-same, first-wound, second-rests, second-wound}
use Rattle.jc_plan.proofs.laws.ends_leave_nothing.Goals as goal

pub returns : goal.returns
returns c = record {
  first_leaves_no_pod = λ job basis gains. first-wound job basis gains.none gains.new;
  first_is_final = λ job basis gains. first-rests job basis gains.none gains.new;
  first_released = λ job basis gains. first-released job basis gains.none gains.new;
  first_same = λ job basis gains. first-same job basis gains.none gains.new;
  second_leaves_no_pod = λ job basis gains. second-wound job basis gains.none gains.new;
  second_is_final = λ job basis gains. second-rests job basis gains.none gains.new;
}
