-- The lemmas on what is left over.
use Rattle.jc_plan.proofs.LeftFacts.{all-fit, none-left}
use Rattle.jc_plan.proofs.laws.plans_without_writes_leave_nothing.Goals as goal

pub returns : goal.returns
returns c = record {
  fits = λ job basis this rises writes. all-fit job basis this rises writes.0 writes.1;
  none = λ job basis this rises writes. none-left job basis this rises writes.0 writes.1;
}
