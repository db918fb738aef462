-- The lemmas on the order of the pods that go.
use Rattle.jc_manage.proofs.Ordered.{let_goes-rise, marks-rise}
use Rattle.jc_manage.proofs.laws.pods_go_in_order.Goals as goal

pub returns : goal.returns
returns c = record {
  marks = marks-rise;
  let_goes = let_goes-rise;
}
