use Rattle.std.specs.Cmp.Lexicographic.{pointwise}
use Rattle.jc_types.specs.Equality.{same_container}
use Rattle.jc_types.proofs.EqualityFacts.{containers-exact, same_from_exact}
use Rattle.jc_store.proofs.reports.is_same_containers.Goals as goal

pub returns : goal.returns
returns c =
    same_from_exact (pointwise same_container) containers-exact c.is_same.result c.args.left.now c.args.right.now c.is_same.ensures
