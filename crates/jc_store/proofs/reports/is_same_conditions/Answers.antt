use Rattle.std.specs.Cmp.Lexicographic.{pointwise}
use Rattle.jc_types.specs.Equality.{same_pattern}
use Rattle.jc_types.proofs.EqualityFacts.{patterns-exact, same_from_exact}
use Rattle.jc_store.proofs.reports.is_same_conditions.Goals as goal

pub returns : goal.returns
returns c =
    same_from_exact (pointwise same_pattern) patterns-exact c.is_same.result c.args.left.now c.args.right.now c.is_same.ensures
